-- A trial host: what its script has it answer.
use Rattle.std.specs.Prelude.{ℕ, min, max, Bool, false, cond, ◌&&◌, List, [], ◌∷◌, Some, None, Option, ◌==◌}
use Rattle.std.specs.Vec.Iter.{into_iter_items}
use Rattle.host.specs.declared.ask.PostAnswer.{PostAnswer}
use Rattle.host.specs.declared.ask.PostAnswer.TheVariants as posting
use Rattle.host.specs.declared.ask.ReverseAnswer.{ReverseAnswer}
use Rattle.host.specs.declared.ask.ReverseAnswer.TheVariants as reversing
use Rattle.host.specs.declared.line.Details.{Details}
use Rattle.host.specs.declared.line.Key.{Key}
use Rattle.host.specs.declared.line.Line.{Line}
use Rattle.host.specs.declared.line.Line.TheVariants.{Absent, Posted, Adrift, Leaving, Closed}
use Rattle.lines.specs.Answers.{same, reverse_answer}
use Rattle.trials.specs.declared.script.Cue.{Cue}
use Rattle.trials.specs.declared.script.Script.{Script}
use Rattle.trials.specs.declared.script.Word.{Word}
use Rattle.trials.specs.declared.script.Word.TheVariants as word

-- what is left of the script
abbrev pub cues_left : Script → List Cue
cues_left s = into_iter_items s.cues

-- the cue that an ask takes: posted, once they run out
abbrev pub first_cue : List Cue → Cue
first_cue [] = record { word = word.Posted; holds = false }
first_cue (c ∷ cs) = c

-- a code of 1 to 99
abbrev pub code_of : ℕ → ℕ
code_of c = min (max c 1) 99

-- what a word answers where the host may book or not
abbrev pub by_word : Word → PostAnswer
by_word word.Posted = posting.Posted
by_word word.Silence = posting.Silence
by_word (word.Decline c) = posting.Declined (code_of c)

-- with no line, posted and silence need a place
abbrev pub on_none : Word → ℕ → PostAnswer
on_none word.Posted free = cond (free == 0) (posting.Declined 96) posting.Posted
on_none word.Silence free = cond (free == 0) (posting.Declined 96) posting.Silence
on_none (word.Decline c) free = posting.Declined (code_of c)

abbrev pub on_posted : Word → PostAnswer
on_posted word.Posted = posting.Posted
on_posted word.Silence = posting.Silence
on_posted (word.Decline c) = posting.Posted

abbrev pub on_closed : Word → PostAnswer
on_closed word.Posted = posting.Declined 21
on_closed word.Silence = posting.Silence
on_closed (word.Decline c) = posting.Declined (code_of c)

-- what a post is answered, by the line found
abbrev pub trial_answer : Word → ℕ → Line → Details → PostAnswer
trial_answer w free Absent d = on_none w free
trial_answer w free (Posted e) d = cond (same e d) (on_posted w) posting.Clash
trial_answer w free (Adrift e) d = cond (same e d) (by_word w) posting.Clash
trial_answer w free (Leaving e) d = posting.Silence
trial_answer w free Closed d = on_closed w

-- a reverse is silent by the word silence, and where it wants a place
abbrev pub trial_reverse : Word → ℕ → Line → ReverseAnswer
trial_reverse word.Posted free l = reverse_answer free l
trial_reverse word.Silence free l = reversing.Silence
trial_reverse (word.Decline c) free l = reverse_answer free l

-- the key that an ask makes held, in the place of any other
abbrev pub holding : Cue → Key → Option Key
holding c key = cond c.holds (Some key) None

abbrev pub is_held : Option Key → ℕ → ℕ → Bool
is_held None issuer number = false
is_held (Some k) issuer number = k.issuer == issuer && k.number == number
