-- Reading and writing undo each other.
use Rattle.std.proofs.Common.{◌≡◌, ℕ, suc, ◌+◌, ◌%◌, ◌^◌, ◌<◌, ◌≤◌, true, false, not, ◌&&◌, ◌||◌, eqb, leb, List, [], ◌∷◌, ◌++◌, map, length, take, drop, is_some, Some, None, Ok, sym, refl, ap, ◌∙◌, subst, ⊎_elim, arith}
use Rattle.std.specs.List.{All}
use Rattle.std.proofs.lemmas.List.{take_at, length-append}
use Rattle.std.proofs.lemmas.Bool.{cond-true, cond-false, cases_Bool, cases_eq, eqb-true, leb-true, or_cases, and_from, and_right, and_left, and_parts, both_ways}
use Rattle.elements.specs.declared.fault.MessageFault.TheVariants.{Mti, Unknown, Room}
use Rattle.iso8583.specs.declared.found.Found.{Found}
use Rattle.iso8583.specs.Bitmap.{marked, first}
use Rattle.composer.specs.Contents.{Item, item_of, content, content_of, on, all_put, composed}
use Rattle.iso8583.specs.Messages.{found_of}
use Rattle.iso8583.specs.Reading.{after, unless, body, elements, reading}
use Rattle.elements.specs.Table.{table, known}
use Rattle.composer.specs.Writing.{State, marks, bits_from, listed, outside, announced, head, laid, chosen, grown, begun, starting}
use Rattle.composer.proofs.Bitmaps.{Sound, sound_marks, bits_below, bits_at, marks_else, marks_one, one_marked, listed_small}
use Rattle.composer.proofs.Bodies.{text, Filled, ran, runs, on_ok, takes_up, PutDown, puts_down}
use Rattle.iso8583.proofs.Firsts.{first_fails}
use Rattle.composer.proofs.Heads.{mti_read, bits_read, after_head, Headed, headed}
use Rattle.composer.proofs.Lays.{length-head, laid_next, length-laid}
use Rattle.composer.proofs.Lows.{some_low, none_low}
use Rattle.iso8583.proofs.Outcomes.{same_ok, chosen_ok, unless_ok, after_is_ok}
use Rattle.iso8583.proofs.Presence.{Whole, taken_apart, found_marked, all_known, second_marks}
use Rattle.elements.proofs.Rows.{known_range, proper_table}
use Rattle.composer.proofs.Sets.{bits_same, bits_back}
use Rattle.composer.proofs.Starts.{started}
use Rattle.iso8583.proofs.Wholes.{read_whole}

all_listed : (P : ℕ → Type 0) (ns : List ℕ) (k : ℕ) → All P ns → listed ns k ≡ true → P k
all_listed P [] k a h = absurd (both_ways false refl h)
all_listed P (n ∷ ns) k a h = ⊎_elim (λ t. subst P (eqb-true n k t) (a 0 0 (omega arith))) (λ t. all_listed P ns k (λ j d l. a (suc j) d (omega arith)) t) (or_cases (eqb n k) (listed ns k) h)

-- the bitmap of a set that is announced
module _ (ns : List ℕ) (bits : ℕ) (small : All (λ n. n < 256) ns) (a : announced ns ≡ Ok bits) where
  none : first (outside ns) 0 256 ≡ None
  none = (unless_ok (first (outside ns) 0 256) (λ k. Unknown k 0) (bits_from (marks ns) 128) bits a).0

  is : bits_from (marks ns) 128 ≡ bits
  is = (unless_ok (first (outside ns) 0 256) (λ k. Unknown k 0) (bits_from (marks ns) 128) bits a).1

  at : (k : ℕ) → 1 ≤ k → k ≤ 128 → marked bits k ≡ marks ns k
  at k l h = ap (λ b. marked b k) (sym is) ∙ bits_at (marks ns) 128 k l h

  listed_known : (k : ℕ) → listed ns k ≡ true → known table k ≡ true
  listed_known k h = listed_small ns k none h (all_listed (λ n. n < 256) ns k small h)

  own : (k : ℕ) → 2 ≤ k → k ≤ 128 → marked bits k ≡ listed ns k
  own k l h = at k (omega arith) h ∙ marks_else ns k (λ e. omega arith)

  pub announced_sound : Sound bits
  announced_sound = record {
    small = subst (λ b. b < 2 ^ 128) is (bits_below (marks ns) 128);
    all_known = λ k l h m. listed_known k (sym (own k l h) ∙ m);
    second = λ m low.
        let e = marks_one ns (sym (at 1 (omega arith) (omega arith)) ∙ m) in
        let r = known_range table 1 e.0 proper_table (listed_known e.0 e.2) in
        both_ways _ (none_low bits e.0 low (omega (arith, e.1)) r.1) (own e.0 (omega (arith, r.0)) r.1 ∙ e.2);
    single = λ m. ⊎_elim (λ z. z)
        (λ n. let k = some_low bits n in
        absurd (both_ways _ m (at 1 (omega arith) (omega arith) ∙ one_marked ns k.0 (omega (arith, k.1)) (sym (own k.0 (omega (arith, k.1)) k.2) ∙ k.3))))
        (cases_eq (bits % 2 ^ 64) 0);
  }

-- a start that was made
pub record Begun (out : List ℕ) (mti : ℕ) (ns : List ℕ) (s : State) : Type 0 where
  pub four : mti ≤ 9999
  pub bits : ℕ
  pub set : announced ns ≡ Ok bits
  pub room : length (head mti bits) ≤ length out
  pub same : grown out 0 (head mti bits) (chosen table bits) ≡ s

begins : (out : List ℕ) (mti : ℕ) (ns : List ℕ) (s : State) → starting out mti ns ≡ Ok s → Begun out mti ns s
begins out mti ns s h =
    let a = chosen_ok (leb mti 9999) (after (announced ns) (begun out mti)) (Mti 0) s h in
    let b = after_is_ok (announced ns) (begun out mti) s a.1 in
    let c = chosen_ok (leb (length (head mti b.0)) (length out)) (Ok (grown out 0 (head mti b.0) (chosen table b.0))) (Room 0) s b.2 in
    record { four = leb-true mti 9999 a.0; bits = b.0; set = b.1; room = leb-true _ (length out) c.0; same = same_ok c.1 }

-- a message of a type, a sound bitmap and elements that fit it says just these
says : (mti bits : ℕ) (is : List Item) → mti ≤ 9999 → Sound bits → Filled (chosen table bits) is → content_of (head mti bits ++ text (chosen table bits) is) ≡ Ok (content mti is)
says mti bits is four sound filled =
    let t = text (chosen table bits) is in
    let w = head mti bits ++ t in
    let u = takes_up table 1 bits (head mti bits) is proper_table filled in
    let found : elements table bits (body bits) (drop (body bits) w) ≡ Ok u.found = (λ j. elements table bits (sym (length-head mti bits) j) (after_head mti bits t four sound j)) ∙ u.all in
    let r = read_whole w mti bits bits (sym (mti_read mti bits t four sound)) (sym (bits_read mti bits t four sound)) (sym (sound_marks bits sound)) u.found found in
    ap (λ p. after p (λ q. Ok (content q.mti (map (item_of w) q.elements)))) r ∙ ap (λ x. Ok (content mti x)) u.same

pub read_again : (out : List ℕ) (mti : ℕ) (is : List Item) (n : ℕ) → All (λ m. m < 256) (map (λ i. i.number) is) → (composed out mti is).answer ≡ Ok n → content_of (take n (composed out mti is).out) ≡ Ok (content mti is)
read_again out mti is n small h =
    let a = on_ok (starting out mti (map (λ i. i.number) is)) out (λ s. all_put s is) n h in
    let b = begins out mti (map (λ i. i.number) is) a.0 a.1 in
    let hd = head mti b.bits in
    let rows = chosen table b.bits in
    let t = text rows is in
    let goes : composed out mti is ≡ all_put (grown out 0 hd rows) is = a.2 ∙ ap (λ s. all_put s is) (sym b.same) in
    let keeps = length-laid out 0 hd (omega (arith, b.room)) in
    let r = ran rows is (laid out 0 hd) (0 + length hd) n (omega (arith, b.room)) (sym (ap (λ c. c.answer) goes) ∙ h) in
    let whole : (composed out mti is).out ≡ laid out 0 (hd ++ t) = ap (λ c. c.out) goes ∙ r.written ∙ laid_next out 0 (0 + length hd) hd t refl (omega (arith, r.long, r.room)) in
    let long : length (hd ++ t) ≡ n = omega (arith, r.long, length-append hd t) in
    let sound = announced_sound (map (λ i. i.number) is) b.bits small b.set in
    ap content_of (ap (take n) whole ∙ take_at (hd ++ t) (drop (0 + length (hd ++ t)) out) n long) ∙ says mti b.bits is b.four sound r.filled

-- the numbers of elements that were read
listed_found : (bs : List ℕ) (es : List Found) (k : ℕ) → listed (map (λ i. i.number) (map (item_of bs) es)) k ≡ is_some (found_of es k)
listed_found bs [] k = refl
listed_found bs (e ∷ es) k =
    ⊎_elim
    (λ t. ap (λ b. b || listed (map (λ i. i.number) (map (item_of bs) es)) k) t ∙ sym (ap is_some (cond-true _ (Some e) (found_of es k) t)))
    (λ f. ap (λ b. b || listed (map (λ i. i.number) (map (item_of bs) es)) k) f ∙ listed_found bs es k ∙ sym (ap is_some (cond-false _ (Some e) (found_of es k) f)))
    (cases_Bool (eqb e.element k))

-- a message that was read
module _ (bs : List ℕ) (mti bits : ℕ) (es : List Found) (w : Whole bs mti bits es) where
  abbrev its : List Item
  its = map (item_of bs) es

  abbrev nums : List ℕ
  nums = map (λ i. i.number) its

  hd : Headed bs mti bits
  hd = headed bs mti bits w.typed w.mapped

  pub read_sound : Sound bits
  read_sound = record {
    small = hd.small;
    all_known = λ k l h m. all_known bits w.marks k w.known_only l h m;
    second = second_marks bits w.marks w.known_only;
    single = hd.single;
  }

  in_bits : (k : ℕ) → listed nums k ≡ (known table k && marked bits k)
  in_bits k = listed_found bs es k ∙ found_marked table bits (body bits) (drop (body bits) bs) es k w.found

  no_stranger : first (outside nums) 0 256 ≡ None
  no_stranger = first_fails (outside nums) 0 256 (λ j l h.
      ⊎_elim (λ t. and_right _ _ (ap not t)) (λ f. and_left _ _ (in_bits j ∙ and_left _ _ f)) (cases_Bool (known table j)))

  own_mark : (k : ℕ) → 2 ≤ k → k ≤ 128 → marked bits k ≡ marks nums k
  own_mark k l h =
      sym (marks_else nums k (λ e. omega arith) ∙ in_bits k
      ∙ ⊎_elim (λ m. ap (λ b. b && marked bits k) (read_sound.all_known k l h m)) (λ m. and_right _ _ m ∙ sym m) (cases_Bool (marked bits k)))

  one_mark : marked bits 1 ≡ marks nums 1
  one_mark =
      ⊎_elim
      (λ m. let k = some_low bits (read_sound.second m) in
      m ∙ sym (one_marked nums k.0 (omega (arith, k.1)) (in_bits k.0 ∙ and_from _ _ (read_sound.all_known k.0 (omega (arith, k.1)) k.2 k.3) k.3)))
      (λ m. m ∙ sym (⊎_elim
      (λ t. let e = marks_one nums t in
      let p = and_parts _ _ (sym (in_bits e.0) ∙ e.2) in
      let r = known_range table 1 e.0 proper_table p.0 in
      absurd (both_ways _ (none_low bits e.0 (read_sound.single m) (omega (arith, e.1)) r.1) p.1))
      (λ f. f)
      (cases_Bool (marks nums 1))))
      (cases_Bool (marked bits 1))

  pub read_announced : announced nums ≡ Ok bits
  read_announced =
      ap (λ o. unless o (λ k. Unknown k 0) (bits_from (marks nums) 128)) no_stranger
      ∙ ap (λ b. Ok b) (sym (sym (bits_back 128 bits hd.small) ∙ bits_same (marked bits) (marks nums) 128 (λ k l h. ⊎_elim (λ e. ap (marked bits) e ∙ one_mark ∙ ap (marks nums) (sym e)) (λ n. own_mark k (omega arith) h) (cases_eq k 1))))

  -- its elements are the text behind its head
  abbrev pre : List ℕ
  pre = head mti bits

  abbrev cs : List ℕ
  cs = drop (body bits) bs

  down : PutDown table bits cs its
  down =
      subst (λ l. PutDown table bits cs (map (item_of l) es)) hd.whole
      (puts_down table bits pre cs es (ap (λ n. elements table bits n cs) (length-head mti bits) ∙ w.found))

  pub read_composed : (out : List ℕ) → length bs ≤ length out → composed out mti its ≡ record { answer = Ok (length bs); out = laid out 0 bs }
  read_composed out room =
      let rows = chosen table bits in
      let long : body bits + length cs ≡ length bs = omega (arith, length-head mti bits, sym (length-append pre cs) ∙ ap length hd.whole) in
      let tl : length (text rows its) ≡ length cs = ap length down.same in
      let keeps = length-laid out 0 pre (omega (arith, length-head mti bits)) in
      let at : body bits ≡ 0 + length pre = omega (arith, length-head mti bits) in
      let answer : body bits + length (text rows its) ≡ length bs = omega arith in
      ap (λ r. on r out (λ s. all_put s its)) (started out mti nums hd.four bits (sym read_announced) (omega arith))
      ∙ runs rows its (laid out 0 pre) (body bits) down.filled (omega arith)
      ∙ (λ j. record { answer = Ok (answer j); out = (laid_next out 0 (body bits) pre (text rows its) at (omega arith) ∙ ap (λ l. laid out 0 (pre ++ l)) down.same ∙ ap (laid out 0) hd.whole) j })

pub yielded_again : (out : List ℕ) (mti : ℕ) (is : List Item) (bs : List ℕ) → content_of bs ≡ Ok (content mti is) → length bs ≤ length out → composed out mti is ≡ record { answer = Ok (length bs); out = laid out 0 bs }
yielded_again out mti is bs h room =
    let a = after_is_ok (reading bs) (λ p. Ok (content p.mti (map (item_of bs) p.elements))) (content mti is) h in
    let p = a.0 in
    let same = same_ok a.2 in
    let w = taken_apart bs p.mti p.bits p.elements a.1 in
    (λ j. composed out (sym (ap (λ c. c.mti) same) j) (sym (ap (λ c. c.items) same) j)) ∙ read_composed bs p.mti p.bits p.elements w out room
