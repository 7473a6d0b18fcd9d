-- A walk over the rows of the table, and what it has found after i of them.
use Rattle.std.proofs.Common.{◌≡◌, ℕ, ◌+◌, ◌-◌, ◌<◌, ◌≤◌, true, false, List, [], ◌∷◌, ◌++◌, length, get_or, drop, Ok, Err, Result, sym, refl, ap, ◌∙◌, subst, append_assoc, arith}
use Rattle.std.proofs.lemmas.List.{drop_more, drop_all, drop-drop, length-drop, length-append, length_push}
use Rattle.std.proofs.lemmas.Bool.{cond-true, cond-false}
use Rattle.elements.specs.declared.fault.MessageFault.{MessageFault}
use Rattle.elements.specs.declared.fault.MessageFault.TheVariants.{Trailing}
use Rattle.iso8583.specs.declared.found.Found.{Found}
use Rattle.iso8583.specs.Bitmap.{marked}
use Rattle.iso8583.specs.Reading.{after, before, body, lifted, elements, sized}
use Rattle.elements.specs.Table.{table, blank}
use Rattle.iso8583.proofs.Elements.{spelt}

-- what was found already, before what is found yet
abbrev pub prefixed : List Found → Result (List Found) MessageFault → Result (List Found) MessageFault
prefixed es (Ok fs) = Ok (es ++ fs)
prefixed es (Err f) = Err f

prefixed_more : (es : List Found) (e : Found) (r : Result (List Found) MessageFault) → prefixed es (before e r) ≡ prefixed (es ++ e ∷ []) r
prefixed_more es e (Ok fs) = ap (λ l. Ok l) (sym (append_assoc es (e ∷ []) fs))
prefixed_more es e (Err f) = refl

abbrev pub rest_of : List ℕ → ℕ → ℕ → ℕ → Result (List Found) MessageFault
rest_of bs bits i at = elements (drop i table) bits at (drop at bs)

pub record Walking (bs : List ℕ) (bits i at : ℕ) (found : List Found) : Type 0 where
  pub inside : at ≤ length bs
  pub few : length found ≤ i
  pub so_far : elements table bits (body bits) (drop (body bits) bs) ≡ prefixed found (rest_of bs bits i at)

module _ (bs : List ℕ) (bits : ℕ) where
  module _ (i at : ℕ) (found : List Found) (w : Walking bs bits i at found) where
    opened : i < length table → rest_of bs bits i at ≡ elements (get_or table i blank ∷ drop (i + 1) table) bits at (drop at bs)
    opened h = ap (λ rs. elements rs bits at (drop at bs)) (drop_more table i blank h)

    pub walk_passes : i < length table → marked bits (get_or table i blank).element ≡ false → Walking bs bits (i + 1) at found
    walk_passes h m =
        record {
          inside = w.inside;
          few = omega (arith, w.few);
          so_far = w.so_far ∙ ap (prefixed found) (opened h ∙ cond-false _ _ _ m);
        }

    pub walk_finds : (e : Found) → i < length table → marked bits (get_or table i blank).element ≡ true → sized (get_or table i blank).length (get_or table i blank) at (drop at bs) ≡ Ok e → Walking bs bits (i + 1) e.end (found ++ e ∷ [])
    walk_finds e h m ok =
        let s = spelt (get_or table i blank).length (get_or table i blank) at (drop at bs) e ok in
        let whole = ap length s.whole ∙ length-append _ s.rest in
        let long = length-drop at bs in
        let back : at + (e.end - at) ≡ e.end = omega (arith, s.ends) in
        let next : rest_of bs bits i at ≡ before e (rest_of bs bits (i + 1) e.end) =
        opened h ∙ cond-true _ _ _ m
        ∙ ap (λ r. after (lifted r) (λ f. before f (elements (drop (i + 1) table) bits f.end (drop (f.end - at) (drop at bs))))) ok
        ∙ ap (λ cs. before e (elements (drop (i + 1) table) bits e.end cs)) (drop-drop (e.end - at) at bs ∙ ap (λ k. drop k bs) back) in
        record {
          inside = omega (arith, s.ends, w.inside);
          few = omega (arith, w.few, length_push found e);
          so_far = w.so_far ∙ ap (prefixed found) next ∙ prefixed_more found e _;
        }

    ended : length table ≤ i → rest_of bs bits i at ≡ elements [] bits at (drop at bs)
    ended h = ap (λ rs. elements rs bits at (drop at bs)) (drop_all i table h)

    pub walk_trails : length table ≤ i → at < length bs → elements table bits (body bits) (drop (body bits) bs) ≡ Err (Trailing at)
    walk_trails h l = w.so_far ∙ ap (prefixed found) (ended h ∙ ap (elements [] bits at) (drop_more bs at 0 l))

pub walking_on : {bs : List ℕ} {bits i at at' : ℕ} {found found' : List Found} → at' ≡ at → found' ≡ found → Walking bs bits i at found → Walking bs bits i at' found'
walking_on {bs} {bits} {i} {at} {at'} {found} {found'} a f w =
    subst (λ x. Walking bs bits i x found') (sym a) (subst (Walking bs bits i at) (sym f) w)
