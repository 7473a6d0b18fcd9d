-- What a message tells of its own bytes.
use Rattle.std.proofs.Common.{◌≡◌, ℕ, eqb, List, [], ◌∷◌, map, is_some, Some, None, Ok, Option, sym, refl, ap, ◌∙◌, ⊎_elim, arith}
use mathlib.Core.Logic.{∥∥₁_elim}
use base.Stored.{Coded, coded_ℕ, coded_bool, coded_list, coded_via}
use denote.Struct.Props.{≡_prop}
use Rattle.std.specs.List.{between}
use Rattle.std.proofs.lemmas.Bool.{cond-true, cond-false, cases_Bool}
use Rattle.iso8583.specs.declared.found.Found.{Found}
use Rattle.iso8583.specs.declared.message.Element.{Element}
use Rattle.iso8583.specs.declared.message.Message.{Message}
use Rattle.iso8583.specs.Messages.{found_of, parts_of, present, Handed}
use Rattle.iso8583.specs.Reading.{after}
use Rattle.iso8583.proofs.Presence.{taken_apart, found_present}
use Rattle.composer.specs.Contents.{content, item_of}
use Rattle.replies.specs.Replies.{bytes_of, came, chars_in, chars_of, type_in, type_of}

-- the characters of an element that was found
abbrev pub chars_at : List ℕ → Option Found → Option (List ℕ)
chars_at bs None = None
chars_at bs (Some e) = Some (between e.start e.end bs)

chars_found : (bs : List ℕ) (es : List Found) (k : ℕ) → chars_of (map (item_of bs) es) k ≡ chars_at bs (found_of es k)
chars_found bs [] k = refl
chars_found bs (e ∷ es) k =
    ⊎_elim
    (λ t. cond-true _ _ _ t ∙ sym (ap (chars_at bs) (cond-true _ (Some e) (found_of es k) t)))
    (λ f. cond-false _ _ _ f ∙ chars_found bs es k ∙ sym (ap (chars_at bs) (cond-false _ (Some e) (found_of es k) f)))
    (cases_Bool (eqb e.element k))

-- characters that may be there are equal in one way only
as_list : Option (List ℕ) → List (List ℕ)
as_list None = []
as_list (Some cs) = cs ∷ []

as_list_same : (x y : Option (List ℕ)) → as_list x ≡ as_list y → x ≡ y
unfolding as_list
as_list_same None None e = refl
as_list_same None (Some d) e = absurd (let z : ◌≡◌ {A = ℕ} 0 1 = cc in omega arith)
as_list_same (Some c) None e = absurd (let z : ◌≡◌ {A = ℕ} 0 1 = cc in omega arith)
as_list_same (Some c) (Some d) e = cc

coded_chars : Coded (Option (List ℕ))
coded_chars = coded_via (coded_list (coded_list coded_ℕ)) as_list as_list_same

module _ (m : Message) where
  abbrev bs : List ℕ
  bs = bytes_of m

  came_found : (k : ℕ) → came bs k ≡ chars_at bs (found_of (parts_of m).elements k)
  unfolding came
  came_found k =
      ∥∥₁_elim m.whole (≡_prop coded_chars _ _)
      (λ w. ap (λ r. chars_in (after r (λ p. Ok (content p.mti (map (item_of bs) p.elements)))) k) w ∙ chars_found bs (parts_of m).elements k)

  pub type_read : type_of bs ≡ m.layout.mti
  unfolding type_of
  type_read = ∥∥₁_elim m.whole (≡_prop coded_ℕ _ _) (λ w. ap (λ r. type_in (after r (λ p. Ok (content p.mti (map (item_of bs) p.elements))))) w)

  -- an element is there exactly if it came
  some_chars : (o : Option Found) → is_some (chars_at bs o) ≡ is_some o
  some_chars None = refl
  some_chars (Some e) = refl

  pub came_present : (k : ℕ) → is_some (came bs k) ≡ present m k
  came_present k =
      ap is_some (came_found k) ∙ some_chars (found_of (parts_of m).elements k)
      ∙ ∥∥₁_elim m.whole (≡_prop coded_bool _ _) (λ w. found_present bs m.layout.mti m.layout.bitmap (parts_of m).elements k (taken_apart _ _ _ _ w))

  -- and is lent with the characters that came
  pub came_not : (k : ℕ) → Handed m k None → came bs k ≡ None
  came_not k h = came_found k ∙ ap (chars_at bs) h

  pub came_lent : (k : ℕ) (e : Element) → Handed m k (Some e) → came bs k ≡ Some e.chars.now
  came_lent k e h = came_found k ∙ ap (chars_at bs) h.here ∙ ap (λ c. Some c) (sym h.chars)
