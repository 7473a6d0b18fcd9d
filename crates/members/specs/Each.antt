-- Lists that are kept whole or not at all.
use Rattle.std.specs.Prelude.{◌≡◌, ℕ, Bool, true, false, ◌&&◌, List, [], ◌∷◌, map, length, cond, nat_le, Some, None, Option}
use Rattle.std.specs.Fn.{Shared}
use Rattle.std.specs.Borrow.{Bor}
use Rattle.arrayvec.specs.ArrayVec.{ArrayVec}

-- every one passes a test, which also sees those after it
abbrev pub each : {X : Type 0} → (X → List X → Bool) → List X → Bool
each test [] = true
each test (x ∷ xs) = test x xs && each test xs

-- f keeps an item in this form if it passes the test beside those after it, and else does not
pub record KeepsBy {F X Y : Type 0} (g : Shared F (Bor X × (Bor (List X) × Unit {0})) (Option Y)) (f : F) (test : X → List X → Bool) (form : X → Y) : Type 0 where
  pub keeps : (x : Bor X) (later : Bor (List X)) (r : Option Y) → g.post f (x, (later, tt)) r → r ≡ cond (test x.now later.now) (Some (form x.now)) None

-- all are kept, each in its form, exactly if they are few enough and each passes the test
abbrev pub AllKept : {X Y : Type 0} → (X → List X → Bool) → (X → Y) → ℕ → List X → Option (ArrayVec Y) → Type 0
AllKept test form most xs None = nat_le (length xs) most && each test xs ≡ false
AllKept test form most xs (Some ys) = (nat_le (length xs) most && each test xs ≡ true) × (ys.items ≡ map form xs)
