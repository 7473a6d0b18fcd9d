-- The places of the banks.
use Rattle.std.proofs.Common.{ℕ, ◌<◌, ◌≤◌, List, map, length, get_or, arith}
use Rattle.std.proofs.lemmas.Bool.Decides.{nat_tests}
use Rattle.std.proofs.lemmas.List.Elements.{All-map}
use Rattle.std.specs.List.{All}
use Rattle.members.specs.declared.routes.Route.{Route}
use Rattle.members.specs.Routing.{way_of}

way_near : (codes : List ℕ) (r : Route) → length codes ≤ 16 → (way_of codes r).issuer < 16
way_near codes r few = grind (arith, nat_tests)

-- of 16 banks or fewer, routes name one of the first 16 places
pub ways_near : (codes : List ℕ) (rs : List Route) → length codes ≤ 16 → All (λ w. w.issuer < 16) (map (way_of codes) rs)
ways_near codes rs few = All-map (λ w. w.issuer < 16) (way_of codes) rs (λ k d h. way_near codes (get_or rs k d) few)
