-- Routes from prefixes to banks, and the one that a card takes.
use Rattle.std.specs.Prelude.{◌≡◌, ℕ, ◌≤◌, Bool, true, false, cond, not, ◌&&◌, List, length, Some, None, Option, nat_le, nat_lt}
use Rattle.std.specs.Option.{unwrap_or}
use Rattle.std.specs.List.{All, Contains, list_any, fold}
use Rattle.host.specs.declared.line.Card.{Card}
use Rattle.members.specs.declared.prefix.Prefix.{Prefix}
use Rattle.members.specs.declared.routes.Route.{Route}
use Rattle.members.specs.declared.routes.Way.{Way}
use Rattle.members.specs.Codes.{known, place_in}
use Rattle.members.specs.Each.{each}
use Rattle.members.specs.Prefixes.{formed, same_prefix, fits}

-- some route has this prefix
abbrev pub among : Prefix → List Route → Bool
among p rs = list_any (λ r. same_prefix r.prefix p) rs

-- a switch with these banks may have this route, beside those that come after it
abbrev pub proper_route : List ℕ → Route → List Route → Bool
proper_route codes r later = formed r.prefix && known codes r.bank && not (among r.prefix later)

-- what a switch with these banks can be opened with: at most 64 proper routes, no prefix twice
abbrev pub sound_routes : List ℕ → List Route → Bool
sound_routes codes rs = nat_le (length rs) 64 && each (proper_route codes) rs

-- a route, by its bank's place. The bank of a proper route is known, so the 0 is never used.
abbrev pub way_of : List ℕ → Route → Way
way_of codes r = record { prefix = r.prefix; issuer = unwrap_or (place_in codes r.bank) 0 }

-- a way has a longer prefix than the one found so far, if there is one
abbrev pub longer : Way → Option Way → Bool
longer w None = true
longer w (Some v) = nat_lt v.prefix.count w.prefix.count

-- a card takes a way rather than the one found so far
abbrev pub better : Way → Option Way → Card → Bool
better w best card = fits w.prefix card && longer w best

-- the way with the longest prefix that fits a card, of these and of one found before
abbrev pub longest : Option Way → List Way → Card → Option Way
longest best ws card = fold (λ b w. cond (better w b card) (Some w) b) best ws

abbrev pub issuer_of : Option Way → Option ℕ
issuer_of None = None
issuer_of (Some w) = Some w.issuer

-- the place of the bank that issued a card
abbrev pub route_of : List Way → Card → Option ℕ
route_of ws card = issuer_of (longest None ws card)

-- one of these ways fits a card, and no other that fits has a longer prefix
pub record Takes (ws : List Way) (card : Card) (w : Way) : Type 0 where
  pub kept : Contains ws w
  pub begins : fits w.prefix card ≡ true
  pub most : All (λ v. fits v.prefix card ≡ true → v.prefix.count ≤ w.prefix.count) ws

-- the issuer's place is that of the way that a card takes; none where no way fits
abbrev pub Issued : List Way → Card → Option ℕ → Type 0
Issued ws card None = All (λ v. fits v.prefix card ≡ false) ws
Issued ws card (Some i) = (w : Way) × Takes ws card w × (i ≡ w.issuer)
