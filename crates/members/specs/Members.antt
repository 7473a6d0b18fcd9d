-- What banks and routes that were opened hold.
use Rattle.std.specs.Prelude.{◌≡◌, ℕ, true, false, List, map, take, Ok, Err, Result}
use Rattle.elements.specs.declared.fault.SwitchFault.{SwitchFault}
use Rattle.elements.specs.declared.fault.SwitchFault.TheVariants as fault
use Rattle.members.specs.declared.banks.Banks.{Banks}
use Rattle.members.specs.declared.routes.Route.{Route}
use Rattle.members.specs.declared.routes.Routes.{Routes}
use Rattle.members.specs.declared.routes.Way.{Way}
use Rattle.members.specs.Codes.{sound_banks}
use Rattle.members.specs.Routing.{sound_routes, way_of}

-- the banks' codes; a bank's place is where its code stands, from 0 on
abbrev pub codes_of : Banks → List ℕ
codes_of b = take b.count b.codes

-- banks are opened exactly if their codes are sound, and are then those codes
abbrev pub Opened : List ℕ → Result Banks SwitchFault → Type 0
Opened cs (Ok b) = (sound_banks cs ≡ true) × (codes_of b ≡ cs)
Opened cs (Err f) = (sound_banks cs ≡ false) × (f ≡ fault.Banks)

-- the routes, by their banks' places
abbrev pub routes_of : Routes → List Way
routes_of r = take r.count r.ways

-- routes are opened exactly if they are sound for the banks, and are then those routes by their banks' places
abbrev pub Routed : List ℕ → List Route → Result Routes SwitchFault → Type 0
Routed codes rs (Ok r) = (sound_routes codes rs ≡ true) × (routes_of r ≡ map (way_of codes) rs)
Routed codes rs (Err f) = (sound_routes codes rs ≡ false) × (f ≡ fault.Routes)
