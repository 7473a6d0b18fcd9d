use Rattle.std.proofs.Common.{◌≡◌, Bool, List, map, length, take, drop}
use Rattle.members.specs.Each.{each, KeepsBy}
use Rattle.members.proofs.keeping.all_kept.Given as goal

-- those before place i are kept, and those from there on tell the rest
abbrev pub invariant-loop-i : goal.invariant-loop-i
invariant-loop-i g l =
    record {
      count : length l.kept.items ≡ l.i;
      rest : (test : g.row.T.Denot → List g.row.T.Denot → Bool) (form : g.row.T.Denot → g.row.U.Denot) → KeepsBy g.F.Fn l.keep test form → (l.kept.items ≡ map form (take l.i l.items)) × (each test (drop l.i l.items) ≡ each test l.items);
    }
