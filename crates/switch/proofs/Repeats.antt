-- A repeat is answered by a code of two digits.
use Rattle.std.proofs.Common.{◌≡◌, ℕ, ◌*◌, ◌^◌, ◌≤◌, Bool, true, false, ◌&&◌, ltb, arith}
use Rattle.std.proofs.lemmas.Bool.{and_parts, ltb-true}
use Rattle.journal.specs.Entries.{repeated}
use Rattle.journal.specs.declared.entry.Entry.{Entry}
use Rattle.journal.specs.declared.entry.State.{State}
use Rattle.journal.specs.declared.entry.State.TheVariants.{Waiting, Completed, Declined, Owed, Reversed, Barred}
use Rattle.books.specs.Sizes.{small}

repeated_small : (st : State) (same : Bool) (code : ℕ) → code ≤ 99 → repeated st same code ≤ 99
repeated_small Barred same code h = omega arith
repeated_small Waiting true code h = h
repeated_small Waiting false code h = omega arith
repeated_small Completed true code h = h
repeated_small Completed false code h = omega arith
repeated_small Declined true code h = h
repeated_small Declined false code h = omega arith
repeated_small Owed true code h = h
repeated_small Owed false code h = omega arith
repeated_small Reversed true code h = h
repeated_small Reversed false code h = omega arith

pub repeat_small : (e : Entry) (same : Bool) → small e ≡ true → repeated e.state same e.code ≤ 99
repeat_small e same h =
    let p = and_parts (ltb e.number (16 * 10 ^ 16) && ltb e.issuer 16 && ltb e.code 100) (ltb e.terms.amount (10 ^ 12)) h in
    let q = and_parts (ltb e.number (16 * 10 ^ 16) && ltb e.issuer 16) (ltb e.code 100) p.0 in
    repeated_small e.state same e.code (omega (arith, ltb-true e.code 100 q.1))
