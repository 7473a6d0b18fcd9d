use Rattle.std.proofs.Common.{◌≡◌, ℕ, ◌-◌, ◌<◌, List, length, get_or, take, drop, refl, sym, ap, ◌∙◌, rules, arith}
use Rattle.std.proofs.lemmas.List.{take_rest, take_more_set, length-set}
use Rattle.elements.specs.declared.table.TheConstants.{ROWS}
use Rattle.elements.specs.declared.table.Row.{Row}
use Rattle.iso8583.specs.Bitmap.{marked}
use Rattle.iso8583.specs.Reading.{sized}
use Rattle.elements.specs.Table.{table, blank}
use Rattle.elements.proofs.Rows.{row_range}
use Rattle.iso8583.proofs.Walks.{walk_passes, walk_finds, walk_trails, walking_on}
use Rattle.iso8583.proofs.read.read_elements.Goals as goal
use Rattle.iso8583.proofs.read.read_elements.Goals.{then-is_marked+in_ok-element, else-is_marked}

-- the array has a place for each row
room : ROWS ≡ length table
unfolding table
room = refl

pub loop-row-init : goal.loop-row-init
loop-row-init c = search (rules, room)

pub is_marked-requires : goal.is_marked-requires
is_marked-requires c = search (rules, row_range)

pub bounds-found-count : goal.bounds-found-count
unfolding table
bounds-found-count c = omega (arith, ap length c.rows-row-items.ensures)

pub offset_bounds-found-count : goal.offset_bounds-found-count
unfolding table
offset_bounds-found-count c = omega (arith, ap length c.rows-row-items.ensures)

-- what the code reads of the table and the bytes is what the format says
same_element : (rs : List Row) (bs : List ℕ) (i at : ℕ) → rs ≡ table → sized (get_or rs i blank).length (get_or rs i blank) at (take (length bs - at) (drop at bs)) ≡ sized (get_or table i blank).length (get_or table i blank) at (drop at bs)
same_element rs bs i at same = λ j. sized (get_or (same j) i blank).length (get_or (same j) i blank) at (take_rest bs at j)

pub loop-row-preserved : goal.loop-row-preserved
loop-row-preserved c =
    let bs = c.args.bytes.now in
    let bits = c.args.bitmap in
    let i = c.loop-row.row-index in
    let at = c.loop-row.at in
    let same = c.rows-row-items.ensures in
    let near : i < length table = omega (arith, ap length same) in
    let mark = ap (λ rs. marked bits (get_or rs i blank).element) (sym same) in
    let before = c.loop-row.invariant in
    elim c.if-is_marked.branch [
      | then-is_marked+in_ok-element w ↦ record {
        room = ap length w.found-is ∙ length-set c.loop-row.found c.loop-row.count w.in_ok-element.element ∙ before.room;
        few = omega arith;
        walking =
            walking_on w.at-is
            ((λ j. take (w.count-is j) (w.found-is j)) ∙ take_more_set c.loop-row.found c.loop-row.count w.in_ok-element.element (omega arith))
            (walk_finds bs bits i at _ before.walking w.in_ok-element.element near
            (mark ∙ sym w.if-is_marked.ensures)
            (sym (w.in_ok-element.ensures ∙ same_element _ bs i at same)));
      }
      | else-is_marked w ↦ record {
        room = ap length w.found-is ∙ before.room;
        few = omega arith;
        walking =
            walking_on w.at-is (λ j. take (w.count-is j) (w.found-is j))
            (walk_passes bs bits i at _ before.walking near (mark ∙ sym w.if-is_marked.ensures));
      }
    ]

pub returns-then-at-bytes : goal.returns-then-at-bytes
returns-then-at-bytes c = search (rules, walk_trails)
