-- `place_strings` meets its contract. Invariant: storing the strings from place j on completes the three tables. Assumes nothing.
use Prim.Native.Nat.{◌≤◌}
use native.Mathlib.Omega.{arith}
use lib.ListN.{length}
use Rattle.apply_strings.proofs.Placements.{placing_begins, placing_next, placing_ends, named, part-asked, letters_inside, weights_inside}
use Rattle.apply_strings.proofs.Placements.{letters-asked, letters_room, weights_room, at_few, few_weights}
use Rattle.apply_strings.proofs.inner.place_strings.Goals as goal
use Rattle.apply_strings.proofs.inner.place_strings.Goals.{After-part_of-start}

-- the part lies inside the tables
letters-here : (c : After-part_of-start) → let r = c.part_of-start.result in (r.start ≤ r.end) × (r.end ≤ length c.args.given.letters.now)
letters-here c = letters_inside c.requires.placeable _ c.loop-j-test.true c.part_of-start.result c.part_of-start.ensures

weights-here : (c : After-part_of-start) → let r = c.part_of-start.result in (r.first ≤ r.last) × (r.last ≤ length c.args.given.weights.now)
weights-here c = weights_inside c.requires.placeable _ c.loop-j-test.true c.part_of-start.result c.part_of-start.ensures

pub loop-j-init : goal.loop-j-init
loop-j-init c = let g = c.requires in placing_begins g.placeable g.room.0 g.room.1 g.room.2

pub overflow_sub-work : goal.overflow_sub-work
overflow_sub-work c = omega (arith, named c.requires.placeable c.loop-j.j c.loop-j-test.true)

pub part_of-start-requires : goal.part_of-start-requires
part_of-start-requires c = part-asked c.requires.placeable c.loop-j.j c.loop-j-test.true

pub slice_bounds-write_letters-count : goal.slice_bounds-write_letters-count
slice_bounds-write_letters-count c = omega (arith, letters-here (goal.at.slice_bounds-write_letters-count c).After-part_of-start)

pub slice_bounds-write_letters-start : goal.slice_bounds-write_letters-start
slice_bounds-write_letters-start c = omega (arith, letters-here (goal.at.slice_bounds-write_letters-start c).After-part_of-start)

pub slice_bounds-write_letters-end : goal.slice_bounds-write_letters-end
slice_bounds-write_letters-end c = omega (arith, letters-here (goal.at.slice_bounds-write_letters-end c).After-part_of-start)

pub write_letters-requires : goal.write_letters-requires
write_letters-requires c =
    let p = c.requires.placeable in
    let l = c.loop-j-test.true in
    let r = c.part_of-start.result in
    let o = c.part_of-start.ensures in
    (letters_room p c.loop-j.invariant l r o, letters-asked p _ l r o)

pub offset_bounds-given-first : goal.offset_bounds-given-first
offset_bounds-given-first c = omega (arith, weights-here (goal.at.offset_bounds-given-first c).After-part_of-start, few_weights c.requires.placeable)

pub slice_bounds-write_column-end : goal.slice_bounds-write_column-end
slice_bounds-write_column-end c = omega (arith, weights-here (goal.at.slice_bounds-write_column-end c).After-part_of-start)

pub write_column-requires : goal.write_column-requires
write_column-requires c = weights_room c.requires.placeable c.loop-j.invariant c.loop-j-test.true c.part_of-start.result c.part_of-start.ensures

pub overflow_sub-at : goal.overflow_sub-at
overflow_sub-at c = omega (arith, letters-here (goal.at.overflow_sub-at c).After-part_of-start)

pub overflow_cast-new_ends : goal.overflow_cast-new_ends
overflow_cast-new_ends c =
    omega (arith, at_few c.requires.placeable c.loop-j.invariant c.loop-j-test.true c.part_of-start.result c.part_of-start.ensures)

pub loop-j-preserved : goal.loop-j-preserved
loop-j-preserved c =
    placing_next c.requires.placeable c.loop-j.invariant c.loop-j-test.true c.part_of-start.result c.part_of-start.ensures c.write_letters.ensures
    c.write_column.ensures

pub returns : goal.returns
returns c = placing_ends c.requires.placeable c.loop-j.invariant c.loop-j-test.false
