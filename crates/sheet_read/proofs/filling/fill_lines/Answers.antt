-- `fill_lines` meets its contract. Invariant: the strings left, stored from here on, bring the three tables to their targets. In the answers `le` is
-- where the letters' end was found. Assumes nothing.
use mathlib.Core.Path.{ap}
use native.Mathlib.Omega.{arith}
use Rattle.lists.proofs.Storing.{inside}
use Rattle.sheet_lines.specs.Cursor.{fine}
use Rattle.sheet_read.proofs.Filled.{begin_state, mark_room, split, end_state, feed_place, next_state}
use Rattle.sheet_read.proofs.filling.fill_lines.Goals as goal

pub loop-i-init : goal.loop-i-init
loop-i-init c = begin_state _ _ _ c.requires

pub overflow_add-b : goal.overflow_add-b
overflow_add-b c = omega (arith, mark_room c.loop-i.invariant c.loop-i-test.true)

pub letters_end-e-requires : goal.letters_end-e-requires
letters_end-e-requires c = mark_room c.loop-i.invariant c.loop-i-test.true

pub copy_bytes-requires : goal.copy_bytes-requires
copy_bytes-requires c =
    let le = c.before in
    let sp = split le.loop-i.invariant le.loop-i-test.true le.letters_end-e.ensures in
    (sp.row.start, le.letters_end-e.ensures.1, sp.letters_room)

pub overflow_sub-x : goal.overflow_sub-x
overflow_sub-x c =
    let le = c.before in
    let sp = split le.loop-i.invariant le.loop-i-test.true le.letters_end-e.ensures in
    sp.row.start

pub overflow_add-n : goal.overflow_add-n
overflow_add-n c =
    let le = c.before in
    let sp = split le.loop-i.invariant le.loop-i-test.true le.letters_end-e.ensures in
    omega (arith, sp.small)

pub overflow_cast-ends : goal.overflow_cast-ends
overflow_cast-ends c =
    let le = c.before in
    let sp = split le.loop-i.invariant le.loop-i-test.true le.letters_end-e.ensures in
    omega (arith, sp.small)

pub bounds-ends-m : goal.bounds-ends-m
bounds-ends-m c =
    let le = c.before in
    let sp = split le.loop-i.invariant le.loop-i-test.true le.letters_end-e.ensures in
    inside sp.ends

pub overflow_add-m : goal.overflow_add-m
overflow_add-m c =
    let le = c.before in
    let sp = split le.loop-i.invariant le.loop-i-test.true le.letters_end-e.ensures in
    omega (arith, inside sp.ends)

pub overflow_sub-y : goal.overflow_sub-y
overflow_sub-y c =
    let le = c.before in
    let sp = split le.loop-i.invariant le.loop-i-test.true le.letters_end-e.ensures in
    omega (arith, sp.row.long)

pub fill_weights-f-requires : goal.fill_weights-f-requires
fill_weights-f-requires c =
    let le = c.before in
    let sp = split le.loop-i.invariant le.loop-i-test.true le.letters_end-e.ensures in
    (ap fine sp.row.tail_is, sp.weights_room)

pub overflow_add-w : goal.overflow_add-w
overflow_add-w c =
    let le = c.before in
    let sp = split le.loop-i.invariant le.loop-i-test.true le.letters_end-e.ensures in
    omega (arith, sp.weights_room, sp.row.count)

pub overflow_add-i : goal.overflow_add-i
overflow_add-i c =
    let le = c.before in
    let sp = split le.loop-i.invariant le.loop-i-test.true le.letters_end-e.ensures in
    let fp = feed_place sp _ c.fill_weights-f.ensures.1 in
    omega (arith, fp.0)

pub loop-i-smaller : goal.loop-i-smaller
loop-i-smaller c =
    let le = c.before in
    let sp = split le.loop-i.invariant le.loop-i-test.true le.letters_end-e.ensures in
    let fp = feed_place sp _ c.fill_weights-f.ensures.1 in
    omega (arith, fp.0, fp.1)

pub loop-i-preserved : goal.loop-i-preserved
loop-i-preserved c =
    let g = c.before in
    let le = c.before in
    let sp = split le.loop-i.invariant le.loop-i-test.true le.letters_end-e.ensures in
    next_state sp _ c.fill_weights-f.ensures.1 g.copy_bytes.ensures
    c.fill_weights-f.ensures.0

pub shape_of-letters : goal.shape_of-letters
shape_of-letters c = c.loop-i.invariant.letters.size_kept

pub shape_of-ends : goal.shape_of-ends
shape_of-ends c = c.loop-i.invariant.ends.size_kept

pub shape_of-weights : goal.shape_of-weights
shape_of-weights c = c.loop-i.invariant.weights.size_kept

pub returns : goal.returns
returns c = end_state c.loop-i.invariant c.loop-i-test.false
