-- `put_lines` meets its contract. Invariant: the lines of the strings left, stored from here on, bring the table to its target. Assumes nothing.
use native.Mathlib.Omega.{arith}
use Rattle.collection.proofs.Judged.{collection_good}
use Rattle.sheet_write.proofs.Lines.{lining, next_line, weights_there, line_room, lined, lined_all}
use Rattle.sheet_write.proofs.writing.put_lines.Goals as goal

pub loop-end-init : goal.loop-end-init
loop-end-init c = lining (collection_good _ c.requires.passes) _ _ c.requires.weights_in_bounds

pub overflow_add-n-in-loop-end : goal.overflow_add-n-in-loop-end
overflow_add-n-in-loop-end c =
    let n = next_line c.loop-end.invariant c.loop-end-test.true in
    omega (arith, n.long, n.inside, (collection_good _ c.requires.passes).shape.letters_high)

pub overflow_sub-n : goal.overflow_sub-n
overflow_sub-n c = omega (arith, (next_line c.loop-end.invariant c.loop-end-test.true).long)

pub put_string-p-requires : goal.put_string-p-requires
put_string-p-requires c =
    let l = c.loop-end-test.true in
    let n = next_line c.loop-end.invariant l in
    record { b_le_e = (omega (arith, n.long), n.inside, weights_there c.loop-end.invariant l); n_in_bounds = line_room c.loop-end.invariant l }

pub loop-end-preserved : goal.loop-end-preserved
loop-end-preserved c =
    let j = collection_good _ c.requires.passes in
    lined c.loop-end.invariant c.loop-end-test.true (omega (arith, j.shape.k_low)) c.put_string-p.ensures.0 c.put_string-p.ensures.1

pub returns : goal.returns
returns c = lined_all c.loop-end.invariant c.loop-end-test.false
