-- `put_head` meets its contract: one piece after the other is stored. Assumes nothing.
use mathlib.Core.List.{[], ◌∷◌}
use native.Mathlib.Omega.{arith}
use lib.ListN.{length-set}
use Rattle.text.specs.Numbers.{digits}
use Rattle.text.specs.Parts.{feed}
use Rattle.lists.proofs.Storing.{inside, store, stored}
use Rattle.text.proofs.Blocks.{block_room}
use Rattle.sheet_write.proofs.Line.{head_marked, head_ended}
use Rattle.sheet_write.proofs.Texts.{head_length}
use Rattle.sheet_write.proofs.writing.put_head.Goals as goal

pub bounds-out-0 : goal.bounds-out-0
bounds-out-0 c = omega (arith, c.requires, head_length c.args.k)

pub bounds-out-1 : goal.bounds-out-1
bounds-out-1 c = rw length-set (omega (arith, c.requires, head_length c.args.k))

pub put_number-p-requires : goal.put_number-p-requires
put_number-p-requires c = let g = c in block_room (digits g.args.k) (feed ∷ []) (head_marked g.args.k g.args.out.now g.requires)

pub bounds-out-p : goal.bounds-out-p
bounds-out-p c =
    let p = c in
    let s = head_ended p.args.k p.args.out.now p.requires p.put_number-p.ensures.0 p.put_number-p.ensures.1 in
    inside s

pub overflow_add-result : goal.overflow_add-result
overflow_add-result c =
    let p = c in
    let g = p in
    omega (arith, p.put_number-p.ensures.0, head_length g.args.k, g.requires)

pub shape_of-out : goal.shape_of-out
shape_of-out c =
    let p = c in
    let s = head_ended p.args.k p.args.out.now p.requires p.put_number-p.ensures.0 p.put_number-p.ensures.1 in
    (store s).size_kept

pub returns : goal.returns
returns c =
    let p = c in
    let s = head_ended p.args.k p.args.out.now p.requires p.put_number-p.ensures.0 p.put_number-p.ensures.1 in
    (omega (arith, p.put_number-p.ensures.0, head_length p.args.k), stored (store s))
