-- `tell` meets its contract, by what READ answers. Assumes nothing.
use mathlib.Core.Path.{sym}
use lib.Seq.{length-take-le}
use Rattle.std.proofs.lemmas.Result.{err_from_is_err_and}
use Rattle.summary.proofs.Told.{too_long, read_refused, parts_inside, read_judged, tables_room, read_told}
use Rattle.summary.proofs.telling.tell.Goals as goal

pub returns-then-sheet-gt8192 : goal.returns-then-sheet-gt8192
returns-then-sheet-gt8192 c = too_long _ c.if-sheet-gt8192.true

pub returns-in_err-filled : goal.returns-in_err-filled
returns-in_err-filled c =
    let p = err_from_is_err_and c.from_residual.result c.from_residual.ensures.1 in
    rw (p.1, p.2) (read_refused _ _ _ _ c.if-sheet-gt8192.false c.requires c.read.ensures c.in_err-filled.was)

pub slice_bounds-given-end : goal.slice_bounds-given-end
slice_bounds-given-end c = (parts_inside _ _ _ _ c.if-sheet-gt8192.false c.requires c.read.ensures c.in_ok-filled.was).0

pub slice_bounds-given-end-2 : goal.slice_bounds-given-end-2
slice_bounds-given-end-2 c = sym (length-take-le _ _ (parts_inside _ _ _ _ c.if-sheet-gt8192.false c.requires c.read.ensures c.in_ok-filled.was).0)

pub slice_bounds-given-end-3 : goal.slice_bounds-given-end-3
slice_bounds-given-end-3 c = (parts_inside _ _ _ _ c.if-sheet-gt8192.false c.requires c.read.ensures c.in_ok-filled.was).1

pub slice_bounds-given-end-4 : goal.slice_bounds-given-end-4
slice_bounds-given-end-4 c = sym (length-take-le _ _ (parts_inside _ _ _ _ c.if-sheet-gt8192.false c.requires c.read.ensures c.in_ok-filled.was).1)

pub slice_bounds-given-end-5 : goal.slice_bounds-given-end-5
slice_bounds-given-end-5 c = (parts_inside _ _ _ _ c.if-sheet-gt8192.false c.requires c.read.ensures c.in_ok-filled.was).2

pub slice_bounds-given-end-6 : goal.slice_bounds-given-end-6
slice_bounds-given-end-6 c = sym (length-take-le _ _ (parts_inside _ _ _ _ c.if-sheet-gt8192.false c.requires c.read.ensures c.in_ok-filled.was).2)

pub tell_collection-requires : goal.tell_collection-requires
tell_collection-requires c = record {
  passes = read_judged _ _ _ _ c.if-sheet-gt8192.false c.requires c.read.ensures c.in_ok-filled.was;
  ends_in_bounds = tables_room _ _ _ _ c.if-sheet-gt8192.false c.requires c.read.ensures c.in_ok-filled.was;
}

pub returns : goal.returns
returns c = read_told _ _ _ _ c.if-sheet-gt8192.false c.requires c.read.ensures c.in_ok-filled.was c.tell_collection.ensures
