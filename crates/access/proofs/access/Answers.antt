-- `access` meets its contract: the part holds the letters of the handle's k-mer and points to where they stand. Assumes nothing.
use mathlib.Core.Path.{refl, sym, ◌∙◌}
use native.Mathlib.Omega.{arith}
use Rattle.access.specs.Access.{access_part, access_start}
use Rattle.access.proofs.Accessed.{access_good, part_from, start_refused, start_found}
use Rattle.collection.proofs.Judged.{shape_long}
use Rattle.collection.proofs.Kmers.{position_fits}
use Rattle.collection.proofs.Verdicts.{refused, settled}
use Rattle.access.proofs.access.Goals as goal

pub returns-in_default : goal.returns-in_default
unfolding access_part access_start
returns-in_default c = let e = sym c.judge_access.ensures ∙ c.in_default.is in (refused _ _ e, refl, start_refused _ _ e)

pub position-p-requires : goal.position-p-requires
position-p-requires c =
    let g = access_good _ _ (sym c.judge_access.ensures ∙ c.in-Ok.is) in record { long = shape_long g.shape; le_handle = (g.low, g.high) }

pub overflow_add-result : goal.overflow_add-result
overflow_add-result c =
    let g = access_good _ _ (sym c.judge_access.ensures ∙ c.in-Ok.is) in
    omega (arith, position_fits g.shape _ g.low g.high, c.position-p.ensures)

pub slice_bounds-result-end-2 : goal.slice_bounds-result-end-2
slice_bounds-result-end-2 c =
    let g = access_good _ _ (sym c.judge_access.ensures ∙ c.in-Ok.is) in
    omega (arith, position_fits g.shape _ g.low g.high, c.position-p.ensures)

pub returns : goal.returns
unfolding access_part access_start
returns c =
    let e = sym c.judge_access.ensures ∙ c.in-Ok.is in
    (settled _ (part_from _ _ c.position-p.ensures) e, refl, start_found _ e c.position-p.ensures)
