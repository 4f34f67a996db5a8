-- `cover_strings` meets its contract: the table laid out, the walks, the places, and zeros (proofs/Covered).
use native.Mathlib.Omega.{arith}
use Rattle.cover.proofs.Covers.{start_low, paths_low, covering}
use Rattle.cover.proofs.covering.cover_strings.Goals as goal

pub overflow_sub-result : goal.overflow_sub-result
overflow_sub-result c = start_low c.lay_out.ensures.begun.ready.between.graph c.walk_all-tour.ensures

pub overflow_add-result : goal.overflow_add-result
overflow_add-result c =
    omega (
      arith,
      paths_low c.lay_out.ensures.begun.ready.between.graph c.walk_all-tour.ensures,
      c.requires.1.few,
    )

pub returns : goal.returns
returns c =
    let p = c.requires in
    let l = c.lay_out.ensures in
    covering l.begun.ready.between.graph c.walk_all-tour.ensures c.args.places.now p.2 l.renamed _
    c.write_places.ensures c.zero_first.ensures
    (omega (arith, p.1.size))
