-- `walk_all` meets its contract: the walk from the hub, then a visit to each string. The loop's invariant: the first i strings are used.
use mathlib.Core.Path.{refl}
use native.Mathlib.Omega.{arith}
use Rattle.cover_tours.proofs.Regions.{fits-same}
use Rattle.cover_tours.proofs.Tours.{touring_first, visits_more, same_trans, tour_done}
use Rattle.cover_tours.proofs.inner.walk_all.Goals as goal

pub walk-start-requires : goal.walk-start-requires
walk-start-requires c = record { fits = (c.requires.0, omega arith); ready = c.requires.1.ready }

pub loop-i-init : goal.loop-i-init
loop-i-init c =
    record {
      fits = fits-same c.requires.0 (omega arith);
      few = omega arith;
      same = record { verts = refl; rows = refl };
      touring = touring_first c.requires.1 c.walk-start.ensures;
      visited = λ e l. absurd (omega arith);
    }

pub loop-i-preserved : goal.loop-i-preserved
loop-i-preserved c =
    let v = c.visit-tour.ensures.1 in
    let h = c.loop-i.invariant in
    record {
      fits = fits-same h.fits (omega arith);
      few = c.visit-tour.ensures.0;
      same = same_trans h.same v.same;
      touring = v.touring;
      visited = visits_more v h.visited;
    }

pub returns : goal.returns
returns c =
    let h = c.loop-i.invariant in
    tour_done (same_trans c.walk-start.ensures.same h.same) h.touring (λ e l. h.visited e (omega arith))
