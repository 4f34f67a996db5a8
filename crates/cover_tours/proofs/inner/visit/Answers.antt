-- `visit` meets its contract: the string is used already, or a later walk starts from it.
use mathlib.Core.Path.{sym, ◌∙◌}
use native.Mathlib.Omega.{arith}
use Rattle.cover_tours.proofs.Regions.{used_at}
use Rattle.cover_tours.proofs.Tours.{visited_used, at_vertex, visited_from}
use Rattle.cover_tours.proofs.inner.visit.Goals as goal

pub returns-then-work-m-ne0 : goal.returns-then-work-m-ne0
returns-then-work-m-ne0 c =
    let p = c.requires in
    (omega arith, visited_used p.walks_le_i.1 _ p.fits.1 (λ q. c.if-work-m-ne0.true (used_at _ _ _ (omega (arith, p.fits.1)) ∙ q)))

pub walk-start-requires : goal.walk-start-requires
walk-start-requires c =
    let p = c.requires in record {
      fits = (
        p.fits.0,
        rw c.near-s.ensures (at_vertex p.walks_le_i.1 _ p.fits.1 (sym (used_at _ _ _ (omega (arith, p.fits.1))) ∙ c.if-work-m-ne0.false)),
      );
      ready = p.walks_le_i.1.ready;
    }

pub returns : goal.returns
returns c =
    let w = c.before in
    let e = w in
    let p = w.requires in (
      omega arith,
      visited_from p.walks_le_i.1 _ p.fits.1 (sym (used_at _ _ _ (omega (arith, p.fits.1))) ∙ e.if-work-m-ne0.false) w.near-s.ensures w.walk-start.ensures,
    )
