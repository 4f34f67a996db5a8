-- `find` meets its contract: the search goes on where the cursor stood, and the cursor moves to where it stopped.
use mathlib.Core.Path.{◌≡◌, sym, subst}
use Prim.Native.Nat.{ℕ, ◌+◌, ◌*◌}
use native.Mathlib.Omega.{arith}
use lib.ListN.{get_or}
use Rattle.cover_tours.specs.Layout.{tables}
use Rattle.cover_tours.specs.Rows.{Cursors, Sought}
use Rattle.cover_tours.proofs.Regions.{cursor_at, cursors_size, tables_cursor}
use Rattle.cover_tours.proofs.Rows.{cursors_moved}
use Rattle.cover_tours.proofs.inner.find.Goals as goal
use Rattle.cover_tours.proofs.inner.find.Goals.{Start, After-seek-e}

-- the search starts at the cursor
from-cursor : (c : Start) → let a = c.args in get_or a.work.now (9 * a.m + a.v) 0 ≡ get_or (tables a.m a.work.now).cursors a.v 0
from-cursor c = cursor_at _ _ _ (omega (arith, c.requires.fits.1, c.requires.fits.0.some))

sought : (c : After-seek-e)
    → let a = c.args in Sought a.m (tables a.m a.work.now) a.v (get_or (tables a.m a.work.now).cursors a.v 0) c.seek-e.result
sought c =
    let a = c.args in
    let e : get_or a.work.now (9 * a.m + a.v) 0 ≡ get_or (tables a.m a.work.now).cursors a.v 0 =
    cursor_at _ _ _ (omega (arith, c.requires.fits.1, c.requires.fits.0.some)) in
    subst (λ (x : ℕ). Sought a.m (tables a.m a.work.now) a.v x c.seek-e.result) e c.seek-e.ensures

pub seek-e-requires-clause-fits : goal.seek-e-requires-clause-fits
seek-e-requires-clause-fits c =
    let p = c.requires in (p.fits.0, rw (from-cursor (goal.at.seek-e-requires-clause-fits c).Start) (p.cursors _ p.fits.1).high)

pub found_at-r-requires-clause-sought : goal.found_at-r-requires-clause-sought
found_at-r-requires-clause-sought c = sought (goal.at.found_at-r-requires-clause-sought c).After-seek-e

pub returns : goal.returns
returns c =
    let p = c.requires in
    let s = sought (goal.at.returns c).After-seek-e in
    record {
      cursor = c.seek-e.result;
      moves = tables_cursor _ _ _ _ (omega (arith, p.fits.1, p.fits.0.some));
      kept =
          subst (Cursors _) (sym (tables_cursor _ _ _ _ (omega (arith, p.fits.1, p.fits.0.some))))
          (cursors_moved (p.cursors _ p.fits.1) s p.cursors (omega (arith, cursors_size p.fits.0, p.fits.1, p.fits.0.some)));
      answer = c.found_at-r.ensures;
    }
