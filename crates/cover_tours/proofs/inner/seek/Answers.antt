-- `seek` meets its contract. The loop's invariant: from `start` to e the halves in the rows are used.
use mathlib.Core.Path.{◌≡◌, sym, ap, ◌∙◌, subst}
use Prim.Native.Nat.{ℕ, ◌+◌, ◌*◌, ◌/◌, ◌<◌}
use native.Mathlib.Omega.{arith}
use lib.ListN.{get_or}
use Rattle.cover_tours.specs.Layout.{tables}
use Rattle.cover_tours.specs.Halves.{near}
use Rattle.cover_tours.proofs.Regions.{used_at, row_at}
use Rattle.cover_tours.proofs.Rows.{passed_more}
use Rattle.cover_tours.proofs.inner.seek.Goals as goal
use Rattle.cover_tours.proofs.inner.seek.Goals.{In-loop-e}

-- the half at e, which is one of the table
half : (c : In-loop-e) → let a = c.args in get_or a.work.now (5 * a.m + c.loop-e.e) 0 ≡ get_or (tables a.m a.work.now).rows c.loop-e.e 0
half c = row_at _ _ _ c.loop-e-test.true

half-low : (c : In-loop-e) → let a = c.args in get_or a.work.now (5 * a.m + c.loop-e.e) 0 < 6 * a.m
half-low c = subst (λ (h : ℕ). h < 6 * c.args.m) (sym (half c)) (c.requires.graph.rows_low _ c.loop-e-test.true)

-- its flag
flag : (c : In-loop-e)
    → let a = c.args in
    let now = tables a.m a.work.now in
    get_or now.used (get_or now.rows c.loop-e.e 0 / 2) 0 ≡ get_or a.work.now (2 * a.m + get_or a.work.now (5 * a.m + c.loop-e.e) 0 / 2) 0
flag c =
    let a = c.args in
    ap (λ (x : ℕ). get_or (tables a.m a.work.now).used (x / 2) 0) (sym (half c)) ∙ sym (used_at _ _ _ (omega (arith, half-low c)))

pub loop-e-init : goal.loop-e-init
loop-e-init c = record { all_used = λ q k l z. omega arith }

pub returns-then-x-v : goal.returns-then-x-v
returns-then-x-v c =
    let t = (goal.at.returns-then-x-v c).In-loop-e in
    record {
      low = omega arith;
      high = omega arith;
      passed = c.loop-e.invariant;
      stop = λ l q. absurd (c.if-x-v.true (c.near-x.ensures ∙ (ap (near _ _) (half t) ∙ q)));
    }

pub bounds-work-m-in-loop-e : goal.bounds-work-m-in-loop-e
bounds-work-m-in-loop-e c = omega (arith, c.requires.fits.0.size, half-low (goal.at.bounds-work-m-in-loop-e c).In-loop-e)

pub returns-then-work-m-eq0 : goal.returns-then-work-m-eq0
returns-then-work-m-eq0 c =
    let t = (goal.at.returns-then-work-m-eq0 c).In-loop-e in
    record { low = omega arith; high = omega arith; passed = c.loop-e.invariant; stop = λ l q. flag t ∙ c.if-work-m-eq0.true }

pub loop-e-preserved : goal.loop-e-preserved
loop-e-preserved c =
    let t = (goal.at.loop-e-preserved c).In-loop-e in passed_more c.loop-e.invariant (λ z. c.if-work-m-eq0.false (sym (flag t) ∙ z))
