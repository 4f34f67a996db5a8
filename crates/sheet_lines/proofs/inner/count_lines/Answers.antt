-- `count_lines` meets its contract. Invariant: the count of the lines left, after what is counted, is the count of all. Assumes nothing.
use Prim.Native.Nat.{◌+◌}
use mathlib.Core.Path.{◌≡◌, sym, ◌∙◌}
use native.Mathlib.Omega.{arith}
use Rattle.std.specs.Prelude.{None, Some}
use Rattle.std.proofs.lemmas.Result.{err_from_is_err_and}
use Rattle.sheet_lines.proofs.Counts.{count_next, count_wrong, count_end}
use Rattle.sheet_lines.proofs.inner.count_lines.Goals as goal

pub returns-in_err-line : goal.returns-in_err-line
returns-in_err-line c =
    let e : c.line_at.result ≡ None = grind arith in
    let p = err_from_is_err_and c.from_residual.result c.from_residual.ensures.1 in
    let n : p.0 ≡ c.loop-i.m + 2 = grind arith in
    rw (p.1, n) (count_wrong c.loop-i.invariant c.loop-i-test.true (sym c.line_at.ensures ∙ e))

pub overflow_add-n : goal.overflow_add-n
overflow_add-n c =
    let e : c.line_at.result ≡ Some c.in_ok-line.line = grind arith in
    let on = (count_next c.loop-i.invariant (sym c.line_at.ensures ∙ e)).0 in
    omega (arith, on.letters, on.inside)

pub overflow_add-w : goal.overflow_add-w
overflow_add-w c =
    let e : c.line_at.result ≡ Some c.in_ok-line.line = grind arith in
    let on = (count_next c.loop-i.invariant (sym c.line_at.ensures ∙ e)).0 in
    omega (arith, on.weights, on.inside)

pub loop-i-smaller : goal.loop-i-smaller
loop-i-smaller c =
    let e : c.line_at.result ≡ Some c.in_ok-line.line = grind arith in
    let on = count_next c.loop-i.invariant (sym c.line_at.ensures ∙ e) in
    omega (arith, on.0.inside, on.1)

pub loop-i-preserved : goal.loop-i-preserved
loop-i-preserved c =
    let e : c.line_at.result ≡ Some c.in_ok-line.line = grind arith in
    (count_next c.loop-i.invariant (sym c.line_at.ensures ∙ e)).0

pub returns : goal.returns
returns c = count_end c.loop-i.invariant c.loop-i-test.false
