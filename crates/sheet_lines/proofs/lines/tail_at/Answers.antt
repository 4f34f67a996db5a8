-- `tail_at` meets its contract. Invariant: the rest of the line with the weights still wanted answers for the whole. Assumes nothing.
use Prim.Native.Nat.{◌+◌, ◌-◌}
use mathlib.Core.Path.{◌≡◌, sym, ap, ◌∙◌}
use mathlib.Core.Bool.{not}
use native.Mathlib.Omega.{arith}
use Rattle.text.proofs.Tests.{told_no, told_yes}
use Rattle.sheet_lines.specs.Cursor.{tail_at}
use Rattle.sheet_lines.proofs.Tails.{tail_no_tab, tail_bad, tail_next}
use Rattle.sheet_lines.proofs.lines.tail_at.Goals as goal

pub returns-then-not-byte_is : goal.returns-then-not-byte_is
returns-then-not-byte_is c =
    sym (c.loop.invariant
    ∙ tail_no_tab _ c.loop.i _ (omega arith) (told_no c.byte_is.ensures (ap not c.if-not-byte_is.true)))

pub returns-in_err-w : goal.returns-in_err-w
returns-in_err-w c =
    let h = told_yes c.byte_is.ensures (ap not c.if-not-byte_is.false) in
    rw c.from_residual.ensures
    (sym (c.loop.invariant ∙ tail_bad _ c.loop.i _ (omega arith) h (sym c.weight_at.ensures ∙ c.in_err-w.was)))

pub loop-preserved : goal.loop-preserved
loop-preserved c =
    let h = told_yes c.byte_is.ensures (ap not c.if-not-byte_is.false) in
    let w = c.in_ok-w.w in
    let n : c.args.n - c.loop.counter - 1 ≡ c.args.n - (c.loop.counter + 1) = omega arith in
    c.loop.invariant
    ∙ (tail_next _ c.loop.i _ (omega arith) w.value w.next h (sym c.weight_at.ensures ∙ c.in_ok-w.was) ∙ ap (tail_at _ w.next) n)
