-- `put_weights` meets its contract. Invariant: the weights left, stored from here on, bring the table to its target. Assumes nothing.
use Prim.Native.Nat.{ℕ, ◌+◌, ◌-◌}
use mathlib.Core.Path.{◌≡◌, sym, subst}
use native.Mathlib.Omega.{arith}
use lib.ListN.{take, drop}
use Rattle.sheet.specs.Text.{weights_text}
use Rattle.text.specs.Stored.{Stores}
use Rattle.sheet_write.proofs.Line.{tab_room, digits_room, weighed, weighed-all}
use Rattle.sheet_write.proofs.numbers.put_weights.Goals as goal

-- the part of the weights that the loop goes over
part : (w n : ℕ) → n ≡ w + n - w
part w n = omega arith

pub bounds-out-p : goal.bounds-out-p
bounds-out-p c = tab_room c.loop-x.invariant c.loop-x-test.true

pub put_number-p-requires : goal.put_number-p-requires
put_number-p-requires c = digits_room c.loop-x.invariant c.loop-x-test.true

pub loop-x-preserved : goal.loop-x-preserved
loop-x-preserved c = weighed c.loop-x.invariant c.loop-x-test.true c.put_number-p.ensures.0 c.put_number-p.ensures.1

pub returns : goal.returns
returns c =
    let a = c.args in
    subst (λ (x : ℕ). Stores a.at (weights_text (take x (drop a.w a.weights.now))) a.out.now c.loop-x.p c.loop-x.out) (sym (part a.w a.n))
    (weighed-all c.loop-x.invariant c.loop-x-test.false)
