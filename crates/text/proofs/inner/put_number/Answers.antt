-- `put_number` meets its contract. Invariant: the digits of what is left of the number, stored before the ones stored, bring the table to its
-- target. Assumes nothing.
use Prim.Native.Nat.{ℕ, ◌+◌}
use mathlib.Core.Path.{refl, ap}
use native.Mathlib.Omega.{arith}
use lib.ListN.{length-set}
use Rattle.text.proofs.Digits.{count_one, count_more}
use Rattle.text.proofs.Decimals.{back_step, back_end}
use Rattle.text.proofs.inner.put_number.Goals as goal

pub overflow_add-e : goal.overflow_add-e
overflow_add-e c = omega (arith, c.digit_count.ensures.0, c.requires)

pub loop-v-init : goal.loop-v-init
loop-v-init c =
    let p = c.requires in
    let q = c.digit_count.ensures.0 in
    record { size_kept = refl; place = omega (arith, q); room = omega (arith, p, q); ends = refl }

pub overflow_sub-j : goal.overflow_sub-j
overflow_sub-j c = omega (arith, c.loop-v.invariant.place, count_more c.loop-v.v c.loop-v-test.true)

pub bounds-out-j : goal.bounds-out-j
bounds-out-j c =
    let l = c.loop-v in
    omega (arith, l.invariant.place, l.invariant.room, count_more l.v c.loop-v-test.true)

pub loop-v-preserved : goal.loop-v-preserved
loop-v-preserved c = back_step c.loop-v.invariant c.loop-v-test.true

pub bounds-out-at : goal.bounds-out-at
bounds-out-at c =
    let l = c.loop-v in
    omega (arith, l.invariant.place, l.invariant.room, count_one l.v c.loop-v-test.false)

pub shape_of-out : goal.shape_of-out
shape_of-out c = simp length-set c.loop-v.invariant.size_kept

pub returns : goal.returns
returns c = (
  ap (λ (x : ℕ). c.args.at + x) c.digit_count.ensures.0,
  back_end c.loop-v.invariant c.loop-v-test.false,
)
