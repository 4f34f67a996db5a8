-- `slot` meets its contract: the constants are low, so that products and sum fit 64 bits. Assumes nothing.
use mathlib.Core.Path.{refl}
use Prim.Native.Nat.{◌+◌, ◌*◌, ◌/◌, ◌%◌, ◌≤◌}
use native.Mathlib.Nat.{mul-le-mul_right}
use native.Mathlib.Omega.{arith}
use Rattle.repeats_sieving.specs.Slots.{slot_of}
use Rattle.repeats_sieving.proofs.Telling.{product_le}
use Rattle.repeats_sieving.proofs.inner.slot.Goals as goal

pub overflow_mul-x : goal.overflow_mul-x
overflow_mul-x c = omega (arith, product_le c.args.lo c.args.a (omega arith) (omega arith))

pub overflow_mul-x-2 : goal.overflow_mul-x-2
overflow_mul-x-2 c = omega (arith, product_le c.args.hi c.args.c (omega arith) (omega arith))

pub overflow_add-x : goal.overflow_add-x
overflow_add-x c =
    omega (arith, product_le c.args.lo c.args.a (omega arith) (omega arith), product_le c.args.hi c.args.c (omega arith) (omega arith))

pub overflow_mul-result : goal.overflow_mul-result
overflow_mul-result c =
    let a = c.args in
    let h : (a.lo * a.a + a.hi * a.c) / 65536 % 4294967296 ≤ 4294967295 = omega arith in
    omega (arith, mul-le-mul_right a.slots h)

pub returns : goal.returns
unfolding slot_of
returns c = refl
