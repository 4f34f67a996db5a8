-- `count_up` meets its contract: a counter below 2 grows without a carry. Assumes nothing.
use native.Mathlib.Omega.{arith}
use Rattle.sorting.proofs.Counters.{one_shl}
use Rattle.repeats_sieving.specs.Slots.{bit_of}
use Rattle.repeats_sieving.proofs.TwoBits.{grow_fits}
use Rattle.repeats_sieving.proofs.Telling.{grown_stay, grown_more}
use Rattle.repeats_sieving.proofs.inner.count_up.Goals as goal

pub returns-then-v-e-ge2 : goal.returns-then-v-e-ge2
returns-then-v-e-ge2 c = grown_stay _ _ c.if-v-e-ge2.true

pub overflow_add-result : goal.overflow_add-result
overflow_add-result c =
    let a = c.args in omega (arith, one_shl 32 (bit_of a.s) (omega arith), grow_fits a.v (bit_of a.s) (omega arith) (omega arith) (omega arith))

pub returns : goal.returns
returns c = let a = c.args in rw (one_shl 32 (bit_of a.s) (omega arith)) (grown_more a.v (bit_of a.s) (omega arith))
