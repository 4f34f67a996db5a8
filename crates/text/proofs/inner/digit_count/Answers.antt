-- `digit_count` meets its contract: each test leaves the numbers of one length. Invariant: the digits counted and those of what is left of the number are all,
-- and one is counted twice. Assumes nothing.
use mathlib.Core.Path.{sym}
use native.Mathlib.Omega.{arith}
use Rattle.text.proofs.Digits.{count_one, count_more, count_four, digits_count, digits_short}
use Rattle.text.proofs.inner.digit_count.Goals as goal

pub returns-then-n-lt10 : goal.returns-then-n-lt10
returns-then-n-lt10 c = (sym (count_one _ c.if-n-lt10.true), omega arith)

pub returns-then-n-lt100 : goal.returns-then-n-lt100
returns-then-n-lt100 c = (sym (digits_count 0 _ c.if-n-lt10.false c.if-n-lt100.true), omega arith)

pub returns-then-n-lt1000 : goal.returns-then-n-lt1000
returns-then-n-lt1000 c = (sym (digits_count 1 _ c.if-n-lt100.false c.if-n-lt1000.true), omega arith)

pub returns-then-n-lt10000 : goal.returns-then-n-lt10000
returns-then-n-lt10000 c = (sym (digits_count 2 _ c.if-n-lt1000.false c.if-n-lt10000.true), omega arith)

pub loop-v-init : goal.loop-v-init
loop-v-init c = (omega (arith, count_four _ c.if-n-lt10000.false), digits_short 19 _ (omega arith))

pub overflow_add-c : goal.overflow_add-c
overflow_add-c c = omega (arith, c.loop-v.invariant.0, c.loop-v.invariant.1)

pub loop-v-preserved : goal.loop-v-preserved
loop-v-preserved c = (omega (arith, c.loop-v.invariant.0, count_more c.loop-v.v c.loop-v-test.true), c.loop-v.invariant.1)

pub returns : goal.returns
returns c =
    let q = count_one c.loop-v.v c.loop-v-test.false in
    (omega (arith, c.loop-v.invariant.0, q), omega (arith, c.loop-v.invariant.0, c.loop-v.invariant.1, q))
