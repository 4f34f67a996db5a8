-- `count_all` meets its contract: the stretches of the next string come to those of the strings before it. Assumes nothing.
use Rattle.std.proofs.Common.{arith}
use Rattle.collection.proofs.Kmers.{next_string}
use Rattle.index_cutting.proofs.Counting.{tallied_on, tallied_end}
use Rattle.index_cutting.proofs.inner.count_all.Goals as goal

pub overflow_add-at : goal.overflow_add-at
overflow_add-at c = omega (arith, next_string c.loop-end.invariant.strings c.loop-end-test.true, c.requires.ready.few_letters)

pub overflow_sub-e : goal.overflow_sub-e
overflow_sub-e c = omega (arith, next_string c.loop-end.invariant.strings c.loop-end-test.true)

pub count_string-count-requires-clause-le_p : goal.count_string-count-requires-clause-le_p
count_string-count-requires-clause-le_p c =
    let r = c.requires in
    let e = next_string c.loop-end.invariant.strings c.loop-end-test.true in
    (r.le_p.0, r.le_p.2, r.ready.ends_long.k_high, omega (arith, e.long), omega (arith, e.long, e.inside), r.ready.few_letters)

pub overflow_add-count : goal.overflow_add-count
overflow_add-count c =
    let s = c.loop-end in
    let r = tallied_on _ _ _ _ _ _ _ s.invariant c.loop-end-test.true c.requires.ready.ends_long.k_low _ c.count_string-count.ensures in
    omega (arith, r.small, r.strings.few, c.requires.ready.few_letters)

pub loop-end-preserved : goal.loop-end-preserved
loop-end-preserved c =
    tallied_on _ _ _ _ _ _ _ c.loop-end.invariant c.loop-end-test.true c.requires.ready.ends_long.k_low _ c.count_string-count.ensures

pub returns : goal.returns
returns c = tallied_end _ _ _ _ _ _ _ c.loop-end.invariant c.loop-end-test.false
