-- `cut_all` meets its contract: the next string comes after those that have passed, with room for its stretches, which are then stored. Assumes nothing.
use Rattle.std.proofs.Common.{arith}
use Rattle.collection.proofs.Kmers.{next_string}
use Rattle.index_cutting.proofs.Cutting.{passed_room, passed_on, passed_end}
use Rattle.index_cutting.proofs.inner.cut_all.Goals as goal

pub overflow_add-n-in-loop-end : goal.overflow_add-n-in-loop-end
overflow_add-n-in-loop-end c = omega (arith, next_string c.loop-end.invariant.strings c.loop-end-test.true, c.requires.ready.few_letters)

pub overflow_sub-n : goal.overflow_sub-n
overflow_sub-n c = omega (arith, next_string c.loop-end.invariant.strings c.loop-end-test.true)

pub cut_string-o-requires-clause-le_p : goal.cut_string-o-requires-clause-le_p
cut_string-o-requires-clause-le_p c =
    let r = c.requires in
    let s = c.loop-end.invariant in
    let e = next_string s.strings c.loop-end-test.true in
    let d = r.ready.few_letters in (
      r.le_p.0,
      r.le_p.1,
      r.le_p.2,
      r.ready.ends_long.k_high,
      omega (arith, e.long),
      omega (arith, e.long, e.inside),
      d,
      omega (arith, e.long, e.inside, s.strings.few, s.few, r.le_p.0, r.le_p.2, d),
      omega (arith, e.long, e.inside, s.strings.few, s.few, d),
    )

pub cut_string-o-requires-clause-room4 : goal.cut_string-o-requires-clause-room4
cut_string-o-requires-clause-room4 c = passed_room c.loop-end.invariant c.loop-end-test.true

pub loop-end-preserved : goal.loop-end-preserved
loop-end-preserved c =
    let e = c.cut_string-o.ensures in
    passed_on c.loop-end.invariant c.loop-end-test.true c.requires.ready.ends_long.k_low _ e.value e.cut

pub returns : goal.returns
returns c = passed_end c.loop-end.invariant c.loop-end-test.false
