-- `is_run_list` meets its contract. Invariant: what was seen and the test of the runs that are left together are the test of all. Assumes nothing.
use mathlib.Core.Path.{sym, ap, ◌∙◌}
use Prim.Native.Nat.{ℕ}
use Rattle.std.proofs.Common.{Iter}
use Rattle.std.proofs.lemmas.Iterator.{empty_from_Zip}
use Rattle.std.specs.Iterator.Adapters.{zip_first, zip_second}
use Rattle.std.specs.Slice.Iter.{iter_rest}
use Rattle.std.specs.declared.iter.Zip.{Zip}
use Rattle.weight.proofs.Followed.{list_uneven, list_none, judge_first, judge_next, judge_end}
use Rattle.weight.proofs.judging.is_run_list.Goals as goal

pub returns-then-list : goal.returns-then-list
returns-then-list c = sym (list_uneven _ _ _ c.if-list.true)

pub returns-then-list-eq0 : goal.returns-then-list-eq0
returns-then-list-eq0 c = sym (list_none _ _ _ c.if-list.false c.if-list-eq0.true)

pub loop-v-init : goal.loop-v-init
loop-v-init c =
    let it = c.into_iter-v-iterator in
    let z = c.zip-v-items in
    judge_first _ _ _ _ _ c.if-list.false c.if-list-eq0.false _ c.may_begin-good.ensures
    (ap (λ (x : Zip (Iter ℕ) (Iter ℕ)). iter_rest (zip_first x)) it.ensures.into_iter_gives ∙ (ap iter_rest z.ensures.first ∙ c.iter.ensures.rest))
    (ap (λ (x : Zip (Iter ℕ) (Iter ℕ)). iter_rest (zip_second x)) it.ensures.into_iter_gives ∙ (ap iter_rest z.ensures.second ∙ c.iter-2.ensures.rest))

pub loop-v-preserved : goal.loop-v-preserved
loop-v-preserved c = let h = c.in-Some.ensures.steps in judge_next c.loop-v.invariant h.0 h.1 c.may_follow-good.ensures

pub returns : goal.returns
returns c =
    let e = empty_from_Zip c.loop-v.v-iterator c.next.new.self _ c.in-None.is c.next.ensures.steps c.loop-v.invariant.even in
    judge_end c.loop-v.invariant e.0 e.1
