-- `tell` meets its contract: each id's slot has a counter, which grows. Assumes nothing.
use Rattle.std.proofs.Common.{get_or, sym, ap, ◌∙◌, ℕ, List, arith}
use Rattle.std.proofs.lemmas.List.{get_or-replicate}
use Rattle.lists.proofs.Every.{all_at}
use Rattle.repeats_sieving.proofs.Telling.{slot_lt, told_none, told_more}
use Rattle.repeats_sieving.proofs.inner.tell.Goals as goal

pub loop-id-init : goal.loop-id-init
loop-id-init c = told_none _ _ _ (λ i l. ap (λ (t : List ℕ). get_or t i 0) c.requires.zero ∙ get_or-replicate _ i 0 0 l)

pub bounds-table-t : goal.bounds-table-t
bounds-table-t c = omega (arith, slot_lt, all_at _ _ c.requires.sifting.inside c.loop-id.id-index 0 c.loop-id-test.true)

pub bounds-table-t-in-loop-id : goal.bounds-table-t-in-loop-id
bounds-table-t-in-loop-id c = omega (arith, slot_lt, all_at _ _ c.requires.sifting.inside c.loop-id.id-index 0 c.loop-id-test.true)

pub loop-id-preserved : goal.loop-id-preserved
loop-id-preserved c =
    let s = c.loop-id in
    let l = all_at _ _ c.requires.sifting.inside s.id-index 0 c.loop-id-test.true in
    told_more _ _ _ s.table s.id-index _ _ c.loop-id-test.true s.auto.table (sym c.slot_of-s.ensures) (omega (arith, slot_lt)) s.invariant c.count_up.ensures
