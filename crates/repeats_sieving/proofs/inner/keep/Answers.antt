-- `keep` meets its contract: the id of a turn is the one that stood there at first, and its slot has a counter. Assumes nothing.
use Rattle.std.proofs.Common.{◌≡◌, ◌/◌, ℕ, length, sym, ap, ◌∙◌, arith}
use Rattle.lists.proofs.Every.{all_at}
use Rattle.repeats_sieving.specs.Kept.{told_of}
use Rattle.repeats_sieving.proofs.Telling.{slot_lt, keeping_none, keeping_next, keeping_all}
use Rattle.repeats_sieving.proofs.inner.keep.Goals as goal

pub loop-i-init : goal.loop-i-init
loop-i-init c = keeping_none _ _

pub bounds-table-s : goal.bounds-table-s
bounds-table-s c = omega (arith, slot_lt, all_at _ _ c.requires.sifting.inside c.loop-i.i 0 c.loop-i-test.true)

pub loop-i-preserved : goal.loop-i-preserved
loop-i-preserved c =
    let s = c.loop-i in
    let l = all_at _ _ c.requires.sifting.inside s.i 0 c.loop-i-test.true in
    let told = c.requires.told c.slot_of-s.result (omega (arith, slot_lt)) ∙ ap (told_of _ c.args.ids.now) c.slot_of-s.ensures in
    keeping_next _ _ s.ids s.i s.o _ s.invariant c.loop-i-test.true s.auto.ids (c.full-q.ensures ∙ ap (λ (t : ℕ). t / 2) told)

pub returns : goal.returns
returns c =
    let s = c.loop-i in
    let e : s.i ≡ length c.args.ids.now = omega arith in
    keeping_all _ _ s.ids s.o (rw (sym e) s.invariant) s.auto.ids
