-- `judge_places` meets its contract: the number of places, then each place over zeros. Assumes nothing.
use native.Mathlib.Omega.{arith}
use Rattle.collection.specs.declared.refusal.Refusal.TheVariants.{Places}
use Rattle.collection.proofs.Verdicts.{bad_good, place_none, place_some}
use Rattle.apply_places.proofs.Marking.{judged_number, judged_each, zeros_ready}
use Rattle.apply_places.proofs.inner.judge_places.Goals as goal

pub returns-then-signed-m : goal.returns-then-signed-m
returns-then-signed-m c = judged_number _ _ _ c.if-signed-m.true

pub mark_places-r-requires : goal.mark_places-r-requires
mark_places-r-requires c =
    let g = c in
    let p = g.requires in
    let e = g.if-signed-m.false in
    let z = zeros_ready _ _ _ _ e p.1 c.zero_first.ensures in
    (omega (arith, e, p.0), z.0, z.1)

pub returns-then-r-ne0 : goal.returns-then-r-ne0
returns-then-r-ne0 c =
    let z = c.before in
    let s = z in
    let a = s.args in
    judged_each a.m _ a.work.now _ _ _ _ z.if-signed-m.false s.requires.1 z.zero_first.ensures
    c.mark_places-r.ensures (place_some Places _ c.if-r-ne0.true) (λ q. absurd (bad_good q))

pub returns : goal.returns
returns c =
    let z = c.before in
    let s = z in
    let a = s.args in
    judged_each a.m _ a.work.now _ _ _ _ z.if-signed-m.false s.requires.1 z.zero_first.ensures
    c.mark_places-r.ensures (place_none Places c.if-r-ne0.false) (λ q. c.if-r-ne0.false)
