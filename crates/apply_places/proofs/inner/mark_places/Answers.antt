-- `mark_places` meets its contract. Invariant: the places that passed are not bad, and work names the string of each. Assumes nothing.
use mathlib.Core.Path.{◌≡◌, ap, ◌∙◌}
use Prim.Native.Nat.{ℕ, ◌<◌}
use native.Mathlib.Omega.{arith}
use lib.IntN.{ℤ, pos, nat_abs}
use lib.ListN.{get_or}
use lib.Signed.{mag}
use mir.Syntax.{w32}
use mir.Val.{to_z, of_z}
use Rattle.cover_trails.proofs.Signed.{kept}
use Rattle.apply_places.proofs.Marking.{marking_begins, marking_stops, marking_used, marking_next, marking_ends, bad_zero, bad_high}
use Rattle.apply_places.proofs.inner.mark_places.Goals as goal

-- a place's size, without what the call makes of the place
sized : (z : ℤ) (a : ℕ) → a ≡ nat_abs (to_z w32 (of_z w32 z)) → mag z < 2147483648 → a ≡ nat_abs z
sized z a e h = e ∙ ap nat_abs (kept z h)

pub loop-i-init : goal.loop-i-init
loop-i-init c = marking_begins _ _ c.requires.2

pub returns-then-a-eq0 : goal.returns-then-a-eq0
returns-then-a-eq0 c =
    let l = c.loop-i in
    let e = sized (get_or c.args.signed.now l.i (pos 0)) c.size_of-a.result c.size_of-a.ensures (omega arith) in
    record {
      first = marking_stops l.invariant c.loop-i-test.true _ e (bad_zero _ _ _ c.if-a-eq0.true);
      size = l.invariant.size;
      rest = l.invariant.rest;
      marked = λ q. absurd (let z : ⊥ = omega arith in z);
    }

pub returns-then-m-a : goal.returns-then-m-a
returns-then-m-a c =
    let l = c.loop-i in
    let e = sized (get_or c.args.signed.now l.i (pos 0)) c.size_of-a.result c.size_of-a.ensures (omega arith) in
    record {
      first = marking_stops l.invariant c.loop-i-test.true _ e (bad_high _ _ _ c.if-a-eq0.false c.if-m-a.true);
      size = l.invariant.size;
      rest = l.invariant.rest;
      marked = λ q. absurd (let z : ⊥ = omega arith in z);
    }

pub returns-then-used : goal.returns-then-used
returns-then-used c =
    let l = c.loop-i in
    let e = sized (get_or c.args.signed.now l.i (pos 0)) c.size_of-a.result c.size_of-a.ensures (omega arith) in
    let u = marking_used l.invariant c.loop-i-test.true _ e c.if-a-eq0.false c.if-m-a.false c.if-used.true in
    record {
      first = marking_stops l.invariant c.loop-i-test.true _ e u;
      size = l.invariant.size;
      rest = l.invariant.rest;
      marked = λ q. absurd (let z : ⊥ = omega arith in z);
    }

pub loop-i-preserved : goal.loop-i-preserved
loop-i-preserved c =
    let l = c.loop-i in
    let e = sized (get_or c.args.signed.now l.i (pos 0)) c.size_of-a.result c.size_of-a.ensures (omega arith) in
    marking_next l.invariant c.loop-i-test.true _ e c.if-a-eq0.false c.if-m-a.false (omega (arith, l.invariant.size, c.requires.1))
    c.if-used.false c.loop-i-test.true

pub returns : goal.returns
returns c = marking_ends c.loop-i.invariant c.loop-i-test.false
