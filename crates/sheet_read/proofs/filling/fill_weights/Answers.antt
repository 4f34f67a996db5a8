-- `fill_weights` meets its contract. Invariant: the weights stored and those left are all, and the rest of the line with as many weights as are left answers
-- for the whole. Assumes nothing.
use Prim.Native.Nat.{ℕ, ◌+◌, ◌-◌, ◌<◌}
use mathlib.Core.Path.{◌≡◌, sym, ap, ◌∙◌}
use mathlib.Core.Bool.{not}
use native.Mathlib.Omega.{arith}
use Rattle.text.proofs.Tests.{told_no, told_yes}
use Rattle.sheet_lines.specs.Cursor.{tail_at, fine}
use Rattle.sheet_lines.proofs.Tails.{tail_no_tab, tail_bad, tail_next}
use Rattle.sheet_read.proofs.Weights.{weights_next, weights-none, fine_count, not_fine, tail_fine, store_weight, stored_weights}
use Rattle.sheet_read.proofs.filling.fill_weights.Goals as goal

pub overflow_add-t-items : goal.overflow_add-t-items
overflow_add-t-items c = omega (arith, fine_count c.args.s.now c.args.at c.args.n c.requires.0)

pub slice_bounds-t-items-end : goal.slice_bounds-t-items-end
slice_bounds-t-items-end c = omega (arith, fine_count c.args.s.now c.args.at c.args.n c.requires.0)

pub returns-then-not-byte_is : goal.returns-then-not-byte_is
returns-then-not-byte_is c =
    let left : 0 < c.args.n - c.loop-t.t-index = omega arith in
    absurd (not_fine (tail_no_tab _ c.loop-t.i _ left (told_no c.byte_is.ensures (ap not c.if-not-byte_is.true))) c.loop-t.invariant.fine_rest)

pub returns-in_default : goal.returns-in_default
returns-in_default c =
    let left : 0 < c.args.n - c.loop-t.t-index = omega arith in
    let h = told_yes c.byte_is.ensures (ap not c.if-not-byte_is.false) in
    absurd (not_fine (tail_bad _ c.loop-t.i _ left h (sym c.weight_at.ensures ∙ c.in_default.is)) c.loop-t.invariant.fine_rest)

pub loop-t-preserved : goal.loop-t-preserved
loop-t-preserved c =
    let left : 0 < c.args.n - c.loop-t.t-index = omega arith in
    let h = told_yes c.byte_is.ensures (ap not c.if-not-byte_is.false) in
    let w = c.in-Some.w in
    let e = sym c.weight_at.ensures ∙ c.in-Some.is in
    let n : c.args.n - c.loop-t.t-index - 1 ≡ c.args.n - (c.loop-t.t-index + 1) = omega arith in
    let t = tail_next _ c.loop-t.i _ left w.value w.next h e ∙ ap (tail_at _ w.next) n in
    record {
      size = c.loop-t.invariant.size;
      fine_rest = sym (ap fine t) ∙ c.loop-t.invariant.fine_rest;
      stores = store_weight c.loop-t.t-items c.loop-t.t-index (omega arith) (weights_next _ c.loop-t.i w.value w.next h e) c.loop-t.invariant.stores;
      same_tail = c.loop-t.invariant.same_tail ∙ t;
    }

pub returns : goal.returns
returns c =
    let z : c.args.n - c.loop-t.t-index ≡ 0 = omega arith in
    let f = sym (ap (λ (x : ℕ). fine (tail_at c.args.s.now c.loop-t.i x)) z) ∙ c.loop-t.invariant.fine_rest in (
      stored_weights c.args.o c.args.n c.loop-t.t-index c.args.out.now c.loop-t.t-items (omega arith) (omega arith)
          (weights-none c.args.s.now c.loop-t.i f) c.loop-t.invariant.stores,
      c.loop-t.invariant.same_tail ∙ (ap (tail_at c.args.s.now c.loop-t.i) z ∙ tail_fine c.args.s.now c.loop-t.i f),
    )
