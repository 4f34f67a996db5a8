-- `least_second` meets its contract: a pair holds the k-mers at two places side by side, and the second is taken where it is smaller and has the code of the
-- first. Assumes nothing.
use Rattle.std.proofs.Common.{Bool, ◌&&◌, ltb, eqb, ◌+◌, ◌≡◌, ◌<◌, ◌≤◌, length, drop, take, get_or, List, ℕ, refl, sym, ap, subst, ◌∙◌, arith}
use native.Mathlib.Nat.{add-zero}
use Rattle.std.proofs.Math.Seq.{get_or-take, drop-drop}
use Rattle.std.proofs.lemmas.List.{length-drop, get_or-drop, length_push}
use Rattle.lists.proofs.Every.{all_at}
use Rattle.sorting.specs.Keys.{code_at}
use Rattle.repeats.specs.Order.{Least}
use Rattle.repeats.proofs.Neighbours.{least-take, least_keep}
use Rattle.repeats.proofs.inner.least_second.Goals as goal

-- the pair at place j of the order
module _ (ids : List ℕ) (j : ℕ) {s : ℕ} {pair rest : List ℕ} (r : rest ≡ drop j ids) (e : s ≡ 2) (long : s ≤ length rest) (is : pair ≡ take s rest) where
  inside : j + 1 < length ids
  inside = omega (arith, ap length r, length-drop j ids)

  at : (k : ℕ) → k < 2 → get_or pair k 0 ≡ get_or ids (j + k) 0
  at k h =
      ap (λ (xs : List ℕ). get_or xs k 0) (is ∙ (ap (λ (t : ℕ). take t rest) e ∙ ap (take 2) r))
      ∙ (get_or-take 2 (drop j ids) k 0 h ∙ get_or-drop j ids k 0)

  second : get_or pair 1 0 ≡ get_or ids (j + 1) 0
  second = at 1 (omega arith)

  -- the test of a turn
  test_is : (key : ℕ → ℕ) (least : ℕ) (b : Bool) → b ≡ eqb (key (get_or pair 0 0)) (key (get_or pair 1 0))
      → (ltb (get_or ids (j + 1) 0) least && eqb (key (get_or ids j 0)) (key (get_or ids (j + 1) 0))) ≡ (ltb (get_or pair 1 0) least && b)
  test_is key least b q = rw (q, at 0 (omega arith), second, add-zero) refl

  rest_on : drop 1 rest ≡ drop (j + 1) ids
  rest_on = ap (drop 1) r ∙ drop-drop 1 j ids

pub same_code-requires : goal.same_code-requires
same_code-requires c =
    let xs = c.args.ids.now in
    let s = c.loop-pair in
    let t = c.in-Some.ensures.steps.1 in
    let j = length s.yielded in
    let z = inside xs j s.invariant.rest s.invariant.size t.0 t.1 in
    let x = at xs j s.invariant.rest s.invariant.size t.0 t.1 0 (omega arith) in
    let y = at xs j s.invariant.rest s.invariant.size t.0 t.1 1 (omega arith) in (
      omega (arith, all_at _ xs c.requires.inside (j + 0) 0 (omega arith)),
      omega (arith, all_at _ xs c.requires.inside (j + 1) 0 (omega arith)),
      omega arith,
    )

pub loop-pair-preserved-then-better : goal.loop-pair-preserved-then-better
loop-pair-preserved-then-better c =
    let xs = c.args.ids.now in
    let key = code_at c.args.hi.now c.args.lo.now in
    let s = c.loop-pair in
    let v = s.invariant in
    let t = c.in-Some.ensures.steps in
    let j = length s.yielded in
    let z = inside xs j v.rest v.size t.1.0 t.1.1 in
    let better = test_is xs j v.rest v.size t.1.0 t.1.1 key s.least c.same_code.result c.same_code.ensures in
    rw length_push
    record {
      size = t.0 ∙ v.size;
      rest = t.1.2 ∙ rest_on xs j v.rest v.size t.1.0 t.1.1;
      least = subst (Least key (length c.args.hi.now) xs (j + 1 + 1)) (sym (second xs j v.rest v.size t.1.0 t.1.1))
          (least-take key _ xs j s.least z v.least (better ∙ c.if-better.true));
    }

pub loop-pair-preserved : goal.loop-pair-preserved
loop-pair-preserved c =
    let xs = c.args.ids.now in
    let key = code_at c.args.hi.now c.args.lo.now in
    let s = c.loop-pair in
    let v = s.invariant in
    let t = c.in-Some.ensures.steps in
    let j = length s.yielded in
    let z = inside xs j v.rest v.size t.1.0 t.1.1 in
    let better = test_is xs j v.rest v.size t.1.0 t.1.1 key s.least c.same_code.result c.same_code.ensures in
    rw length_push
    record {
      size = t.0 ∙ v.size;
      rest = t.1.2 ∙ rest_on xs j v.rest v.size t.1.0 t.1.1;
      least = least_keep key _ xs j s.least z v.least (better ∙ c.if-better.false);
    }
