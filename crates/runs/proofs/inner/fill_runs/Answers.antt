-- `fill_runs` meets its contract. Invariant: storing the runs that start later from `at` on completes both tables. Assumes nothing.
use mathlib.Core.Path.{refl, ap, ◌∙◌}
use mathlib.Core.List.{map}
use Prim.Native.Nat.{◌+◌}
use native.Mathlib.Omega.{arith}
use Rattle.lists.proofs.Storing.{begin_at, inside, store, restated, stored}
use Rattle.runs.proofs.Loops.{later_same, later_new, later_end, column_stored, column_none, room_some, room_rest}
use Rattle.runs.proofs.inner.fill_runs.Goals as goal
use Rattle.runs.proofs.inner.fill_runs.Goals.{then-v-w, else-v-w}

pub returns-in_default : goal.returns-in_default
returns-in_default c = record {
  weights_filled = column_none (λ r. r.0) _ _ c.in_default.ensures.cases;
  firsts_filled = column_none (λ r. r.1) _ _ c.in_default.ensures.cases;
}

pub bounds-run_weights-0 : goal.bounds-run_weights-0
bounds-run_weights-0 c = room_some _ _ _ _ c.in-Some.ensures.cases.0 c.requires.weights_in_bounds.0

pub bounds-run_firsts-0 : goal.bounds-run_firsts-0
bounds-run_firsts-0 c = room_some _ _ _ _ c.in-Some.ensures.cases.0 c.requires.weights_in_bounds.1

pub loop-i-init : goal.loop-i-init
loop-i-init c =
    let e = c.in-Some.ensures.cases.0 in
    let room = c.requires.weights_in_bounds in
    record {
      low = omega arith;
      weights = begin_at 1 _ _ (room_rest (λ r. r.0) _ _ _ c.args.run_weights.now _ e room.0);
      firsts = begin_at 1 _ _ (room_rest (λ r. r.1) _ _ _ c.args.run_firsts.now _ e room.1);
    }

pub bounds-run_weights-at : goal.bounds-run_weights-at
bounds-run_weights-at c =
    let l = c.loop-i in
    inside (restated (ap (map (λ r. r.0)) (later_new (l.i + 1) l.w c.in-Some.rest.now l.i c.loop-i-test.true c.if-v-w.true _ refl)) l.invariant.weights)

pub bounds-run_firsts-at : goal.bounds-run_firsts-at
bounds-run_firsts-at c =
    let l = c.loop-i in
    inside (restated (ap (map (λ r. r.1)) (later_new (l.i + 1) l.w c.in-Some.rest.now l.i c.loop-i-test.true c.if-v-w.true _ refl)) l.invariant.firsts)

pub loop-i-preserved : goal.loop-i-preserved
loop-i-preserved c =
    let l = c.loop-i in
    let rest = c.in-Some.rest.now in
    elim c.if-v-w.branch [
      | then-v-w w ↦
          let new = later_new (l.i + 1) l.w rest l.i c.loop-i-test.true w.if-v-w.true (l.i + 2) (omega arith) in
          rw (w.run_weights-is, w.run_firsts-is, w.w-is, w.at-is) (record {
            low = omega arith;
            weights = store (restated (ap (map (λ r. r.0)) new) l.invariant.weights);
            firsts = store (restated (ap (map (λ r. r.1)) new) l.invariant.firsts);
          })
      | else-v-w w ↦
          let same = later_same (l.i + 1) l.w rest l.i c.loop-i-test.true w.if-v-w.false in
          rw (w.run_weights-is, w.run_firsts-is, w.w-is, w.at-is) (record {
            low = omega arith;
            weights = restated (ap (map (λ r. r.0)) same) l.invariant.weights;
            firsts = restated (ap (map (λ r. r.1)) same) l.invariant.firsts;
          })
    ]

pub returns : goal.returns
returns c =
    let l = c.loop-i in
    let e = c.in-Some.ensures.cases.0 in
    let end = later_end (l.i + 1) l.w c.in-Some.rest.now l.i c.loop-i-test.false in
    let room = c.requires.weights_in_bounds in record {
      weights_filled = stored (restated (ap (map (λ r. r.0)) end) l.invariant.weights)
          ∙ column_stored (λ r. r.0) _ _ _ c.args.run_weights.now e (room_some _ _ _ _ e room.0);
      firsts_filled = stored (restated (ap (map (λ r. r.1)) end) l.invariant.firsts)
          ∙ column_stored (λ r. r.1) _ _ _ c.args.run_firsts.now e (room_some _ _ _ _ e room.1);
    }
