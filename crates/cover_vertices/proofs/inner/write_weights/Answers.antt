-- `write_weights` meets its contract: each turn stores the two end weights of one string (proofs/EndWeights).
use mathlib.Core.Path.{refl}
use Prim.Native.Nat.{◌+◌, ◌≤◌}
use native.Mathlib.Omega.{arith}
use lib.ListN.{length, get_or}
use Rattle.collection_faults.specs.Faults.{last_end}
use Rattle.collection.specs.Kmers.{within}
use Rattle.collection.proofs.Kmers.{Next}
use Rattle.collection.proofs.Strung.{string_here, weights_inside}
use Rattle.cover_vertices.proofs.EndWeights.{writing_start, writing_on, writing_end}
use Rattle.cover_vertices.proofs.inner.write_weights.Goals as goal
use Rattle.cover_vertices.proofs.inner.write_weights.Goals.{In-loop-i}

-- the string of this turn, and its weights
next : (c : In-loop-i) → Next c.args.k (last_end 0 c.args.ends.now) c.loop-i.before (get_or c.args.ends.now c.loop-i.i 0)
next c = string_here c.loop-i.invariant.walk c.loop-i-test.true refl

inside : (c : In-loop-i) → c.loop-i.passed + within c.args.k c.loop-i.before (get_or c.args.ends.now c.loop-i.i 0) ≤ length c.args.weights.now
inside c = weights_inside c.loop-i.invariant.walk c.loop-i-test.true refl

pub loop-i-init : goal.loop-i-init
loop-i-init c = writing_start _ _ _ _ c.requires.0 c.requires.1

pub overflow_add-n-in-loop-i : goal.overflow_add-n-in-loop-i
overflow_add-n-in-loop-i c = omega (arith, next (goal.at.overflow_add-n-in-loop-i c).In-loop-i, c.requires.0.few_letters)

pub overflow_sub-n : goal.overflow_sub-n
overflow_sub-n c = omega (arith, next (goal.at.overflow_sub-n c).In-loop-i)

pub bounds-weights-passed : goal.bounds-weights-passed
bounds-weights-passed c =
    let t = (goal.at.bounds-weights-passed c).In-loop-i in omega (arith, next t, inside t)

pub overflow_sub-keys : goal.overflow_sub-keys
overflow_sub-keys c = omega (arith, next (goal.at.overflow_sub-keys c).In-loop-i)

pub bounds-weights-passed-in-loop-i : goal.bounds-weights-passed-in-loop-i
bounds-weights-passed-in-loop-i c =
    let t = (goal.at.bounds-weights-passed-in-loop-i c).In-loop-i in omega (arith, next t, inside t)

pub loop-i-preserved : goal.loop-i-preserved
loop-i-preserved c = writing_on c.loop-i.invariant c.loop-i-test.true refl c.requires.0.ends_long.k_low

pub returns : goal.returns
returns c = writing_end c.loop-i.invariant c.loop-i-test.false
