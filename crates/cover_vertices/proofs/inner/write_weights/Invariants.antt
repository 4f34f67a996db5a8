-- `write_weights` meets its contract. The loop's invariant: storing the end weights of the strings that are left, from entry 2i on, gives all.
use Rattle.cover_vertices.proofs.EndWeights.{Writing}
use Rattle.cover_vertices.proofs.inner.write_weights.Given as goal

abbrev pub invariant-loop-i : goal.invariant-loop-i
invariant-loop-i l = Writing l.k l.ends l.weights l.keys l.before l.passed l.i
