-- `write_ladder` meets its contract. The loop's invariant: storing the rest of the ladder completes it.
use Rattle.std.proofs.Common.{length}
use Rattle.cover_vertices.proofs.Ladder.{Climbing}
use Rattle.cover_vertices.proofs.inner.write_ladder.Given as goal

abbrev pub invariant-loop-entry : goal.invariant-loop-entry
invariant-loop-entry l = Climbing (length l.initial.entries) l.first l.step l.entries l.x l.entry-index
