-- `mark_odd` meets its contract: each turn turns the flag of one end's vertex (proofs/Marking).
use Rattle.cover_vertices.proofs.Marking.{Marking}
use Rattle.cover_vertices.proofs.inner.mark_odd.Given as goal

abbrev pub invariant-loop-vert : goal.invariant-loop-vert
invariant-loop-vert l = Marking l.verts l.spokes l.vert-index
