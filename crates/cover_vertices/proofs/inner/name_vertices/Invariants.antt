-- `name_vertices` meets its contract: each turn names one end (proofs/Naming).
use Rattle.cover_vertices.proofs.Naming.{Naming}
use Rattle.cover_vertices.proofs.inner.name_vertices.Given as goal

abbrev pub invariant-loop-q : goal.invariant-loop-q
invariant-loop-q l = Naming l.keys l.order l.verts l.v l.before l.q
