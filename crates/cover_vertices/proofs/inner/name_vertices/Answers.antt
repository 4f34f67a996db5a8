-- `name_vertices` meets its contract: each turn names one end (proofs/Naming).
use native.Mathlib.Omega.{arith}
use Rattle.cover_vertices.proofs.Naming.{naming_start, named_low, naming_on}
use Rattle.cover_vertices.proofs.inner.name_vertices.Goals as goal

pub loop-q-init : goal.loop-q-init
loop-q-init c = naming_start _ _ _

pub bounds-keys-c : goal.bounds-keys-c
bounds-keys-c c = omega (arith, c.requires.rising.low c.loop-q.q (omega arith))

pub overflow_cast-verts : goal.overflow_cast-verts
overflow_cast-verts c = omega (arith, named_low c.requires.rising c.loop-q.invariant (omega arith) c.vertex_of-v.ensures)

pub bounds-verts-c : goal.bounds-verts-c
bounds-verts-c c = omega (arith, c.requires.rising.low c.loop-q.q (omega arith))

pub loop-q-preserved : goal.loop-q-preserved
loop-q-preserved c = naming_on c.requires.rising c.loop-q.invariant (omega arith) c.vertex_of-v.ensures (omega arith)

pub returns : goal.returns
returns c = λ q l. c.loop-q.invariant.done q (omega arith)
