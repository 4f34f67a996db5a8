-- `write_ladder` meets its contract: the next number is stored at each turn.
use mathlib.Core.Path.{refl}
use native.Mathlib.Omega.{arith}
use Rattle.cover_vertices.proofs.Ladder.{climb_start, climb_fits, climb_on, climb_end}
use Rattle.cover_vertices.proofs.inner.write_ladder.Goals as goal

pub loop-entry-init : goal.loop-entry-init
loop-entry-init c = climb_start _ _ _ _ refl c.requires

pub overflow_add-x : goal.overflow_add-x
overflow_add-x c = omega (arith, climb_fits c.loop-entry.invariant (omega arith))

pub loop-entry-preserved : goal.loop-entry-preserved
loop-entry-preserved c = climb_on c.loop-entry.invariant (omega arith)

pub returns : goal.returns
returns c = climb_end c.loop-entry.invariant (omega arith)
