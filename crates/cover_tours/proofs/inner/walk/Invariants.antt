-- `walk` meets its contract: each turn is a step of the walk (proofs/Going, Taking, GivingBack). The measure: what is unused counts twice, for it is taken and
-- given back.
use Prim.Native.Nat.{◌+◌, ◌*◌}
use lib.ListN.{length}
use Rattle.cover_tours.specs.Layout.{Fits, tables}
use Rattle.cover_tours.specs.States.{left}
use Rattle.cover_tours.proofs.Going.{Going}
use Rattle.cover_tours.proofs.inner.walk.Given as goal

abbrev pub invariant-loop-here : goal.invariant-loop-here
invariant-loop-here l = Fits l.m l.work × Going l.m (tables l.m l.initial.work) l.s l.z (tables l.m l.work) l.n l.top l.here

abbrev pub decreases-loop-here : goal.decreases-loop-here
decreases-loop-here l = 2 * length (left l.m (tables l.m l.work)) + l.n
