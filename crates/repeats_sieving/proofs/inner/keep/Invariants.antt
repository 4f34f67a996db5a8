-- `keep` meets its contract. The loop's invariant: the ids that are kept of the first i stand in front.
use Prim.Native.Nat.{◌*◌}
use lib.ListN.{length}
use Rattle.repeats_sieving.specs.Slots.{slot_at}
use Rattle.repeats_sieving.proofs.Telling.{Keeping}
use Rattle.repeats_sieving.proofs.inner.keep.Given as goal

abbrev pub invariant-loop-i : goal.invariant-loop-i
invariant-loop-i l = Keeping (slot_at l.hi l.lo (16 * length l.table) l.a l.c) l.initial.ids l.ids l.i l.o
