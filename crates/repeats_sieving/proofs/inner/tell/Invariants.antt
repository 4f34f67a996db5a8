-- `tell` meets its contract. The loop's invariant: the counters tell of the ids that have passed.
use Prim.Native.Nat.{◌*◌}
use lib.ListN.{length, take}
use Rattle.repeats_sieving.specs.Slots.{slot_at, Told}
use Rattle.repeats_sieving.proofs.inner.tell.Given as goal

abbrev pub invariant-loop-id : goal.invariant-loop-id
invariant-loop-id l =
    let slots = 16 * length l.initial.table in
    Told (slot_at l.hi l.lo slots l.a l.c) slots (take l.id-index l.ids) l.table
