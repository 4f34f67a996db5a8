-- `may_stand` meets its contract. Invariant: the key's letters stand from none of the positions of the blocks passed. Assumes nothing.
use Prim.Native.Nat.{◌*◌}
use Rattle.quick_walks.proofs.Keys.{Nowhere}
use Rattle.quick_walks.proofs.inner.may_stand.Given as goal

abbrev pub invariant-loop-block : goal.invariant-loop-block
invariant-loop-block l = Nowhere l.places l.key l.letters l.at (16 * l.block)
