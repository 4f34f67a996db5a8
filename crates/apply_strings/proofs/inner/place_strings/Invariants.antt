-- `place_strings` meets its contract. Invariant: storing the strings from place j on completes the three tables. Assumes nothing.
use lib.ListN.{length}
use Rattle.apply_strings.specs.Reordered.{reordered}
use Rattle.apply_strings.proofs.Placements.{Placing}
use Rattle.collection.specs.Lent.{collection_in}
use Rattle.apply_strings.proofs.inner.place_strings.Given as goal

abbrev pub invariant-loop-j : goal.invariant-loop-j
invariant-loop-j l =
    Placing (reordered (collection_in l.given) l.signed) (length l.given.ends.now) l.initial.new_letters l.initial.new_ends l.initial.new_weights
    l.new_letters l.new_ends l.new_weights l.at l.kmer l.j
