-- `key_of` meets its contract. Invariant: the first t entries of the key are the word's letters at their places. Assumes nothing.
use mathlib.Core.Path.{◌≡◌}
use mathlib.Core.List.{map}
use Prim.Native.Nat.{ℕ, ◌<◌}
use lib.ListN.{length, get_or}
use Rattle.alphabet.specs.Letter.{capital}
use Rattle.words.specs.Turned.{spelled}
use Rattle.quick_walks.proofs.inner.key_of.Given as goal

abbrev pub invariant-loop-t : goal.invariant-loop-t
invariant-loop-t l =
    record { size : length l.key ≡ 8; holds : (u : ℕ) → u < l.t → get_or (map capital (spelled l.k l.w)) (get_or l.places u 0) 0 ≡ get_or l.key u 0 }
