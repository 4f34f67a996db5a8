-- The minimizer of each stretch of a judged collection is the code of p letters. Assumes nothing.
use Prim.Native.Nat.{ℕ, ◌^◌, ◌≤◌, ◌<◌}
use lib.ListN.{length}
use Rattle.lists.specs.Every.{All}
use Rattle.lists.proofs.Every.{all_map, every-all}
use Rattle.alphabet.specs.Letter.{is_letter}
use Rattle.collection.specs.Collection.{Spelling}
use Rattle.collection.specs.Ready.{Ready}
use Rattle.index_minimizers.specs.Minimizer.{minimizer_at}
use Rattle.index_stretches.specs.Stretches.{stretches}
use Rattle.index_stretches.proofs.Fits.{stretches_inside}
use Rattle.index_cutting.proofs.Carried.{minimizer_below}

pub keys_small : (t : Spelling) (p : ℕ) → Ready t → p ≤ t.k
    → All (λ s. minimizer_at t.k p t.letters s.at < 4 ^ p) (stretches (minimizer_at t.k p t.letters) t.k t.ends)
keys_small t p r l =
    all_map (λ s e. minimizer_below t.k p t.letters l (every-all is_letter t.letters r.all_letters) s.at e)
    (stretches (minimizer_at t.k p t.letters) t.k t.ends)
    (stretches_inside (minimizer_at t.k p t.letters) t.k (length t.letters) t.ends r.ends_long.k_low r.ends_long.long r.ends_last)
