-- Inner: what functions ask of judged ends, letters and weights.
use Rattle.std.specs.Prelude.{true, ◌≡◌, List, ℕ, ◌≤◌, length}
use Rattle.lists.specs.Every.{All, every}
use Rattle.lists.specs.Limits.{most_letters, most_strings, most_k}
use Rattle.collection.specs.Collection.{Spelling}
use Rattle.collection.specs.Kmers.{kmers}
use Rattle.alphabet.specs.Letter.{is_letter}
use Rattle.collection_faults.specs.Faults.{first_short, last_end, is_weight}

-- no string is shorter than k
pub record Long (k : ℕ) (ends : List ℕ) : Type 0 where
  pub k_low : 1 ≤ k
  pub k_high : k ≤ most_k
  pub few : length ends ≤ most_strings
  pub long : first_short k 0 0 ends ≡ 0

-- judged letters and ends: what a pass over all k-mers goes by
pub record Ready (t : Spelling) : Type 0 where
  pub ends_long : Long t.k t.ends
  pub ends_last : last_end 0 t.ends ≡ length t.letters
  pub few_letters : length t.letters ≤ most_letters
  pub all_letters : every is_letter t.letters ≡ true

-- judged ends and weights
pub record Strung (k : ℕ) (ends ws : List ℕ) : Type 0 where
  pub ends_long : Long k ends
  pub few_letters : last_end 0 ends ≤ most_letters
  pub counted : length ws ≡ length (kmers k ends)
  pub within_range : All (λ w. is_weight w ≡ true) ws
