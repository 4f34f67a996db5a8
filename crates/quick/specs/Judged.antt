-- Inner: what asking wants of a question.
use Rattle.std.specs.Prelude.{List, ℕ, ◌^◌, ◌<◌, ◌≤◌, length}
use Rattle.lists.specs.Limits.{most_letters, most_k}
use Rattle.quick.specs.declared.Question.{Question}

-- a question that can be asked over these letters
pub record Askable (k : ℕ) (letters : List ℕ) (q : Question) : Type 0 where
  pub k_low : 1 ≤ k
  pub k_high : k ≤ most_k
  pub few_letters : length letters ≤ most_letters
  pub asked_small : q.asked < 4 ^ k
  pub turned_small : q.turned < 4 ^ k
