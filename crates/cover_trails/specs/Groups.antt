-- Groups of end weights, and the numbers E, O and E + O / 2 of them.
-- Specification: 5.2, 5.4.
use mathlib.Core.List.{List, [], ◌∷◌, map, Memᴰ}
use Rattle.std.specs.Prelude.{ℕ, zero, suc, ◌+◌, ◌*◌, ◌/◌, eqb}
use Rattle.lists.specs.Choose.{choose}
use Rattle.lists.specs.Count.{agree}
use Rattle.cover_trails.specs.Counting.{occurs, oddly, sum_below, above}
use Rattle.cover_trails.specs.Strings.{Ends, front, back, weights}

-- Two end weights are in one group if a chain of strings joins them: the chain ends where it started, or goes on over a string (a, b), either way.
pub data Joined (strings : List Ends) : ℕ → ℕ → Type 0 where
  start : {w : ℕ} → Joined strings w w
  ahead : {w a b : ℕ} → Joined strings w a → Memᴰ (a, b) strings → Joined strings w b
  behind : {w a b : ℕ} → Joined strings w b → Memᴰ (a, b) strings → Joined strings w a

-- A name for the group of w: each string gives the group of its back the name of the group of its front.
-- Two weights have one name exactly if they are joined (`joined-same_name`, `same_name_joined` in proofs/Groups), and the name is itself a weight of the group
-- (`joined_name`).
unfoldable pub name_of : List Ends → ℕ → ℕ
name_of [] w = w
name_of (s ∷ strings) w =
    choose (eqb (name_of strings w) (name_of strings (back s))) (name_of strings (front s)) (name_of strings w)

-- 1 for a group that has members and no odd ones, else 0
abbrev pub all_even : ℕ → ℕ → ℕ
all_even zero odds = 0
all_even (suc members) zero = 1
all_even (suc members) (suc odds) = 0

-- Weights ws below n, in groups by their names, which are below n too.
module _ (n : ℕ) (name : ℕ → ℕ) (ws : List ℕ) where
  -- how many weights of the group l occur oddly often
  unfoldable pub odd_members : ℕ → ℕ
  unfolding sum_below oddly agree
  odd_members l = sum_below n (λ w. agree l (name w) * oddly ws w)

  -- 1 for a group l whose weights all occur evenly often, else 0
  unfoldable pub even_group : ℕ → ℕ
  unfolding odd_members occurs
  even_group l = all_even (occurs l (map name ws)) (odd_members l)

  -- the number of groups whose weights all occur evenly often
  unfoldable pub count_even_groups : ℕ
  unfolding sum_below even_group
  count_even_groups = sum_below n even_group

-- the number of weights below n that occur oddly often in ws
unfoldable pub count_odd : ℕ → List ℕ → ℕ
unfolding sum_below oddly
count_odd n ws = sum_below n (oddly ws)

-- E: the groups whose weights all occur evenly often (`counted_group`, `group_counted` in proofs/EvenGroups)
unfoldable pub even_groups : List Ends → ℕ
unfolding count_even_groups above name_of weights
even_groups strings = count_even_groups (above (weights strings)) (name_of strings) (weights strings)

-- O: the number of weights that occur oddly often; it is even (`odd_weights_halves` in proofs/Bounds)
unfoldable pub odd_weights : List Ends → ℕ
unfolding count_odd above weights
odd_weights strings = count_odd (above (weights strings)) (weights strings)

-- the least number of paths, E + O / 2
unfoldable pub least : List Ends → ℕ
unfolding even_groups odd_weights
least strings = even_groups strings + odd_weights strings / 2
