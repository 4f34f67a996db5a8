-- Inner: a table of counters of two bits, sixteen to an entry, and the slot of a code.
use Rattle.std.specs.Prelude.{◌≡◌, ◌⊎◌, List, ℕ, ◌+◌, ◌*◌, ◌/◌, ◌%◌, ◌^◌, ◌<◌, ◌≤◌, length, get_or, take}
use Rattle.lists.specs.Every.{All}
use Rattle.sorting.specs.Keys.{key_at}
use Rattle.repeats_sieving.specs.Kept.{to_two, told_of, kept}

-- ─── counters ────────────────────────────────────────────────────────────────

-- the two bits of an entry from bit e up
abbrev pub two_bits : ℕ → ℕ → ℕ
two_bits v e = v / 2 ^ e % 4

-- the bit of its entry that the counter of slot s begins at
abbrev pub bit_of : ℕ → ℕ
bit_of s = 2 * (s % 16)

-- the counter of slot s
abbrev pub counter_of : List ℕ → ℕ → ℕ
counter_of table s = two_bits (get_or table (s / 16) 0) (bit_of s)

-- each counter holds how many ids have its slot, up to 2
abbrev pub Told : (ℕ → ℕ) → ℕ → List ℕ → List ℕ → Type 0
Told f slots ids table = (s : ℕ) → s < slots → counter_of table s ≡ told_of f ids s

-- the entry v before and r after: the counter from bit e up is one more, up to 2, and those beside it stay
pub record Grown (v e r : ℕ) : Type 0 where
  pub here : two_bits v e ≤ 2 → two_bits r e ≡ to_two (two_bits v e + 1)
  pub other : (g : ℕ) → (e + 2 ≤ g) ⊎ (g + 2 ≤ e) → two_bits r g ≡ two_bits v g

-- ─── slots ───────────────────────────────────────────────────────────────────

-- the slot of a code by its halves; a and c are any numbers
unfoldable pub slot_of : ℕ → ℕ → ℕ → ℕ → ℕ → ℕ
slot_of slots a c hi lo = (lo * a + hi * c) / 65536 % 4294967296 * slots / 4294967296

-- the slot of id x, whose halves are the entries x of two tables
abbrev pub slot_at : List ℕ → List ℕ → ℕ → ℕ → ℕ → ℕ → ℕ
slot_at hi lo slots a c x = slot_of slots a c (key_at hi x) (key_at lo x)

-- ─── a sieve ─────────────────────────────────────────────────────────────────

-- What a sieve goes by: codes in halves, ids of them, so many entries of counters, and low constants.
pub record Sifting (hi lo ids : List ℕ) (entries a c : ℕ) : Type 0 where
  pub halves : length lo ≡ length hi
  pub inside : All (λ x. x < length hi) ids
  pub some : 0 < length hi → 0 < entries
  pub few : entries ≤ 2 ^ 28
  pub a_low : a < 2 ^ 31
  pub c_low : c < 2 ^ 31

-- Of the ids xs before and ys after: the first r of ys are those that are kept of xs.
pub record Kept (f : ℕ → ℕ) (xs ys : List ℕ) (r : ℕ) : Type 0 where
  pub count : r ≡ length (kept f xs)
  pub left : take r ys ≡ kept f xs
