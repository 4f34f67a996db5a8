-- A table that is used in regions. A region is n entries from entry b on, and is named by b and n.
use Rattle.std.specs.Prelude.{◌≡◌, ◌⊎◌, List, [], ◌∷◌, ℕ, ◌+◌, ◌<◌, ◌≤◌, length, get_or, take, drop}

-- what the region b, n of a table holds
unfoldable pub part : {A : Type 0} → ℕ → ℕ → List A → List A
part b n w = take n (drop b w)

-- the regions a, n and b, m share no entry
abbrev pub Apart : ℕ → ℕ → ℕ → ℕ → Type 0
Apart a n b m = (a + n ≤ b) ⊎ (b + m ≤ a)

-- ─── several regions, as a list of starts and sizes ──────────────────────────

-- entry i lies in none of the regions
abbrev pub Off : List (ℕ × ℕ) → ℕ → Type 0
Off [] i = Unit {0}
Off (r ∷ rs) i = ((i < r.0) ⊎ (r.0 + r.1 ≤ i)) × Off rs i

-- the region a, n shares no entry with any of them
abbrev pub Clear : List (ℕ × ℕ) → ℕ → ℕ → Type 0
Clear [] a n = Unit {0}
Clear (r ∷ rs) a n = Apart a n r.0 r.1 × Clear rs a n

-- the table v is w but for the entries of these regions: what a call that writes them, and nothing else, makes of w
pub record Among {A : Type 0} (rs : List (ℕ × ℕ)) (w v : List A) : Type 0 where
  pub size : length v ≡ length w
  pub rest : (i : ℕ) (d : A) → Off rs i → get_or v i d ≡ get_or w i d

-- the same for one region
abbrev pub Only : {A : Type 0} → ℕ → ℕ → List A → List A → Type 0
Only b n w v = Among ((b, n) ∷ []) w v
