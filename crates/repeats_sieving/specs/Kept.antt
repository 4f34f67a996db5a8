-- Inner: a sieve of ids: those are kept whose slot has another id. A slot is any number that a function f gives an id.
use Rattle.std.specs.Prelude.{◌≡◌, List, ℕ, zero, suc, ◌<◌, length, get_or}
use Rattle.lists.specs.Every.{All}
use Rattle.lists.specs.Pairs.{Pairs}
use Rattle.lists.specs.Pick.{pick}

-- n, but 2 where it is more
unfoldable pub to_two : ℕ → ℕ
to_two zero = 0
to_two (suc zero) = 1
to_two (suc (suc n)) = 2

-- how many ids have slot s: 0, 1, or 2 for more
unfoldable pub told_of : (ℕ → ℕ) → List ℕ → ℕ → ℕ
told_of f ids s = to_two (length (pick f s ids))

-- the ids whose slot is told twice, in their order
unfoldable pub kept : (ℕ → ℕ) → List ℕ → List ℕ
kept f ids = pick (λ x. told_of f ids (f x)) 2 ids

-- ─── what a sieve must not lose ──────────────────────────────────────────────

-- x stands in the list
abbrev pub Stands : ℕ → List ℕ → Type 0
Stands x xs = (i : ℕ) × (i < length xs) × (get_or xs i 0 ≡ x)

-- x has the key of a smaller one
abbrev pub Twin : (ℕ → ℕ) → ℕ → Type 0
Twin key x = (y : ℕ) × (y < x) × (key y ≡ key x)

-- Of the ids below n, those of xs, in rising order, are left: with any two of one key both.
pub record Sieved (key : ℕ → ℕ) (n : ℕ) (xs : List ℕ) : Type 0 where
  pub inside : All (λ x. x < n) xs
  pub rises : Pairs (λ x y. x < y) xs
  pub twins : (x y : ℕ) → y < x → x < n → key y ≡ key x → Stands x xs × Stands y xs
