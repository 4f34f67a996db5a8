-- Inner: the minimizer of a word that is given by its code.
use Rattle.std.specs.Prelude.{ℕ, zero, suc, ◌/◌, ◌%◌, ◌^◌, min}

-- A piece of a code c is p letters of it. Of the n + 1 pieces in the last n + p letters, the smallest.
unfoldable pub least : ℕ → ℕ → ℕ → ℕ
least p zero c = c % 4 ^ p
least p (suc n) c = min (c / 4 ^ suc n % 4 ^ p) (least p n c)
