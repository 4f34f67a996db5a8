-- A sheet of at most 8,192 bytes fits the tables, and the number of paths is at most that of strings. Assumes nothing.
use mathlib.Core.Path.{refl, ap}
use mathlib.Core.List.{List, [], ◌∷◌}
use Prim.Native.Nat.{ℕ, ◌+◌, ◌*◌, ◌≤◌}
use native.Mathlib.Omega.{arith}
use lib.ListN.{length, length-append}
use Rattle.collection.specs.Strings.{Str, letters_in, weights_in}
use Rattle.text.specs.Numbers.{digits}
use Rattle.text.specs.Parts.{tab, feed}
use Rattle.sheet.specs.Read.{sheet_n, sheet_m, sheet_weights}
use Rattle.sheet.specs.Sheet.{sheet_k, sheet_strings, Accepted}
use Rattle.sheet.specs.Text.{weights_text, string_text, lines_text, sheet_text}
use Rattle.sheet.proofs.Accepted.{accepted_text}
use Rattle.text.proofs.Digits.{digits-some}
use Rattle.cover_trails.specs.Groups.{least}
use Rattle.cover_trails.specs.Places.{arranged}
use Rattle.cover_trails.specs.Strings.{Ends, turned}
use Rattle.cover_trails.proofs.Amounts.{paths_few}
use Rattle.cover_trails.proofs.Arranged.{length-arranged}
use Rattle.cover_trails.proofs.Bounds.{one_reaches}

-- ─── how much a sheet holds ──────────────────────────────────────────────────

-- each weight takes a tab and a digit, at least
weights_size : (ws : List ℕ) → 2 * length ws ≤ length (weights_text ws)
unfolding weights_text
weights_size [] = omega arith
weights_size (w ∷ ws) = omega (arith, length-append (digits w) (weights_text ws), digits-some w, weights_size ws)

-- each string takes three bytes beside its letters and weights
lines_size : (ss : List Str) → 3 * length ss + length (letters_in ss) + 2 * length (weights_in ss) ≤ length (lines_text ss)
unfolding lines_text letters_in weights_in
lines_size [] = omega arith
lines_size (s ∷ ss) =
    omega (
      arith,
      length-append s.letters (letters_in ss),
      length-append s.weights (weights_in ss),
      length-append s.letters (weights_text s.weights),
      length-append (string_text s) (feed ∷ lines_text ss),
      weights_size s.weights,
      lines_size ss,
    )

-- letters, strings and weights of an accepted sheet, by its length
pub sheet_size : (bs : List ℕ) → Accepted bs → 3 * sheet_m bs + sheet_n bs + 2 * sheet_weights bs ≤ length bs
unfolding sheet_text
sheet_size bs h =
    omega (
      arith,
      lines_size (sheet_strings bs),
      length-append (75 ∷ (tab ∷ digits (sheet_k bs))) (feed ∷ lines_text (sheet_strings bs)),
      ap length (accepted_text bs h),
    )

-- ─── how many paths ──────────────────────────────────────────────────────────

-- the least number of paths is at most the number of strings
pub least_few : (strings : List Ends) → least strings ≤ length strings
least_few strings =
    let r = one_reaches strings in
    omega (arith, r.2, paths_few (arranged turned r.0 strings), length-arranged turned (0, 0) (length strings) r.0 strings r.1 refl)
