-- The letters in front: where they end, and within the parts of a line. Assumes nothing.
use mathlib.Core.Path.{◌≡◌, refl, sym, ap, ◌∙◌}
use mathlib.Core.Bool.{Bool, true, false}
use mathlib.Core.List.{List, [], ◌∷◌}
use Prim.Native.Nat.{ℕ, zero, suc, ◌<◌, ◌≤◌}
use native.Mathlib.Omega.{arith}
use borrow.Author.Tests.{ne_eqb}
use lib.Dec.{eqb}
use lib.ListN.{length, drop, length-drop}
use Rattle.std.specs.List.{AllWithin, HoldsAt}
use Rattle.lists.specs.Choose.{choose}
use Rattle.lists.specs.Every.{every}
use Rattle.lists.proofs.Refuted.{never}
use Rattle.alphabet.specs.Letter.{is_letter}
use Rattle.text.specs.Parts.{up_to, tab, feed}
use Rattle.sheet_lines.specs.Cursor.{span, is_empty}
use Rattle.text.proofs.Parts.{inside_part}

-- ─── where they end ──────────────────────────────────────────────────────────

-- letters up to n
abbrev Letters : List ℕ → ℕ → Type 0
Letters s n = AllWithin (λ b. is_letter b ≡ true) s 0 n

-- they end at the first byte that is none
pub span_found : (s : List ℕ) (n : ℕ) → (n < length s) × HoldsAt (λ b. is_letter b ≡ false) s n × Letters s n → span s ≡ n
unfolding span
span_found [] n h = absurd (omega (arith, h.0))
span_found (b ∷ s) zero h = rw (h.1 0)
span_found (b ∷ s) (suc n) h =
    rw (h.2 0 0 (omega arith) (omega arith)) (ap suc (span_found s n (omega (arith, h.0), h.1, λ k d l u. h.2 (suc k) d (omega arith) (omega arith))))

-- where none is, at the end
pub span_missing : (s : List ℕ) → Letters s (length s) → span s ≡ length s
unfolding span
span_missing [] h = refl
span_missing (b ∷ s) h = rw (h 0 0 (omega arith) (omega arith)) (ap suc (span_missing s (λ k d l u. h (suc k) d (omega arith) (omega arith))))

-- ─── within a line ───────────────────────────────────────────────────────────

pub tab-other : is_letter tab ≡ false
unfolding is_letter
tab-other = refl

pub feed-other : is_letter feed ≡ false
unfolding is_letter
feed-other = refl

-- a separator is no letter
not_letter : (c b : ℕ) → is_letter c ≡ false → is_letter b ≡ true → eqb b c ≡ false
not_letter c b p q = ne_eqb b c (λ e. never (sym p ∙ (ap is_letter (sym e) ∙ q)))

stop_up : (sep b : ℕ) (r : List ℕ) → is_letter b ≡ false → (span (up_to sep (b ∷ r)) ≡ span (b ∷ r)) × (span (b ∷ r) ≤ length (up_to sep (b ∷ r)))
unfolding span up_to
stop_up sep b r e = at (eqb b sep) where
  at : (t : Bool) → (span (choose t [] (b ∷ up_to sep r)) ≡ span (b ∷ r)) × (span (b ∷ r) ≤ length (choose t [] (b ∷ up_to sep r)))
  at true = rw e (refl, omega arith)
  at false = rw e (refl, omega arith)

-- letters in front are in the first part
pub span_up : (sep : ℕ) → is_letter sep ≡ false → (r : List ℕ) → (span (up_to sep r) ≡ span r) × (span r ≤ length (up_to sep r))
unfolding span up_to
span_up sep p [] = (refl, omega arith)
span_up sep p (b ∷ r) = go (is_letter b) refl (span_up sep p r) where
  go : (t : Bool) → is_letter b ≡ t → (span (up_to sep r) ≡ span r) × (span r ≤ length (up_to sep r))
      → (span (up_to sep (b ∷ r)) ≡ span (b ∷ r)) × (span (b ∷ r) ≤ length (up_to sep (b ∷ r)))
  go true e w = rw (not_letter sep b p e, e) (ap suc w.0, omega (arith, w.1))
  go false e w = stop_up sep b r e

-- all of a field's bytes are letters exactly if the letters in front end at its end
pub letters-all : (l : List ℕ) → every is_letter (up_to tab l) ≡ is_empty (up_to tab (drop (span l) l))
unfolding every up_to span
letters-all [] = refl
letters-all (b ∷ l) = go (is_letter b) refl (eqb b tab) refl (letters-all l) where
  go : (t : Bool) → is_letter b ≡ t → (u : Bool) → eqb b tab ≡ u → every is_letter (up_to tab l) ≡ is_empty (up_to tab (drop (span l) l))
      → every is_letter (up_to tab (b ∷ l)) ≡ is_empty (up_to tab (drop (span (b ∷ l)) (b ∷ l)))
  go false e true g r = rw (g, e, g)
  go false e false g r = rw (g, e, g)
  go true e u g r = rw (not_letter tab b tab-other e, e) r

is_empty_lem : (l : List ℕ) → is_empty l ≡ true → length l ≡ 0
is_empty_lem [] h = refl
is_empty_lem (b ∷ l) h = never h

-- and then it is as long
pub letters-length : (l : List ℕ) → is_empty (up_to tab (drop (span l) l)) ≡ true → length (up_to tab l) ≡ span l
letters-length l h =
    let w = (span_up tab tab-other l).1 in
    let e = (inside_part tab (span l) l w).0 in
    let n = is_empty_lem (up_to tab (drop (span l) l)) h in
    let d = length-drop (span l) (up_to tab l) in
    let q : length (up_to tab (drop (span l) l)) ≡ length (drop (span l) (up_to tab l)) = ap length e in
    omega arith
