-- Canonical codes are equal exactly if the words are equal, turned or not. A code tells words of one length apart, and turning twice gives a word back. Assumes
-- nothing.
use mathlib.Core.Path.{◌≡◌, sym, ap, ◌∙◌}
use mathlib.Core.Logic.{◌⊎◌, inl, inr, ⊎_elim}
use mathlib.Core.List.{List}
use Prim.Native.Nat.{ℕ, ◌<◌, ◌≤◌, min}
use native.Mathlib.Nat.{min_comm, min-eq_left, min-eq_right}
use native.Mathlib.Omega.{arith}
use lib.ListN.{length}
use Rattle.lists.proofs.Compare.{lt_or_le}
use Rattle.words.specs.Word.{Letters, code, turn}
use Rattle.words.proofs.Codes.{code_injective}
use Rattle.words.proofs.Turning.{length-turn, letters-turn, turn-turn}
use Rattle.repeats_canonical.specs.Codes.{canonical}

-- the smaller of two numbers is one of them
least_cases : (a b : ℕ) → (min a b ≡ a) ⊎ (min a b ≡ b)
least_cases a b =
    ⊎_elim (λ (l : a < b). inl (min-eq_left (omega arith))) (λ (l : b ≤ a). inr (min-eq_right l)) (lt_or_le a b)

-- two words are equal, turned or not
abbrev pub Alike : List ℕ → List ℕ → Type 0
Alike u v = (u ≡ v) ⊎ (u ≡ turn v)

-- the other way round
pub alike-swap : (u v : List ℕ) → Letters v → Alike u v → Alike v u
alike-swap u v h a = ⊎_elim (λ (e : u ≡ v). inl (sym e)) (λ (e : u ≡ turn v). inr (sym (ap turn e ∙ turn-turn v h))) a

-- words that are equal, turned or not, have one canonical code
pub alike-canonical : (u v : List ℕ) → Letters v → Alike u v → canonical u ≡ canonical v
alike-canonical u v h a =
    ⊎_elim (λ (e : u ≡ v). ap canonical e)
    (λ (e : u ≡ turn v). ap canonical e ∙ (ap (λ (w : List ℕ). min (code (turn v)) (code w)) (turn-turn v h) ∙ min_comm (code (turn v)) (code v)))
    a

-- and words of one canonical code are equal, turned or not
pub canonical-alike : (u v : List ℕ) → length u ≡ length v → Letters u → Letters v → canonical u ≡ canonical v → Alike u v
canonical-alike u v l g h e =
    ⊎_elim
    (λ (p : canonical u ≡ code u).
    ⊎_elim (λ (q : canonical v ≡ code v). inl (code_injective u v l g h (sym p ∙ (e ∙ q))))
    (λ (q : canonical v ≡ code (turn v)). inr (code_injective u (turn v) (l ∙ sym (length-turn v)) g (letters-turn v h) (sym p ∙ (e ∙ q))))
    (least_cases (code v) (code (turn v))))
    (λ (p : canonical u ≡ code (turn u)).
    ⊎_elim
    (λ (q : canonical v ≡ code v). alike-swap v u g (inr (sym (code_injective (turn u) v (length-turn u ∙ l) (letters-turn u g) h (sym p ∙ (e ∙ q))))))
    (λ (q : canonical v ≡ code (turn v)).
    inl
    (sym (turn-turn u g)
    ∙ (ap turn (code_injective (turn u) (turn v) (length-turn u ∙ (l ∙ sym (length-turn v))) (letters-turn u g) (letters-turn v h) (sym p ∙ (e ∙ q)))
    ∙ turn-turn v h)))
    (least_cases (code v) (code (turn v))))
    (least_cases (code u) (code (turn u)))
