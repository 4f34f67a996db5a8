-- Laws of letters: the tests and the bits that the machine takes agree with the one definition, `letter`. Assumes nothing.
use mathlib.Core.Path.{◌≡◌, refl, sym, ap, ◌∙◌, subst}
use mathlib.Core.Bool.{Bool, true, false, ◌||◌}
use Prim.Native.Nat.{ℕ, zero, suc, ◌/◌, ◌^◌, ◌<◌}
use native.Mathlib.Omega.{arith}
use lib.Bits.{bit_and, and_le_r, xor_lt}
use lib.Dec.{eqb, ltb}
use borrow.Author.Tests.{eqb-true, ltb-true, lt-ltb}
use Rattle.lists.specs.Choose.{choose}
use Rattle.lists.proofs.Refuted.{never}
use Rattle.alphabet.specs.Letter.{letter, is_letter, capital, two_bits}

-- of any byte, letter or not
pub bits_lt : (b : ℕ) → two_bits b < 4
unfolding two_bits
bits_lt b = xor_lt 2 (bit_and (b / 2 ^ 1) 3) (bit_and (b / 2 ^ 2) 1) (omega (arith, and_le_r (b / 2 ^ 1) 3)) (omega (arith, and_le_r (b / 2 ^ 2) 1))

-- the test of the four letters one by one
pub four_tests : (b : ℕ) → is_letter b ≡ (((eqb b 65 || eqb b 67) || eqb b 71) || eqb b 84)
unfolding is_letter letter
four_tests b = go (eqb b 65) (eqb b 67) (eqb b 71) (eqb b 84)
  where
    go : (s t u v : Bool) → ltb (choose s 0 (choose t 1 (choose u 2 (choose v 3 4)))) 4 ≡ (((s || t) || u) || v)
    go true t u v = refl
    go false true u v = refl
    go false false true v = refl
    go false false false true = refl
    go false false false false = refl

-- the code of a letter is below 4
pub letter_lt : (b : ℕ) → is_letter b ≡ true → letter b < 4
unfolding is_letter
letter_lt b e = ltb-true (letter b) 4 e

-- a letter's code is the bits that the machine takes
pub letter_bits : (b : ℕ) → is_letter b ≡ true → two_bits b ≡ letter b
unfolding is_letter letter two_bits
letter_bits b = go (eqb b 65) refl (eqb b 67) refl (eqb b 71) refl (eqb b 84) refl
  where
    go : (s : Bool) → eqb b 65 ≡ s → (t : Bool) → eqb b 67 ≡ t → (u : Bool) → eqb b 71 ≡ u → (v : Bool) → eqb b 84 ≡ v
        → ltb (choose s 0 (choose t 1 (choose u 2 (choose v 3 4)))) 4 ≡ true → two_bits b ≡ choose s 0 (choose t 1 (choose u 2 (choose v 3 4)))
    go true e t _ u _ v _ h = ap two_bits (eqb-true b 65 e)
    go false _ true e u _ v _ h = ap two_bits (eqb-true b 67 e)
    go false _ false _ true e v _ h = ap two_bits (eqb-true b 71 e)
    go false _ false _ false _ true e h = ap two_bits (eqb-true b 84 e)
    go false _ false _ false _ false _ h = never h

-- the capital of a letter's code is the letter
pub capital-letter : (b : ℕ) → is_letter b ≡ true → capital (letter b) ≡ b
unfolding is_letter letter capital
capital-letter b = go (eqb b 65) refl (eqb b 67) refl (eqb b 71) refl (eqb b 84) refl
  where
    go : (s : Bool) → eqb b 65 ≡ s → (t : Bool) → eqb b 67 ≡ t → (u : Bool) → eqb b 71 ≡ u → (v : Bool) → eqb b 84 ≡ v
        → ltb (choose s 0 (choose t 1 (choose u 2 (choose v 3 4)))) 4 ≡ true → capital (choose s 0 (choose t 1 (choose u 2 (choose v 3 4)))) ≡ b
    go true e t _ u _ v _ h = sym (eqb-true b 65 e)
    go false _ true e u _ v _ h = sym (eqb-true b 67 e)
    go false _ false _ true e v _ h = sym (eqb-true b 71 e)
    go false _ false _ false _ true e h = sym (eqb-true b 84 e)
    go false _ false _ false _ false _ h = never h

-- so two bytes that are letters with one code are one byte
pub letter_injective : (a b : ℕ) → is_letter a ≡ true → is_letter b ≡ true → letter a ≡ letter b → a ≡ b
letter_injective a b h k e = sym (capital-letter a h) ∙ (ap capital e ∙ capital-letter b k)

-- the capital of a code is a letter with that code
pub letter-capital : (x : ℕ) → x < 4 → letter (capital x) ≡ x
unfolding letter capital
letter-capital zero h = refl
letter-capital (suc zero) h = refl
letter-capital (suc (suc zero)) h = refl
letter-capital (suc (suc (suc zero))) h = refl
letter-capital (suc (suc (suc (suc x)))) h = absurd (omega arith)

-- the capital of a code is a letter
pub capital_is_letter : (x : ℕ) → x < 4 → is_letter (capital x) ≡ true
unfolding is_letter
capital_is_letter x h = lt-ltb (letter (capital x)) 4 (subst (λ (n : ℕ). n < 4) (sym (letter-capital x h)) h)
