-- The code and the minimizer that a loop carries along a string of judged letters: the code by the laws of `Along`, the minimizer as the code's least piece.
-- Assumes nothing.
use mathlib.Core.Path.{◌≡◌, sym, ap, ◌∙◌}
use mathlib.Core.Bool.{true}
use mathlib.Core.List.{List, map}
use Prim.Native.Nat.{ℕ, ◌+◌, ◌-◌, ◌^◌, ◌≤◌, ◌<◌}
use native.Mathlib.Nat.{add-zero, mod-lt}
use native.Mathlib.Omega.{arith}
use lib.ListN.{length, get_or, take, drop}
use Rattle.lists.specs.Every.{All}
use Rattle.lists.specs.Limits.{most_k}
use Rattle.lists.proofs.Every.{all_take, all_drop}
use Rattle.alphabet.specs.Letter.{is_letter, two_bits}
use Rattle.words.specs.Turned.{rolled}
use Rattle.words.specs.Word.{code, word_at}
use Rattle.alphabet.proofs.Letters.{bits_lt}
use Rattle.words.proofs.Spelled.{spell_bits}
use Rattle.words.proofs.Rolling.{length_word, letters_word}
use Rattle.words.proofs.Along.{Rolls, word_here, word_on}
use Rattle.index_minimizers.specs.Least.{least}
use Rattle.index_minimizers.specs.Minimizer.{minimizer_at}
use Rattle.index_minimizers.proofs.Sizes.{words_few}
use Rattle.index_minimizers.proofs.Sliding.{four_pos, least_low}
use Rattle.index_minimizers.proofs.Smallest.{least-minimizer, minimizer_lt}

-- c ends in the k - 1 letters before the next k-mer, which stands at a, and v is the least piece of c
pub record Carried (k p : ℕ) (letters : List ℕ) (a c v : ℕ) : Type 0 where
  pub rolls : Rolls k letters a c
  pub is_least : v ≡ least p (k - p) c

-- a minimizer of at most 8 letters
pub carried_small : {k p a c v : ℕ} {letters : List ℕ} → Carried k p letters a c v → p ≤ 8 → v < 65536
carried_small {k} {p} {a} {c} s l =
    omega (arith, s.is_least, least_low p (k - p) c, mod-lt c (four_pos p), words_few p l)

-- what `roll` and `slide` ask of the code, the minimizer and the next letter's byte b
module _ {k p : ℕ} {letters : List ℕ} (a c v x b : ℕ) (s : Carried k p letters a c v) (k_high : k ≤ most_k) (e : x ≡ two_bits b) where
  pub roll_fits : (k ≤ most_k) × (c < 4 ^ most_k) × (x < 4)
  roll_fits = (k_high, s.rolls.small, omega (arith, bits_lt b))

  pub slide_fits : (d : ℕ) → p ≤ k → d ≡ rolled k c x → (k - p + p ≤ most_k) × (v ≡ least p (k - p) c) × (x < 4) × (d ≡ rolled (k - p + p) c x)
  slide_fits d l f =
      let q : k ≡ k - p + p = omega arith in
      (omega arith, s.is_least, omega (arith, bits_lt b), f ∙ ap (λ (m : ℕ). rolled m c x) q)

module _ (k p : ℕ) (letters : List ℕ) (fits : p ≤ k) (good : All (λ b. is_letter b ≡ true) letters) where
  -- a minimizer is the code of p letters
  pub minimizer_below : (a : ℕ) → a + k ≤ length letters → minimizer_at k p letters a < 4 ^ p
  minimizer_below a l = minimizer_lt p (word_at k letters a) (letters_word k letters a good) (omega (arith, length_word k letters a l))

  module _ (k_low : 1 ≤ k) (k_high : k ≤ most_k) where
    -- the least piece of a k-mer's code is its minimizer, and the pass goes on
    carried_from : (a i c v : ℕ) → a + i + k ≤ length letters → c ≡ code (word_at k letters (a + i)) → v ≡ least p (k - p) c
        → (v ≡ minimizer_at k p letters (a + i)) × Carried k p letters (a + (i + 1)) c v
    carried_from a i c v l e f =
        let w = word_at k letters (a + i) in
        let n = length_word k letters (a + i) l in (
          f ∙ (ap (least p (k - p)) e
              ∙ (ap (λ (m : ℕ). least p (m - p) (code w)) (sym n) ∙ least-minimizer p w (letters_word k letters (a + i) good) (omega (arith, n)))),
          record { rolls = word_on k letters k_low k_high good a i c l e; is_least = f },
        )

    -- the first k-mer of a string
    pub carried_begin : (a c v : ℕ) → a + k ≤ length letters → c ≡ code (map two_bits (take (a + k - a) (drop a letters))) → v ≡ least p (k - p) c
        → (v ≡ minimizer_at k p letters (a + 0)) × Carried k p letters (a + 1) c v
    carried_begin a c v l e f =
        let q : a + k - a ≡ k = omega arith in
        carried_from a 0 c v (omega arith)
        (e
        ∙ (ap (λ (m : ℕ). code (map two_bits (take m (drop a letters)))) q
        ∙ (ap code (spell_bits (take k (drop a letters)) (all_take _ k (drop a letters) (all_drop _ a letters good)))
        ∙ ap (λ (m : ℕ). code (word_at k letters m)) (sym (add-zero a)))))
        f

    -- and the one after i others
    pub carried_on : (a i c v d x w : ℕ) → a + i + k ≤ length letters → Carried k p letters (a + i) c v → x ≡ two_bits (get_or letters (a + i + (k - 1)) 0)
        → d ≡ rolled k c x → w ≡ least p (k - p) d → (w ≡ minimizer_at k p letters (a + i)) × Carried k p letters (a + (i + 1)) d w
    carried_on a i c v d x w l s e f g =
        let q : a + i + (k - 1) ≡ a + (k - 1) + i = omega arith in
        carried_from a i d w l (f ∙ word_here k letters k_low k_high good a i c x l s.rolls (e ∙ ap (λ (m : ℕ). two_bits (get_or letters m 0)) q)) g
