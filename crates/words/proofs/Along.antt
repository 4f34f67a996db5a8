-- The code that rolls along bytes, letters or not; and along judged letters, where it is the code of each word. Assumes nothing.
use mathlib.Core.Path.{◌≡◌, sym, ap, ap₂, ◌∙◌, subst}
use mathlib.Core.Bool.{true}
use mathlib.Core.List.{List, map}
use Prim.Native.Nat.{ℕ, suc, ◌+◌, ◌-◌, ◌%◌, ◌^◌, ◌<◌, ◌≤◌}
use native.Mathlib.Omega.{arith}
use native.Mathlib.Nat.{add-zero, mod-eq_of_lt}
use lib.ListN.{length, get_or, take, drop, length-map}
use Rattle.lists.specs.Every.{All}
use Rattle.lists.specs.Limits.{most_k}
use Rattle.lists.proofs.Cuts.{map_cut}
use Rattle.lists.proofs.Every.{all_take, all_drop}
use Rattle.lists.proofs.Mapped.{map_at_below}
use Rattle.alphabet.specs.Letter.{is_letter, two_bits}
use Rattle.words.specs.Word.{Letters, code, word_at}
use Rattle.words.specs.Turned.{rolled}
use Rattle.words.proofs.Codes.{code_lt, code_room}
use Rattle.words.proofs.Spelled.{spell_bits}
use Rattle.words.proofs.Rolling.{code_at, length_at, letters_at, bits_letters, code_rolls, code_tail}

-- c ends in the k - 1 bytes before the next k-mer
pub record Rolls (k : ℕ) (letters : List ℕ) (a c : ℕ) : Type 0 where
  pub low : c % 4 ^ (k - 1) ≡ code_at (map two_bits letters) (k - 1) a
  pub small : c < 4 ^ most_k

module _ (k : ℕ) (letters : List ℕ) (k_low : 1 ≤ k) (k_high : k ≤ most_k) where
  abbrev bits : List ℕ
  bits = map two_bits letters

  size : length bits ≡ length letters
  size = length-map letters two_bits

  -- a code of j letters, as the bytes that it is read off
  cut : (j a : ℕ) → code (map two_bits (take j (drop a letters))) ≡ code_at bits j a
  cut j a = ap code (map_cut two_bits j a letters)

  -- the code of the k - 1 bytes from `at` on is where a pass begins
  pub rolls_begin : (at c : ℕ) → at + (k - 1) ≤ length letters → c ≡ code (map two_bits (take (at + (k - 1) - at) (drop at letters)))
      → Rolls k letters (at + 0) c
  rolls_begin at c l e =
      let q : at + (k - 1) - at ≡ k - 1 = omega arith in
      let m : c ≡ code_at bits (k - 1) at = e ∙ (ap (λ (n : ℕ). code (map two_bits (take n (drop at letters)))) q ∙ cut (k - 1) at) in
      let n : length (take (k - 1) (drop at bits)) ≡ k - 1 = length_at bits (k - 1) at (omega (arith, size)) in
      let g : Letters (take (k - 1) (drop at bits)) = letters_at bits (bits_letters letters) (k - 1) at in
      let s : code_at bits (k - 1) at < 4 ^ (k - 1) = subst (λ (n : ℕ). code_at bits (k - 1) at < 4 ^ n) n (code_lt (take (k - 1) (drop at bits)) g) in
      record {
        low = ap (λ (n : ℕ). n % 4 ^ (k - 1)) m ∙ (mod-eq_of_lt s ∙ ap (λ (n : ℕ). code_at bits (k - 1) n) (sym (add-zero at)));
        small = subst (λ (n : ℕ). n < 4 ^ most_k) (sym m) (code_room (take (k - 1) (drop at bits)) g (omega (arith, n)));
      }

  -- the code of the next k bytes, which are the i-th from position `at` on
  pub rolls_here : (at i c x : ℕ) → at + i + k ≤ length letters → Rolls k letters (at + i) c → x ≡ two_bits (get_or letters (at + (k - 1) + i) 0)
      → rolled k c x ≡ code (map two_bits (take k (drop (at + i) letters)))
  rolls_here at i c x l r e =
      let q : suc (k - 1) ≡ k = omega arith in
      let p : at + (k - 1) + i ≡ at + i + (k - 1) = omega arith in
      let y : x ≡ get_or bits (at + i + (k - 1)) 0 =
      e ∙ (ap (λ (j : ℕ). two_bits (get_or letters j 0)) p ∙ sym (map_at_below two_bits 0 0 letters (at + i + (k - 1)) (omega arith))) in
      ap₂ (λ (m n : ℕ). rolled m c n) (sym q) y
      ∙ (code_rolls bits (bits_letters letters) (k - 1) (at + i) c (omega (arith, size)) r.low
      ∙ (ap (λ (n : ℕ). code_at bits n (at + i)) q ∙ sym (cut k (at + i))))

  -- and with it the pass goes on
  pub rolls_on : (at i c : ℕ) → at + i + k ≤ length letters → c ≡ code (map two_bits (take k (drop (at + i) letters))) → Rolls k letters (at + (i + 1)) c
  rolls_on at i c l e =
      let q : suc (k - 1) ≡ k = omega arith in
      let p : suc (at + i) ≡ at + (i + 1) = omega arith in
      let m : c ≡ code_at bits k (at + i) = e ∙ cut k (at + i) in
      let n : length (take k (drop (at + i) bits)) ≡ k = length_at bits k (at + i) (omega (arith, size)) in
      record {
        low =
            ap (λ (n : ℕ). n % 4 ^ (k - 1)) (m ∙ ap (λ (n : ℕ). code_at bits n (at + i)) (sym q))
            ∙ (code_tail bits (bits_letters letters) (k - 1) (at + i) (omega (arith, size)) ∙ ap (code_at bits (k - 1)) p);
        small = subst (λ (n : ℕ). n < 4 ^ most_k) (sym m)
            (code_room (take k (drop (at + i) bits)) (letters_at bits (bits_letters letters) k (at + i)) (omega (arith, n)));
      }

-- ─── along judged letters ────────────────────────────────────────────────────

module _ (k : ℕ) (letters : List ℕ) (k_low : 1 ≤ k) (k_high : k ≤ most_k) (good : All (λ b. is_letter b ≡ true) letters) where
  -- the bytes from a on spell a word
  bits_word : (a : ℕ) → code (map two_bits (take k (drop a letters))) ≡ code (word_at k letters a)
  bits_word a = ap code (spell_bits (take k (drop a letters)) (all_take _ k (drop a letters) (all_drop _ a letters good)))

  -- the code of the next word, which is the i-th from position `at` on
  pub word_here : (at i c x : ℕ) → at + i + k ≤ length letters → Rolls k letters (at + i) c → x ≡ two_bits (get_or letters (at + (k - 1) + i) 0)
      → rolled k c x ≡ code (word_at k letters (at + i))
  word_here at i c x l r e = rolls_here k letters k_low k_high at i c x l r e ∙ bits_word (at + i)

  -- and with it the pass goes on
  pub word_on : (at i c : ℕ) → at + i + k ≤ length letters → c ≡ code (word_at k letters (at + i)) → Rolls k letters (at + (i + 1)) c
  word_on at i c l e = rolls_on k letters k_low k_high at i c l (e ∙ sym (bits_word (at + i)))
