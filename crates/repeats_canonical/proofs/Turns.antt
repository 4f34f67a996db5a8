-- The codes of a word and of its reverse complement along a string of judged letters: the forward code by the laws of `Along`, the turned one beside it by what
-- a letter more before, and one less behind, make of a code. Assumes nothing.
use mathlib.Core.Path.{◌≡◌, sym, ap, ap₂, ◌∙◌, subst}
use mathlib.Core.Bool.{true}
use mathlib.Core.List.{List, [], ◌∷◌, ◌++◌, map}
use Prim.Native.Nat.{ℕ, suc, ◌+◌, ◌-◌, ◌*◌, ◌/◌, ◌^◌, ◌<◌, ◌≤◌}
use native.Mathlib.Nat.{add-zero, lt_of_lt_of_le, pow-le-pow_right}
use native.Mathlib.Omega.{arith}
use lib.Dec.{lit<, lit≤}
use lib.ListN.{length, get_or, take, drop, length-map, length-drop}
use lib.Seq.{take-suc, drop-cons, get_or-drop}
use Rattle.lists.specs.Every.{All}
use Rattle.lists.specs.Limits.{most_k}
use Rattle.lists.proofs.Every.{all_take, all_drop, all_at}
use Rattle.lists.proofs.Mapped.{map_at_below}
use Rattle.alphabet.specs.Letter.{letter, is_letter, two_bits, paired}
use Rattle.words.specs.Turned.{turned_code, rolled, rolled_turned}
use Rattle.words.specs.Word.{Letters, code, turn, spell, word_at}
use Rattle.words.proofs.Codes.{code-cons, code-snoc, code_lt}
use Rattle.alphabet.proofs.Letters.{letter_bits}
use Rattle.words.proofs.Spelled.{spell-letters, spell_bits}
use Rattle.words.proofs.Rolling.{length_at, letters_at, word_part}
use Rattle.words.proofs.Turning.{turn-cons, turn-snoc, length-turn, letters-turn, turned-code}
use Rattle.words.proofs.Along.{Rolls, rolls_begin, word_here, word_on}

-- c ends in the k - 1 letters before the next k-mer; t begins with their reverse complement
pub record Turns (k : ℕ) (letters : List ℕ) (a c t : ℕ) : Type 0 where
  pub rolls : Rolls k letters a c
  pub high : t / 4 ≡ code (turn (take (k - 1) (drop a (spell letters))))
  pub small : t < 4 ^ k

module _ (k : ℕ) (letters : List ℕ) (k_low : 1 ≤ k) (k_high : k ≤ most_k) (good : All (λ b. is_letter b ≡ true) letters) where
  spelt : Letters (spell letters)
  spelt = spell-letters letters good

  size : length (spell letters) ≡ length letters
  size = length-map letters letter

  -- the j letters from position a on
  abbrev row : ℕ → ℕ → List ℕ
  row j a = take j (drop a (spell letters))

  turned_lt : (j a : ℕ) → a + j ≤ length letters → code (turn (row j a)) < 4 ^ j
  turned_lt j a l =
      let n : length (turn (row j a)) ≡ j = length-turn (row j a) ∙ length_at (spell letters) j a (omega (arith, size)) in
      subst (λ (m : ℕ). code (turn (row j a)) < 4 ^ m) n (code_lt (turn (row j a)) (letters-turn (row j a) (letters_at (spell letters) spelt j a)))

  -- where the code of the first k - 1 letters is c, that of their reverse complement is the turned code of c
  module _ (at c : ℕ) (l : at + (k - 1) ≤ length letters) (e : c ≡ code (map two_bits (take (at + (k - 1) - at) (drop at letters)))) where
    first_turned : turned_code (k - 1) c ≡ code (turn (row (k - 1) at))
    first_turned =
        let q : at + (k - 1) - at ≡ k - 1 = omega arith in
        let m : c ≡ code (row (k - 1) at) =
        e
        ∙ (ap (λ (n : ℕ). code (map two_bits (take n (drop at letters)))) q
        ∙ (ap code (spell_bits (take (k - 1) (drop at letters)) (all_take _ (k - 1) (drop at letters) (all_drop _ at letters good)))
        ∙ ap code (word_part (k - 1) letters at))) in
        ap₂ turned_code (sym (length_at (spell letters) (k - 1) at (omega (arith, size)))) m
        ∙ turned-code (row (k - 1) at) (letters_at (spell letters) spelt (k - 1) at)

    first_small : turned_code (k - 1) c * 4 < 4 ^ k
    first_small =
        let q : suc (k - 1) ≡ k = omega arith in
        let m : 4 ^ suc (k - 1) ≡ 4 ^ (k - 1) * 4 = omega arith in
        let s : code (turn (row (k - 1) at)) < 4 ^ (k - 1) = turned_lt (k - 1) at l in
        let g : turned_code (k - 1) c * 4 < 4 ^ suc (k - 1) = omega (arith, first_turned) in
        subst (λ (n : ℕ). turned_code (k - 1) c * 4 < 4 ^ n) q g

    -- it fits 64 bits
    pub first_fits : turned_code (k - 1) c * 4 < 18446744073709551616
    first_fits = lt_of_lt_of_le (lt_of_lt_of_le first_small (pow-le-pow_right (lit< tt) k_high)) (lit≤ {m = 4 ^ most_k} {n = 18446744073709551616} tt)

    -- before the first k-mer
    pub turns_begin : (t : ℕ) → t ≡ turned_code (k - 1) c * 4 → Turns k letters (at + 0) c t
    turns_begin t h =
        let z : at + 0 ≡ at = add-zero at in
        let d : t / 4 ≡ turned_code (k - 1) c = omega arith in
        record {
          rolls = rolls_begin k letters k_low k_high at c l e;
          high = d ∙ (first_turned ∙ ap (λ (a : ℕ). code (turn (row (k - 1) a))) (sym z));
          small = subst (λ (n : ℕ). n < 4 ^ k) (sym h) first_small;
        }

  -- ─── the k-mer at a position ───────────────────────────────────────────────

  turned-code_at : (a t x : ℕ) → a + k ≤ length letters → t / 4 ≡ code (turn (row (k - 1) a)) → x ≡ two_bits (get_or letters (a + (k - 1)) 0)
      → rolled_turned k t x ≡ code (turn (word_at k letters a))
  turned-code_at a t x l h e =
      let q : suc (k - 1) ≡ k = omega arith in
      let i : a + (k - 1) < length letters = omega arith in
      let y : x ≡ get_or (spell letters) (a + (k - 1)) 0 =
      e ∙ (letter_bits (get_or letters (a + (k - 1)) 0) (all_at (λ b. is_letter b ≡ true) letters good (a + (k - 1)) 0 i)
      ∙ sym (map_at_below letter 0 0 letters (a + (k - 1)) i)) in
      let w : List ℕ = row (k - 1) a in
      let n : length (turn w) ≡ k - 1 = length-turn w ∙ length_at (spell letters) (k - 1) a (omega (arith, size)) in
      let m : row k a ≡ w ++ (x ∷ []) =
      ap (λ (j : ℕ). row j a) (sym q)
      ∙ (take-suc (drop a (spell letters)) (k - 1) 0 (rw (length-drop a (spell letters)) (omega (arith, size)))
      ∙ ap (λ (z : ℕ). w ++ (z ∷ [])) (get_or-drop a (spell letters) (k - 1) 0 ∙ sym y)) in
      sym
      (ap (λ (v : List ℕ). code (turn v)) (word_part k letters a ∙ m)
      ∙ (ap code (turn-snoc w x) ∙ (code-cons (paired x) (turn w) ∙ ap₂ (λ (j z : ℕ). (3 - x) * 4 ^ j + z) n (sym h))))

  -- one letter more gives both codes of the next k-mer
  module _ (at i c t x : ℕ) (l : at + i + k ≤ length letters) (s : Turns k letters (at + i) c t) (e : x ≡ two_bits (get_or letters (at + (k - 1) + i) 0)) where
    pub code_here : rolled k c x ≡ code (word_at k letters (at + i))
    code_here = word_here k letters k_low k_high good at i c x l s.rolls e

    pub turned_here : rolled_turned k t x ≡ code (turn (word_at k letters (at + i)))
    turned_here =
        let q : at + (k - 1) + i ≡ at + i + (k - 1) = omega arith in
        turned-code_at (at + i) t x l s.high (e ∙ ap (λ (j : ℕ). two_bits (get_or letters j 0)) q)

  -- and with them the pass goes on
  pub turns_on : (at i c t : ℕ) → at + i + k ≤ length letters → c ≡ code (word_at k letters (at + i)) → t ≡ code (turn (word_at k letters (at + i)))
      → Turns k letters (at + (i + 1)) c t
  turns_on at i c t l e h =
      let q : k ≡ suc (k - 1) = omega arith in
      let p : suc (at + i) ≡ at + (i + 1) = omega arith in
      let y : ℕ = get_or (spell letters) (at + i) 0 in
      let w : List ℕ = row (k - 1) (suc (at + i)) in
      let m : row k (at + i) ≡ y ∷ w =
      ap (λ (j : ℕ). row j (at + i)) q ∙ ap (take (suc (k - 1))) (drop-cons (spell letters) (at + i) 0 (omega (arith, size))) in
      let g : t ≡ code (turn w) * 4 + paired y =
      h ∙ (ap (λ (v : List ℕ). code (turn v)) (word_part k letters (at + i) ∙ m) ∙ (ap code (turn-cons y w) ∙ code-snoc (turn w) (paired y))) in
      let d : t / 4 ≡ code (turn w) = omega arith in
      record {
        rolls = word_on k letters k_low k_high good at i c l e;
        high = d ∙ ap (λ (a : ℕ). code (turn (row (k - 1) a))) p;
        small = subst (λ (n : ℕ). n < 4 ^ k) (sym (h ∙ ap (λ (v : List ℕ). code (turn v)) (word_part k letters (at + i)))) (turned_lt k (at + i) l);
      }
