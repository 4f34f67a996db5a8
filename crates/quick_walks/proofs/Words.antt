-- Bytes are a word exactly if they have its code and are all letters. Assumes nothing.
use mathlib.Core.Path.{◌≡◌, refl, sym, ap, ap₂, ◌∙◌, subst}
use mathlib.Core.Bool.{Bool, true, false, ◌&&◌, true≢false}
use mathlib.Core.List.{List, [], ◌∷◌, map}
use Prim.Native.Nat.{ℕ, ◌+◌, ◌^◌, ◌<◌, ◌≤◌, min}
use native.Mathlib.Omega.{arith}
use borrow.Author.Tests.{lt-ltb}
use lib.Dec.{eqb}
use lib.ListN.{length, take, drop, length-take, length-drop, length-map}
use Rattle.lists.specs.Every.{every, same}
use Rattle.lists.proofs.Every.{and_both, and_true, and_no, every-all, not_same}
use Rattle.alphabet.specs.Letter.{letter, is_letter, two_bits}
use Rattle.words.specs.Word.{code, spell, Letters}
use Rattle.words.specs.Turned.{spelled}
use Rattle.words.proofs.Codes.{spelled-letters, length-spelled, code-spelled, code_test}
use Rattle.words.proofs.Spelled.{spell-letters, spell_bits}
use Rattle.quick_walks.specs.Walk.{is_word}

-- only letters have codes below 4
letters-every : (bytes : List ℕ) → Letters (spell bytes) → every is_letter bytes ≡ true
unfolding every is_letter
letters-every [] h = refl
letters-every (b ∷ bytes) h = and_both (lt-ltb (letter b) 4 h.0) (letters-every bytes h.1)

-- what the machine tests: the code that it reads off any bytes, and then whether they are letters
bytes_test : (bytes w : List ℕ) → Letters w → length bytes ≡ length w
    → same (spell bytes) w ≡ (eqb (code (map two_bits bytes)) (code w) && every is_letter bytes)
bytes_test bytes w g l = go (every is_letter bytes) refl
  where
    go : (t : Bool) → every is_letter bytes ≡ t → same (spell bytes) w ≡ (eqb (code (map two_bits bytes)) (code w) && t)
    go true e =
        let good = every-all is_letter bytes e in
        sym
        (and_true (eqb (code (map two_bits bytes)) (code w))
        ∙ (ap (λ (u : List ℕ). eqb (code u) (code w)) (spell_bits bytes good)
        ∙ code_test (spell bytes) w (code w) (length-map bytes letter ∙ l) (spell-letters bytes good) g refl))
    go false e =
        not_same (spell bytes) w (λ q. true≢false (sym (letters-every bytes (subst Letters (sym q) g)) ∙ e))
        ∙ sym (and_no (eqb (code (map two_bits bytes)) (code w)) refl)

module _ (k : ℕ) (letters : List ℕ) (a w c : ℕ) (small : w < 4 ^ k) (room : a + k ≤ length letters)
    (is : c ≡ code (map two_bits (take k (drop a letters)))) where
  -- the k bytes from position a on are the word of code w
  pub word_test : is_word k letters (spelled k w) a ≡ (eqb c w && every is_letter (take k (drop a letters)))
  unfolding is_word
  word_test =
      let l : length (take k (drop a letters)) ≡ length (spelled k w) =
      length-take k (drop a letters) ∙ (ap (min k) (length-drop a letters) ∙ (omega (arith, length-spelled k w))) in
      bytes_test (take k (drop a letters)) (spelled k w) (spelled-letters k w) l
      ∙ ap₂ (λ (x y : ℕ). eqb x y && every is_letter (take k (drop a letters))) (sym is) (code-spelled k w small)
