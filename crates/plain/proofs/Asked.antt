-- Laws of PLAIN: the pass by codes is the search for words, and it finds exactly the words that stand in the collection. Assumes nothing.
use mathlib.Core.Path.{◌≡◌, sym, ap, ap₂, ◌∙◌}
use mathlib.Core.Bool.{true}
use mathlib.Core.List.{List, map}
use Prim.Native.Nat.{ℕ}
use native.Mathlib.Omega.{arith}
use lib.Dec.{eqb}
use lib.ListN.{length, length-map}
use Rattle.std.specs.Prelude.{None}
use Rattle.lists.specs.Every.{All, every, same}
use Rattle.lists.specs.First.{first_that}
use Rattle.lists.proofs.Every.{every-all, all_map}
use Rattle.alphabet.specs.Letter.{letter, is_letter, two_bits}
use Rattle.words.specs.Turned.{turned_code}
use Rattle.words.specs.Word.{Letters, code, spell, word_at, turn}
use Rattle.words.proofs.Spelled.{spell-letters, spell_bits}
use Rattle.words.proofs.Turning.{length-turn, letters-turn, turned-code}
use Rattle.collection.specs.Collection.{Spelling}
use Rattle.collection.specs.declared.Side.TheVariants.{Asked, Turned}
use Rattle.collection.specs.Kmers.{kmers}
use Rattle.collection.specs.Ready.{Ready}
use Rattle.plain.specs.Plain.{lowest, found_or, plain_found}
use Rattle.plain.specs.Scan.{scan_from}
use Rattle.collection.proofs.Kmers.{kmers_fit}
use Rattle.collection.proofs.Ready.{word_length, word_letters}
use Rattle.plain.proofs.Scans.{answered, scan_lowest}
use Rattle.words.proofs.Codes.{code_test}
use Rattle.lists.proofs.First.{first_agrees}

module _ {t : Spelling} (r : Ready t) where
  -- the search by a code is the search by the word
  lowest-code : (w : List ℕ) (c : ℕ) → length w ≡ t.k → Letters w → c ≡ code w
      → first_that (λ a. eqb (code (word_at t.k t.letters a)) c) (kmers t.k t.ends) ≡ lowest t w
  unfolding lowest
  lowest-code w c n g e =
      first_agrees (λ a. eqb (code (word_at t.k t.letters a)) c) (λ a. same (word_at t.k t.letters a) w) 0 (kmers t.k t.ends)
      (all_map (λ a h. code_test (word_at t.k t.letters a) w c (word_length r a (omega (arith, h, r.ends_last)) ∙ sym n) (word_letters r a) g e)
      (kmers t.k t.ends) (kmers_fit t.k 0 0 t.ends r.ends_long.long))

  module _ (word : List ℕ) (n : length word ≡ t.k) (g : every is_letter word ≡ true) where
    -- the pass with the codes of the asked word and of its reverse complement gives PLAIN's answer
    pub pass_answers : (asked turned : ℕ) → asked ≡ code (map two_bits word) → turned ≡ turned_code t.k asked
        → answered (λ a. eqb (code (word_at t.k t.letters a)) asked) (λ a. eqb (code (word_at t.k t.letters a)) turned)
        (scan_from (λ a. eqb (code (word_at t.k t.letters a)) asked) (λ a. eqb (code (word_at t.k t.letters a)) turned) 0 0 (kmers t.k t.ends))
        ≡ plain_found t (spell word)
    unfolding plain_found
    pass_answers asked turned Asked-is turned_is =
        let h : All (λ b. is_letter b ≡ true) word = every-all is_letter word g in
        let w : List ℕ = spell word in
        let l : length w ≡ t.k = length-map word letter ∙ n in
        let s : Letters w = spell-letters word h in
        let c : asked ≡ code w = Asked-is ∙ ap code (spell_bits word h) in
        let d : turned ≡ code (turn w) = turned_is ∙ (ap₂ turned_code (sym l) c ∙ turned-code w s) in
        scan_lowest (λ a. eqb (code (word_at t.k t.letters a)) asked) (λ a. eqb (code (word_at t.k t.letters a)) turned) (kmers t.k t.ends)
        ∙ ap₂ (λ (p q : ℕ). found_or Asked p (found_or Turned q None)) (lowest-code w asked l s c)
        (lowest-code (turn w) turned (length-turn w ∙ l) (letters-turn w s) d)
