-- What judging a question and an index gives, and that asking by codes is asking by words. Assumes nothing.
use mathlib.Core.Path.{◌≡◌, refl, sym, ap, ap₂, ◌∙◌, subst}
use mathlib.Core.Bool.{true, ◌&&◌}
use mathlib.Core.List.{List, map}
use Prim.Native.Nat.{ℕ, ◌+◌, ◌-◌, ◌^◌, ◌<◌, ◌≤◌}
use native.Mathlib.Omega.{arith}
use borrow.Author.Tests.{leb-true, eqb-true}
use lib.Dec.{eqb}
use lib.ListN.{length, length-map}
use Rattle.collection.specs.Verdict.{good}
use Rattle.collection.specs.declared.refusal.Refusal.TheVariants as refusal
use Rattle.lists.specs.Every.{every}
use Rattle.lists.specs.Limits.{most_letters}
use Rattle.lists.proofs.Every.{and_left, and_right, every-all}
use Rattle.alphabet.specs.Letter.{letter, is_letter, two_bits}
use Rattle.words.specs.Word.{Letters, code, spell, turn}
use Rattle.words.specs.Turned.{spelled, turned_code}
use Rattle.words.proofs.Codes.{code_lt, spelled-code}
use Rattle.words.proofs.Spelled.{spell-letters, spell_bits}
use Rattle.words.proofs.Turning.{length-turn, letters-turn, turned-code}
use Rattle.collection.specs.declared.Side.TheVariants.{Asked, Turned}
use Rattle.collection.specs.Judge.{size_verdict, word_verdict}
use Rattle.collection.proofs.Judged.{size_good, word_good}
use Rattle.collection.proofs.Verdicts.{both_good, test_good, then_bad, then_good, refused, settled}
use Rattle.index_minimizers.specs.Least.{least}
use Rattle.index_minimizers.specs.Minimizer.{minimizer, sizes_verdict}
use Rattle.index_minimizers.proofs.Sizes.{Sizes, sizes_good, words_few}
use Rattle.index_minimizers.proofs.Smallest.{least-minimizer, minimizer_lt}
use Rattle.index_stretches.specs.Stretches.{walk}
use Rattle.index_stretches.specs.Index.{Index, row_of, tables_fit, row_fits}
use Rattle.quick.specs.declared.Question.{Question}
use Rattle.quick.specs.declared.QuickAnswer.TheVariants.{Absent}
use Rattle.quick_walks.specs.Walk.{is_word, seek}
use Rattle.quick_walks.specs.Judged.{Alike, Row}
use Rattle.quick_walks.proofs.RowWalks.{row_short}
use Rattle.quick_walks.proofs.Walks.{miss_counts}
use Rattle.quick.specs.Quick.{met_or, quick_found, rows_verdict, ask_verdict}
use Rattle.quick.specs.Asking.{question, question_of, turned_of, asked_of}
use Rattle.quick.specs.Judged.{Askable}

-- ─── a judged question ───────────────────────────────────────────────────────

-- what 2, 3 and 9 leave
pub record Asking (k p : ℕ) (word : List ℕ) (N : ℕ) : Type 0 where
  pub sizes : Sizes k p
  pub few : N ≤ most_letters
  pub long : length word ≡ k
  pub letters : every is_letter word ≡ true

-- a question that they do not refuse
pub ask_good : (k p : ℕ) (word : List ℕ) (N : ℕ) → ask_verdict k p word N ≡ good → Asking k p word N
unfolding ask_verdict
ask_good k p word N e =
    let a = both_good (sizes_verdict k p) _ e in
    let b = both_good (size_verdict N 0) (word_verdict k word) a.1 in
    let w = word_good k word b.1 in
    record { sizes = sizes_good k p a.0; few = (size_good N 0 b.0).0; long = w.0; letters = w.1 }

module _ {k p : ℕ} (word : List ℕ) (fits : p ≤ k) (long : length word ≡ k) (letters : every is_letter word ≡ true) where
  abbrev w : List ℕ
  w = spell word

  spelt : Letters w
  spelt = spell-letters word (every-all is_letter word letters)

  size : length w ≡ k
  size = length-map word letter ∙ long

  size_turned : length (turn w) ≡ k
  size_turned = length-turn w ∙ size

  -- what the machine finds for a word is its question
  pub question_is : (asked turned row other : ℕ) → asked ≡ code (map two_bits word) → turned ≡ turned_code k asked → row ≡ least p (k - p) asked
      → other ≡ least p (k - p) turned
      → question asked turned row other ≡ question_of p w
  question_is asked turned row other e f g h =
      let c : asked ≡ code w = e ∙ ap code (spell_bits word (every-all is_letter word (letters))) in
      let d : turned ≡ code (turn w) = f ∙ (ap₂ turned_code (sym size) c ∙ turned-code w spelt) in
      let r : row ≡ minimizer p w = g ∙ (ap₂ (λ (n x : ℕ). least p (n - p) x) (sym size) c ∙ least-minimizer p w spelt (omega (arith, size, fits))) in
      let o : other ≡ minimizer p (turn w) =
      h ∙ (ap₂ (λ (n x : ℕ). least p (n - p) x) (sym size_turned) d ∙ least-minimizer p (turn w) (letters-turn w spelt) (omega (arith, size_turned, fits))) in
      ap₂ (λ (x y : ℕ). question x y row other) c d
      ∙ ap₂ (λ (x y : ℕ). question (code w) (code (turn w)) x y) r o

module _ {k p : ℕ} {word : List ℕ} {N : ℕ} (a : Asking k p word N) where
  abbrev asks : List ℕ
  asks = spell word

  spelt_good : Letters asks
  spelt_good = spelt word a.sizes.p_fits a.long a.letters

  many : length asks ≡ k
  many = size word a.sizes.p_fits a.long a.letters

  many_turned : length (turn asks) ≡ k
  many_turned = size_turned word a.sizes.p_fits a.long a.letters

  -- both rows are among those of the index
  pub row_below : minimizer p asks < 4 ^ p
  row_below = minimizer_lt p asks spelt_good (omega (arith, many, a.sizes.p_fits))

  pub other_below : minimizer p (turn asks) < 4 ^ p
  other_below = minimizer_lt p (turn asks) (letters-turn asks spelt_good) (omega (arith, many_turned, a.sizes.p_fits))

  -- the question can be asked
  pub askable : (letters : List ℕ) → length letters ≡ N → Askable k letters (question_of p asks)
  askable letters n =
      record {
        k_low = omega (arith, a.sizes.k_low);
        k_high = a.sizes.k_high;
        few_letters = omega (arith, n, a.few);
        asked_small = subst (λ (n : ℕ). code asks < 4 ^ n) many (code_lt asks spelt_good);
        turned_small = subst (λ (n : ℕ). code (turn asks) < 4 ^ n) many_turned (code_lt (turn asks) (letters-turn asks spelt_good));
      }

  -- to ask by codes is to ask by words
  pub asked_quick : (letters : List ℕ) (index : Index) → asked_of k letters index (question_of p asks) ≡ quick_found (minimizer p) k letters index asks
  unfolding asked_of turned_of quick_found
  asked_quick letters index =
      let s : spelled k (code asks) ≡ asks = ap (λ (n : ℕ). spelled n (code asks)) (sym many) ∙ spelled-code asks spelt_good in
      let t : spelled k (code (turn asks)) ≡ turn asks =
      ap (λ (n : ℕ). spelled n (code (turn asks))) (sym many_turned) ∙ spelled-code (turn asks) (letters-turn asks spelt_good) in
      ap₂
      (λ (u v : List ℕ).
      met_or Asked (seek (is_word k letters u) 0 (walk (row_of index (minimizer p asks))))
      (λ c. met_or Turned (seek (is_word k letters v) c (walk (row_of index (minimizer p (turn asks))))) Absent))
      s t

-- ─── a judged index ──────────────────────────────────────────────────────────

-- tables that fit: the fourth has an entry more than there are minimizers, the others are alike
pub tables_good : (d : ℕ) (t : Index) → tables_fit d t ≡ true → (length t.before ≡ d + 1) × Alike t
unfolding tables_fit
tables_good d t e =
    let f = and_right (eqb (length t.before) (d + 1)) _ e in
    let g = and_right (eqb (length t.positions) (length t.firsts)) _ f in (
      eqb-true (length t.before) (d + 1) (and_left (eqb (length t.before) (d + 1)) _ e),
      record {
        positions_long = eqb-true (length t.positions) (length t.firsts) (and_left (eqb (length t.positions) (length t.firsts)) _ f);
        numbers_long = eqb-true (length t.numbers) (length t.firsts) (and_left (eqb (length t.numbers) (length t.firsts)) _ g);
        few = leb-true (length t.firsts) most_letters (and_right (eqb (length t.numbers) (length t.firsts)) _ g);
      },
    )

-- both rows of a judged index can be walked
pub rows_good : (d k N : ℕ) (t : Index) (row other : ℕ) → row < d → other < d → rows_verdict d k N t row other ≡ good → Row k N t row × Row k N t other
unfolding rows_verdict
rows_good d k N t row other l m e =
    let f = (test_good (tables_fit d t && (row_fits k N t row && row_fits k N t other)) refusal.Index good e).0 in
    let g = tables_good d t (and_left (tables_fit d t) _ f) in
    let r = and_right (tables_fit d t) _ f in (
      record { alike = g.1; inside = omega (arith, g.0); fits = and_left (row_fits k N t row) _ r },
      record { alike = g.1; inside = omega (arith, g.0); fits = and_right (row_fits k N t row) _ r },
    )

-- ─── the question that is asked ──────────────────────────────────────────────

-- what is known once 2, 3 and 9 are judged and the question q is made
module _ (k p : ℕ) (word letters : List ℕ) (judged : ask_verdict k p word (length letters) ≡ good) (q : Question) (is : q ≡ question_of p (spell word)) where
  pub row_small : q.row < 4 ^ p
  row_small = subst (λ (x : Question). x.row < 4 ^ p) (sym is) (row_below (ask_good k p word (length letters) judged))

  pub other_small : q.other < 4 ^ p
  other_small = subst (λ (x : Question). x.other < 4 ^ p) (sym is) (other_below (ask_good k p word (length letters) judged))

  pub can_ask : Askable k letters q
  can_ask = subst (Askable k letters) (sym is) (askable (ask_good k p word (length letters) judged) letters refl)

  pub asked_is : (index : Index) → asked_of k letters index q ≡ quick_found (minimizer p) k letters index (spell word)
  asked_is index = ap (asked_of k letters index) is ∙ asked_quick (ask_good k p word (length letters) judged) letters index

-- ─── what the functions need of all this ─────────────────────────────────────

-- no row is too long to count on behind it
pub ruleset walked = (miss_counts, row_short)

pub ruleset judging = (tables_good, words_few)

pub ruleset asking = (ask_good, row_small, other_small, can_ask, asked_is, rows_good, then_bad, then_good, refused, settled)
