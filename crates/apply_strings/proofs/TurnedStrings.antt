-- A turned string: as whole as before, turned back by turning again, and each word's weight goes with the word. Assumes nothing.
use mathlib.Core.Path.{◌≡◌, refl, sym, ap, ap₂, ◌∙◌}
use mathlib.Core.Bool.{true}
use mathlib.Core.List.{List, [], ◌∷◌, ◌++◌, map, map-append, reverse, reverse-append, reverse-reverse, append_assoc}
use mathlib.Core.Logic.{◌⊎◌, inl, inr}
use Prim.Native.Nat.{ℕ, ◌+◌, ◌-◌, ◌<◌, ◌≤◌}
use native.Mathlib.Omega.{arith}
use lib.ListN.{length, take, drop, length-map, length-reverse, length-drop, take-append-drop}
use lib.Seq.{take_at, drop_at, length-take-le}
use Rattle.lists.specs.Every.{All}
use Rattle.lists.proofs.Cuts.{all-reverse, reverse_at, map_cut}
use Rattle.lists.proofs.Every.{all_take, all_drop}
use Rattle.lists.proofs.Mapped.{map-all}
use Rattle.alphabet.specs.Letter.{letter, is_letter, capital, paired}
use Rattle.words.specs.Word.{Letters, spell, word_at, turn}
use Rattle.words.proofs.Spelled.{spell-letters}
use Rattle.alphabet.proofs.Letters.{capital-letter, letter-capital, capital_is_letter}
use Rattle.words.proofs.Turning.{length-turn, letters-turn, turn-turn}
use Rattle.collection.specs.Strings.{Str}
use Rattle.collection.proofs.Strings.{Whole}
use Rattle.apply_strings.specs.Turned.{turn_letters, turn_str}
use Rattle.apply_strings.specs.Weighs.{Has}
use Rattle.apply_strings.proofs.Turning.{length-turned}

-- ─── backwards ───────────────────────────────────────────────────────────────

turn-append : (v w : List ℕ) → turn (v ++ w) ≡ turn w ++ turn v
unfolding turn
turn-append v w = ap (map paired) (reverse-append v w) ∙ map-append paired (reverse w) (reverse v)

-- the k letters behind the first a, turned, are the k letters before the last a
turn_cut : (w : List ℕ) (a k b : ℕ) → a + k + b ≡ length w → take k (drop b (turn w)) ≡ turn (take k (drop a w))
turn_cut w a k b e =
    let x : List ℕ = take a w in
    let y : List ℕ = take k (drop a w) in
    let z : List ℕ = drop k (drop a w) in
    let whole : w ≡ x ++ (y ++ z) = sym (ap (λ (l : List ℕ). x ++ l) (take-append-drop k (drop a w)) ∙ take-append-drop a w) in
    let turned : turn w ≡ turn z ++ (turn y ++ turn x) =
    ap turn whole ∙ (turn-append x (y ++ z) ∙ (ap (λ (l : List ℕ). l ++ turn x) (turn-append y z) ∙ append_assoc (turn z) (turn y) (turn x))) in
    let m : length z ≡ b = length-drop k (drop a w) ∙ omega (arith, length-drop a w) in
    let n : length y ≡ k = length-take-le k (drop a w) (omega (arith, length-drop a w)) in
    ap (λ (l : List ℕ). take k (drop b l)) turned
    ∙ (ap (take k) (drop_at (turn z) (turn y ++ turn x) b (length-turn z ∙ m)) ∙ take_at (turn y) (turn x) k (length-turn y ∙ n))

-- ─── letters and their words ─────────────────────────────────────────────────

spell-capital : (w : List ℕ) → Letters w → spell (map capital w) ≡ w
spell-capital [] h = refl
spell-capital (x ∷ w) h = ap₂ (λ (y : ℕ) (v : List ℕ). y ∷ v) (letter-capital x h.0) (spell-capital w h.1)

capital-spell : (letters : List ℕ) → All (λ b. is_letter b ≡ true) letters → map capital (spell letters) ≡ letters
capital-spell [] h = refl
capital-spell (b ∷ letters) h = ap₂ (λ (y : ℕ) (v : List ℕ). y ∷ v) (capital-letter b h.0) (capital-spell letters h.1)

module _ (letters : List ℕ) (h : All (λ b. is_letter b ≡ true) letters) where
  turned_codes : Letters (turn (spell letters))
  turned_codes = letters-turn (spell letters) (spell-letters letters h)

  -- turned letters are letters
  pub turned-letters : All (λ b. is_letter b ≡ true) (turn_letters letters)
  unfolding turn_letters
  turned-letters = map-all (λ b. is_letter b ≡ true) capital (turn (spell letters)) (capitals (turn (spell letters)) turned_codes)
    where
      capitals : (w : List ℕ) → Letters w → All (λ x. is_letter (capital x) ≡ true) w
      capitals [] g = tt
      capitals (x ∷ w) g = (capital_is_letter x g.0, capitals w g.1)

  -- they spell the reverse complement
  pub turned_spells : spell (turn_letters letters) ≡ turn (spell letters)
  unfolding turn_letters
  turned_spells = spell-capital (turn (spell letters)) turned_codes

  -- the word behind the first a letters, turned, is the word before the last a
  pub turned_word : (a k b : ℕ) → a + k + b ≡ length letters → word_at k (turn_letters letters) b ≡ turn (word_at k letters a)
  turned_word a k b e =
      map_cut letter k b (turn_letters letters)
      ∙ (ap (λ (w : List ℕ). take k (drop b w)) turned_spells
      ∙ (turn_cut (spell letters) a k b (e ∙ sym (length-map letters letter)) ∙ ap turn (sym (map_cut letter k a letters))))

  -- turned twice they are the letters again
  pub turned-back : turn_letters (turn_letters letters) ≡ letters
  unfolding turn_letters
  turned-back =
      ap (λ (w : List ℕ). map capital (turn w)) turned_spells
      ∙ (ap (map capital) (turn-turn (spell letters) (spell-letters letters h)) ∙ capital-spell letters h)

-- ─── strings ─────────────────────────────────────────────────────────────────

-- a turned string has its letters and its weights
pub turned_whole : (k : ℕ) (s : Str) → Whole k s → Whole k (turn_str s)
turned_whole k s h =
    record {
      long =
          omega (arith, h.long, length-turned s.letters);
      counted = omega (arith, h.counted, length-turned s.letters, length-reverse s.weights);
    }

-- what holds of all weights holds of the turned ones
pub turned-weights : (P : ℕ → Type 0) (s : Str) → All P s.weights → All P (turn_str s).weights
turned-weights P s h = all-reverse P s.weights h

module _ (k : ℕ) (s : Str) (h : All (λ b. is_letter b ≡ true) s.letters) where
  pub turn-turn_str : turn_str (turn_str s) ≡ s
  turn-turn_str = let a = turned-back s.letters h in let b = reverse-reverse s.weights in λ i. record { letters = a i; weights = b i }

  module _ (whole : Whole k s) (low : 1 ≤ k) (word : List ℕ) (weight : ℕ) where
    -- each word keeps its weight
    pub has_turned : Has k word weight s → Has k word weight (turn_str s)
    has_turned u =
        let a : ℕ = u.0 in
        let n : ℕ = length s.weights in
        let b : ℕ = n - 1 - a in
        let l : a < n = u.1 in
        let t = turned_word s.letters h a k b (omega (arith, whole.long, whole.counted)) in
        (b, omega (arith, length-reverse s.weights), way t u.2, reverse_at s.weights a b (omega arith) ∙ u.3)
      where
        codes : Letters (word_at k s.letters u.0)
        codes = spell-letters (take k (drop u.0 s.letters))
            (all_take (λ b. is_letter b ≡ true) k (drop u.0 s.letters) (all_drop (λ b. is_letter b ≡ true) u.0 s.letters h))

        way : {turned : List ℕ} → turned ≡ turn (word_at k s.letters u.0)
            → (word_at k s.letters u.0 ≡ word) ⊎ (turn (word_at k s.letters u.0) ≡ word) → (turned ≡ word) ⊎ (turn turned ≡ word)
        way t (inl e) = inr (ap turn t ∙ (turn-turn (word_at k s.letters u.0) codes ∙ e))
        way t (inr e) = inl (t ∙ e)
