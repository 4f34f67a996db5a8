-- Laws of rolling codes: over a list xs of letters' codes, the code of the k letters from a on gives that of the k letters from a + 1 on.
-- Assumes nothing.
use mathlib.Core.Path.{◌≡◌, refl, sym, ap, ap₂, ◌∙◌, subst}
use mathlib.Core.Bool.{true}
use mathlib.Core.List.{List, [], ◌∷◌, ◌++◌, map}
use Prim.Native.Nat.{ℕ, zero, suc, ◌+◌, ◌-◌, ◌*◌, ◌/◌, ◌%◌, ◌^◌, ◌≤◌, ◌<◌}
use native.Mathlib.Omega.{arith}
use native.Mathlib.Nat.{one-le-pow, one-mul, lt_of_lt_of_le, le_trans, le_of_eq, pow-le-pow_right}
use native.Mathlib.Numerals.{add-one}
use lib.Arith.{mod-mul, digits_lt, digits_mod}
use lib.Bits.{bit_and, and_mask}
use lib.Dec.{lit<, lit≤}
use lib.ListN.{length, get_or, take, drop, length-drop, length-map}
use lib.Pow.{shl_exact}
use lib.Seq.{take-suc, drop-cons, get_or-drop, length-take-le}
use Rattle.lists.specs.Every.{All}
use Rattle.lists.specs.Limits.{most_k}
use Rattle.lists.proofs.Cuts.{map_cut}
use Rattle.lists.proofs.Every.{all_take, all_drop, all_at}
use Rattle.alphabet.specs.Letter.{is_letter, letter, two_bits, paired}
use Rattle.words.specs.Word.{Letters, code, turn, spell, word_at}
use Rattle.words.specs.Turned.{rolled, rolled_turned}
use Rattle.words.proofs.Codes.{code-snoc, code-cons, code_lt, code_room}
use Rattle.alphabet.proofs.Letters.{bits_lt}
use Rattle.words.proofs.Spelled.{spell-letters}
use Rattle.words.proofs.Turning.{turn-cons, turn-snoc, length-turn}

-- ─── a word without its first letter, with one more behind ───────────────────

mod-step : (j c x : ℕ) → x < 4 → rolled (suc j) c x ≡ (c % 4 ^ j) * 4 + x
mod-step j c x h =
    let m : 4 ^ suc j ≡ 4 ^ j * 4 = omega arith in
    let p : 0 < 4 ^ j = one-le-pow j 4 (lit≤ tt) in
    let d : (c * 4 + x) / 4 ≡ c = omega arith in
    let e : (c * 4 + x) % 4 ≡ x = omega arith in
    ap (λ (n : ℕ). (c * 4 + x) % n) m ∙ (mod-mul (c * 4 + x) p (lit< tt) ∙ ap₂ (λ (u v : ℕ). (u % 4 ^ j) * 4 + v) d e)

-- the code without the first letter
pub tail_code : (x : ℕ) (w : List ℕ) → Letters w → code (x ∷ w) % 4 ^ length w ≡ code w
tail_code x w h = ap (λ (n : ℕ). n % 4 ^ length w) (code-cons x w) ∙ digits_mod x (code_lt w h)

-- the turned word: its last letter goes, the pair of y comes before it
pub turned_roll : (x : ℕ) (w : List ℕ) (y : ℕ) → x < 4 → code (turn (w ++ (y ∷ []))) ≡ rolled_turned (suc (length w)) (code (turn (x ∷ w))) y
turned_roll x w y h =
    let a : code (turn (x ∷ w)) ≡ code (turn w) * 4 + (3 - x) = ap code (turn-cons x w) ∙ code-snoc (turn w) (paired x) in
    let b : code (turn (x ∷ w)) / 4 ≡ code (turn w) = omega arith in
    let n : suc (length w) - 1 ≡ length w = omega arith in
    ap code (turn-snoc w y)
    ∙ (code-cons (paired y) (turn w)
    ∙ ap₂ (λ (p q : ℕ). (3 - y) * 4 ^ p + q) (length-turn w ∙ sym n) (sym b))

-- ─── along a list of codes ───────────────────────────────────────────────────

module _ (xs : List ℕ) where
  -- the code of the k letters from a on
  abbrev pub code_at : ℕ → ℕ → ℕ
  code_at k a = code (take k (drop a xs))

  take_more : (j a : ℕ) → a + j < length xs → take (suc j) (drop a xs) ≡ take j (drop a xs) ++ (get_or xs (a + j) 0 ∷ [])
  take_more j a h =
      let l : j < length (drop a xs) = rw (length-drop a xs) (omega arith) in
      take-suc (drop a xs) j 0 l ∙ ap (λ (x : ℕ). take j (drop a xs) ++ (x ∷ [])) (get_or-drop a xs j 0)

  take_tail : (j a : ℕ) → a < length xs → take (suc j) (drop a xs) ≡ get_or xs a 0 ∷ take j (drop (suc a) xs)
  take_tail j a h = ap (take (suc j)) (drop-cons xs a 0 h)

  -- j letters from a on
  pub length_at : (j a : ℕ) → a + j ≤ length xs → length (take j (drop a xs)) ≡ j
  length_at j a h = length-take-le j (drop a xs) (rw (length-drop a xs) (omega arith))

  -- which are letters
  pub letters_at : Letters xs → (j a : ℕ) → Letters (take j (drop a xs))
  letters_at h j a = all_take (λ x. x < 4) j (drop a xs) (all_drop (λ x. x < 4) a xs h)

  -- one letter more
  pub code_more : (j a : ℕ) → a + j < length xs → code_at (suc j) a ≡ code_at j a * 4 + get_or xs (a + j) 0
  code_more j a h = ap code (take_more j a h) ∙ code-snoc (take j (drop a xs)) (get_or xs (a + j) 0)

  -- c ends in the j letters from a on: with the next letter it is the code of j + 1 letters
  pub code_rolls : Letters xs → (j a c : ℕ) → a + j < length xs → c % 4 ^ j ≡ code_at j a → rolled (suc j) c (get_or xs (a + j) 0) ≡ code_at (suc j) a
  code_rolls h j a c l e =
      mod-step j c (get_or xs (a + j) 0) (all_at (λ x. x < 4) xs h (a + j) 0 l) ∙ (ap (λ (n : ℕ). n * 4 + get_or xs (a + j) 0) e ∙ sym (code_more j a l))

  -- and that ends in the j letters from a + 1 on
  pub code_tail : Letters xs → (j a : ℕ) → a + j < length xs → code_at (suc j) a % 4 ^ j ≡ code_at j (suc a)
  code_tail h j a l =
      let n = length_at j (suc a) (omega arith) in
      ap (λ (w : List ℕ). code w % 4 ^ j) (take_tail j a (omega arith))
      ∙ (ap (λ (m : ℕ). code (get_or xs a 0 ∷ take j (drop (suc a) xs)) % 4 ^ m) (sym n)
      ∙ tail_code (get_or xs a 0) (take j (drop (suc a) xs)) (letters_at h j (suc a)))

-- the word at a position is a part of the word that all letters spell
pub word_part : (k : ℕ) (letters : List ℕ) (a : ℕ) → word_at k letters a ≡ take k (drop a (spell letters))
word_part k letters a = map_cut letter k a letters

-- it has k letters
pub length_word : (k : ℕ) (letters : List ℕ) (a : ℕ) → a + k ≤ length letters → length (word_at k letters a) ≡ k
length_word k letters a l = ap length (word_part k letters a) ∙ length_at (spell letters) k a (omega (arith, length-map letters letter))

-- and each is the code of a letter, where the bytes are letters
pub letters_word : (k : ℕ) (letters : List ℕ) (a : ℕ) → All (λ b. is_letter b ≡ true) letters → Letters (word_at k letters a)
letters_word k letters a good = subst Letters (sym (word_part k letters a)) (letters_at (spell letters) (spell-letters letters good) k a)

-- ─── masks and shifts ────────────────────────────────────────────────────────

pub one_shifted : (b : ℕ) → b < 64 → (1 * 2 ^ b) % 2 ^ 64 ≡ 2 ^ b
one_shifted b h = shl_exact 1 b 64 (omega arith) (omega arith) ∙ one-mul (2 ^ b)

-- a letter is two bits
pub four_two : (k : ℕ) → 4 ^ k ≡ 2 ^ (2 * k)
four_two zero = refl
four_two (suc k) =
    let e : 2 * suc k ≡ suc (suc (2 * k)) = omega arith in
    let t : 4 ^ suc k ≡ 2 ^ suc (suc (2 * k)) = omega (arith, four_two k) in
    t ∙ ap (λ (n : ℕ). 2 ^ n) (sym e)

-- the mask keeps the last k letters
pub masked : (k c : ℕ) → k ≤ most_k → bit_and c ((1 * 2 ^ (2 * k)) % 2 ^ 64 - 1) ≡ c % 4 ^ k
masked k c h = rw (one_shifted (2 * k) (omega arith), four_two k) (and_mask c (2 * k))

-- a letter's code shifted before k letters
pub shifted : (k x : ℕ) → k ≤ 30 → x < 4 → (x * 2 ^ (2 * k)) % 2 ^ 64 ≡ x * 4 ^ k
shifted k x h l = shl_exact 2 (2 * k) 64 l (omega arith) ∙ ap (λ (n : ℕ). x * n) (sym (four_two k))

-- the pair of a letter before k - 1 letters leaves room in 64 bits
pub turned_room : (k c x : ℕ) → 1 ≤ k → k ≤ most_k → c < 4 ^ k → (3 - x) * 4 ^ (k - 1) + c / 4 < 18446744073709551616
turned_room k c x h l small =
    let q : k ≡ suc (k - 1) = omega arith in
    let m : 4 ^ suc (k - 1) ≡ 4 * 4 ^ (k - 1) = omega arith in
    let s : c / 4 < 4 ^ (k - 1) = omega (arith, ap (λ (n : ℕ). 4 ^ n) q) in
    let d : (3 - x) * 4 ^ (k - 1) + c / 4 < 4 * 4 ^ (k - 1) = digits_lt (omega arith) s in
    lt_of_lt_of_le d
    (le_trans (le_of_eq (sym (ap (λ (n : ℕ). 4 ^ n) q ∙ m)))
    (le_trans (pow-le-pow_right (lit< tt) {j = most_k} l) (lit≤ {m = 4 ^ most_k} {n = 18446744073709551616} tt)))

-- ─── the letters of a word one after the other ───────────────────────────────

-- the bits of bytes are codes of letters, whatever the bytes
pub bits_letters : (bytes : List ℕ) → Letters (map two_bits bytes)
bits_letters [] = tt
bits_letters (b ∷ bytes) = (bits_lt b, bits_letters bytes)

map_snoc : (f : ℕ → ℕ) (u : List ℕ) (x : ℕ) → map f (u ++ (x ∷ [])) ≡ map f u ++ (f x ∷ [])
map_snoc f [] x = refl
map_snoc f (y ∷ u) x = ap (λ (l : List ℕ). f y ∷ l) (map_snoc f u x)

-- one byte more
pub bits_more : (word : List ℕ) (i c x : ℕ) → i < length word → c ≡ code (map two_bits (take i word)) → x ≡ two_bits (get_or word i 0)
    → c * 4 + x ≡ code (map two_bits (take (i + 1) word))
bits_more word i c x l e q =
    ap₂ (λ (m n : ℕ). m * 4 + n) e q
    ∙ sym (ap (λ (n : ℕ). code (map two_bits (take n word))) (add-one i)
    ∙ (ap (λ (w : List ℕ). code (map two_bits w)) (take-suc word i 0 l)
    ∙ (ap code (map_snoc two_bits (take i word) (get_or word i 0)) ∙ code-snoc (map two_bits (take i word)) (two_bits (get_or word i 0)))))

-- 31 letters fit in 62 bits
pub bits_room : (word : List ℕ) (i : ℕ) → length word ≤ most_k → i ≤ length word → code (map two_bits (take i word)) < 4 ^ most_k
bits_room word i h l =
    code_room (map two_bits (take i word)) (bits_letters (take i word))
    (omega (arith, length-map (take i word) two_bits, length-take-le i word l))
