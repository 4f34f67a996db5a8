-- Laws of the reverse complement, of words and of codes, for words of every length. Assumes nothing.
use mathlib.Core.Path.{◌≡◌, refl, sym, ap, ap₂, ◌∙◌, subst}
use mathlib.Core.Bool.{true}
use mathlib.Core.List.{List, [], ◌∷◌, ◌++◌, map, reverse, reverse-cons, reverse-append, map-append}
use Prim.Native.Nat.{ℕ, zero, suc, ◌+◌, ◌-◌, ◌*◌, ◌/◌, ◌%◌, ◌^◌, ◌≤◌, ◌<◌}
use native.Mathlib.Omega.{arith}
use native.Mathlib.Nat.{mod-lt, mod-mod, lt_of_lt_of_le, le_trans, pow-le-pow_right, one-le-pow}
use lib.Arith.{mod-mul, digits_mod, digits_div, digits_lt}
use lib.Pow.{pow-add}
use lib.Dec.{lit<, lit≤, eqb}
use lib.ListN.{length, get_or, length-map, length-reverse}
use borrow.Author.Tests.{eqb-true}
use Rattle.lists.specs.Count.{sum}
use Rattle.lists.specs.Every.{every_at}
use Rattle.lists.specs.Limits.{most_k}
use Rattle.lists.proofs.Count.{sum-append}
use Rattle.lists.proofs.Every.{all_append, and_left, and_right}
use Rattle.lists.proofs.Table.{table_rule}
use Rattle.words.specs.Word.{Letters, code_from, code, turn}
use Rattle.alphabet.specs.Letter.{paired}
use Rattle.words.specs.Turned.{spelled, turned_code, turns_four}
use Rattle.words.proofs.Codes.{spelled-code}

-- ─── words ───────────────────────────────────────────────────────────────────

-- the first letter of a word is the last of its reverse complement
pub turn-cons : (x : ℕ) (w : List ℕ) → turn (x ∷ w) ≡ turn w ++ (paired x ∷ [])
unfolding turn
turn-cons x w = ap (map paired) (reverse-cons x w) ∙ map-append paired (reverse w) (x ∷ [])

-- the last letter of a word is the first of its reverse complement
pub turn-snoc : (w : List ℕ) (x : ℕ) → turn (w ++ (x ∷ [])) ≡ paired x ∷ turn w
unfolding turn
turn-snoc w x = ap (map paired) (reverse-append w (x ∷ []))

pub turn-none : turn [] ≡ []
unfolding turn
turn-none = refl

pub length-turn : (w : List ℕ) → length (turn w) ≡ length w
unfolding turn
length-turn w = length-map (reverse w) paired ∙ length-reverse w

pub letters-turn : (w : List ℕ) → Letters w → Letters (turn w)
letters-turn [] h = subst Letters (sym turn-none) tt
letters-turn (x ∷ w) h = subst Letters (sym (turn-cons x w)) (all_append (λ x. x < 4) (turn w) (paired x ∷ []) (letters-turn w h.1) (omega arith, tt))

-- turning twice gives the word back
pub turn-turn : (w : List ℕ) → Letters w → turn (turn w) ≡ w
turn-turn [] h = ap turn turn-none ∙ turn-none
turn-turn (x ∷ w) h =
    let e : paired (paired x) ≡ x = omega (arith, h.0) in
    ap turn (turn-cons x w) ∙ (turn-snoc (turn w) (paired x) ∙ ap₂ (λ (a : ℕ) (l : List ℕ). a ∷ l) e (turn-turn w h.1))

-- a letter and its pair make 3, so a word and its reverse complement make 3 a letter
sum-turn : (w : List ℕ) → Letters w → sum (turn w) + sum w ≡ 3 * length w
unfolding sum
sum-turn [] h = ap (λ (l : List ℕ). sum l + 0) turn-none
sum-turn (x ∷ w) h = omega (arith, sum-turn w h.1, h.0, ap sum (turn-cons x w) ∙ sum-append (turn w) (paired x ∷ []))

-- a word equals its reverse complement only with an even number of letters
pub own_turn_even : (w : List ℕ) → Letters w → turn w ≡ w → length w % 2 ≡ 0
own_turn_even w h e =
    let d : length w ≡ 2 * (sum w - length w) = omega (arith, sum-turn w h, ap sum e) in
    omega arith

-- ─── codes ───────────────────────────────────────────────────────────────────

-- the turned code is the code of the reverse complement
pub turned-code : (w : List ℕ) → Letters w → turned_code (length w) (code w) ≡ code (turn w)
unfolding turned_code
turned-code w h = ap (λ (v : List ℕ). code (turn v)) (spelled-code w h)

-- the pairs of the letters of the code c, read from the last on, behind what `acc` is the code of
unfoldable pub turn_from : ℕ → ℕ → ℕ → ℕ
turn_from zero c acc = acc
turn_from (suc k) c acc = turn_from k (c / 4) (acc * 4 + (3 - c % 4))

from_spelled : (k c acc : ℕ) → code_from acc (turn (spelled k c)) ≡ turn_from k c acc
unfolding spelled turn_from code_from
from_spelled zero c acc = ap (code_from acc) turn-none
from_spelled (suc k) c acc = ap (code_from acc) (turn-snoc (spelled k (c / 4)) (c % 4)) ∙ from_spelled k (c / 4) (acc * 4 + (3 - c % 4))

-- the turned code, letter by letter from the end
pub turned_from : (k c : ℕ) → turned_code k c ≡ turn_from k c 0
unfolding turned_code
turned_from k c = from_spelled k c 0

-- ─── four letters at once ────────────────────────────────────────────────────

mix : (acc p q r s : ℕ) → (((acc * 4 + p) * 4 + q) * 4 + r) * 4 + s ≡ acc * 256 + ((((0 * 4 + p) * 4 + q) * 4 + r) * 4 + s)
mix acc p q r s = omega arith

low : (m c : ℕ) → 0 < m → c % (m * 4) % 4 ≡ c % 4
low m c h = rw (mod-mul c {m = m} {c = 4} h (lit< tt)) (digits_mod (c / 4 % m) (mod-lt c (lit< tt)))

high : (m c : ℕ) → 0 < m → c % (m * 4) / 4 ≡ c / 4 % m
high m c h = rw (mod-mul c {m = m} {c = 4} h (lit< tt)) (digits_div (c / 4 % m) (mod-lt c (lit< tt)))

low_four : (c : ℕ) → turn_from 4 (c % 256) 0 ≡ turn_from 4 c 0
unfolding turn_from
low_four c =
    let a : c % 256 % 4 ≡ c % 4 = low 64 c (lit< tt) in
    let b : c % 256 / 4 ≡ c / 4 % 64 = high 64 c (lit< tt) in
    let d : c / 4 % 64 % 4 ≡ c / 4 % 4 = low 16 (c / 4) (lit< tt) in
    let e : c / 4 % 64 / 4 ≡ c / 4 / 4 % 16 = high 16 (c / 4) (lit< tt) in
    let f : c / 4 / 4 % 16 % 4 ≡ c / 4 / 4 % 4 = low 4 (c / 4 / 4) (lit< tt) in
    let g : c / 4 / 4 % 16 / 4 ≡ c / 4 / 4 / 4 % 4 = high 4 (c / 4 / 4) (lit< tt) in
    let h : c / 4 / 4 / 4 % 4 % 4 ≡ c / 4 / 4 / 4 % 4 = mod-mod (c / 4 / 4 / 4) 4 in
    rw (a, b, d, e, f, g, h)

four_more : (k c acc t : ℕ) → t ≡ turn_from 4 (c % 256) 0 → turn_from (suc (suc (suc (suc k)))) c acc ≡ turn_from k (c / 256) (acc * 256 + t)
unfolding turn_from
four_more k c acc t e =
    let a : c / 4 / 4 / 4 / 4 ≡ c / 256 = omega arith in
    let b = mix acc (3 - c % 4) (3 - c / 4 % 4) (3 - c / 4 / 4 % 4) (3 - c / 4 / 4 / 4 % 4) in
    ap₂ (turn_from k) a (b ∙ ap (λ (y : ℕ). acc * 256 + y) (sym (e ∙ low_four c)))

four_small : (b : ℕ) → turn_from 4 b 0 < 256
unfolding turn_from
four_small b = omega arith

-- a table that passes the test turns four letters
pub table_turns : (table : List ℕ) → turns_four table ≡ true → (b : ℕ) → b < 256 → get_or table b 0 ≡ turned_code 4 b
unfolding turns_four
table_turns table t b h =
    let n = eqb-true (length table) 256 (and_left (eqb (length table) 256) (every_at (λ b x. eqb x (turned_code 4 b)) table) t) in
    eqb-true (get_or table b 0) (turned_code 4 b)
    (table_rule (λ b x. eqb x (turned_code 4 b)) table (and_right (eqb (length table) 256) (every_at (λ b x. eqb x (turned_code 4 b)) table) t) b (omega arith))

-- four turned letters are a byte
pub turned_four_lt : (b : ℕ) → turned_code 4 b < 256
turned_four_lt b = subst (λ (n : ℕ). n < 256) (sym (turned_from 4 b)) (four_small b)

-- ─── as the loops go ─────────────────────────────────────────────────────────

-- `left` of k letters are still to be turned: what is turned so far is below 4 ^ (k - left), and the rest gives the answer
pub record Turning (k c left rest turned : ℕ) : Type 0 where
  pub left_high : left ≤ k
  pub k_high : k ≤ most_k
  pub small : turned < 4 ^ (k - left)
  pub ends : turn_from left rest turned ≡ turned_code k c

-- nothing turned yet
pub turning_begins : (k c : ℕ) → k ≤ most_k → Turning k c k c 0
turning_begins k c h = record { left_high = omega arith; k_high = h; small = one-le-pow (k - k) 4 (lit≤ tt); ends = sym (turned_from k c) }

-- the same number of letters left, said another way
pub turning_left : {k c left left' rest turned : ℕ} → left ≡ left' → Turning k c left rest turned → Turning k c left' rest turned
turning_left {k} {c} {left} {left'} {rest} {turned} e s = subst (λ (n : ℕ). Turning k c n rest turned) e s

module _ (e k c left rest turned t : ℕ) (s : Turning k c left rest turned) (h : e ≤ left) (l : t < 4 ^ e) where
  grown : turned * 4 ^ e + t < 4 ^ (k - (left - e))
  grown =
      let q : k - left + e ≡ k - (left - e) = omega (arith, s.left_high) in
      subst (λ (n : ℕ). turned * 4 ^ e + t < n) (sym (pow-add 4 (k - left) e) ∙ ap (λ (n : ℕ). 4 ^ n) q) (digits_lt s.small l)

  -- e letters more fit
  pub turning_fits : turned * 4 ^ e + t < 18446744073709551616
  turning_fits =
      lt_of_lt_of_le grown
      (le_trans (pow-le-pow_right (lit< tt) {j = most_k} (omega (arith, s.left_high, s.k_high))) (lit≤ {m = 4 ^ most_k} {n = 18446744073709551616} tt))

  step : (rest' : ℕ) → turn_from (left - e) rest' (turned * 4 ^ e + t) ≡ turn_from left rest turned → Turning k c (left - e) rest' (turned * 4 ^ e + t)
  step rest' q = record { left_high = omega (arith, s.left_high); k_high = s.k_high; small = grown; ends = q ∙ s.ends }

module _ (k c left rest turned : ℕ) (s : Turning k c left rest turned) where
  pub four_fit : 4 ≤ left → (t : ℕ) → t ≡ turned_code 4 (rest % 256) → turned * 256 + t < 18446744073709551616
  four_fit h t e = turning_fits 4 k c left rest turned t s h (subst (λ (n : ℕ). n < 256) (sym e) (turned_four_lt (rest % 256)))

  pub four_turned : 4 ≤ left → (t : ℕ) → t ≡ turned_code 4 (rest % 256) → Turning k c (left - 4) (rest / 256) (turned * 256 + t)
  four_turned h t e =
      let q : left ≡ suc (suc (suc (suc (left - 4)))) = omega arith in
      step 4 k c left rest turned t s h (subst (λ (n : ℕ). n < 256) (sym e) (turned_four_lt (rest % 256))) (rest / 256)
      (sym (ap (λ (n : ℕ). turn_from n rest turned) q ∙ four_more (left - 4) rest turned t (e ∙ turned_from 4 (rest % 256))))

  pub one_fits : 1 ≤ left → turned * 4 + (3 - rest % 4) < 18446744073709551616
  one_fits h = turning_fits 1 k c left rest turned (3 - rest % 4) s h (omega arith)

  -- one letter turned
  pub one_turned : 1 ≤ left → Turning k c (left - 1) (rest / 4) (turned * 4 + (3 - rest % 4))
  unfolding turn_from
  one_turned h =
      let q : left ≡ suc (left - 1) = omega arith in
      step 1 k c left rest turned (3 - rest % 4) s h (omega arith) (rest / 4) (sym (ap (λ (n : ℕ). turn_from n rest turned) q))

  -- all letters turned
  pub turning_ends : left ≤ 0 → turned ≡ turned_code k c
  unfolding turn_from
  turning_ends h =
      let q : left ≡ 0 = omega arith in
      sym (ap (λ (n : ℕ). turn_from n rest turned) q) ∙ s.ends
