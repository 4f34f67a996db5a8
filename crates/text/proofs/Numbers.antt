-- A number's digits have its value, and a number's value has its digits: by induction over the digits, the last first. Assumes nothing.
use mathlib.Core.Path.{◌≡◌, refl, sym, ap, ◌∙◌}
use mathlib.Core.Bool.{Bool, true, false, not, ◌&&◌}
use mathlib.Core.List.{List, [], ◌∷◌, ◌++◌, append-nil}
use Prim.Native.Nat.{ℕ, zero, suc, ◌+◌, ◌-◌, ◌*◌, ◌/◌, ◌%◌, ◌<◌, ◌≤◌}
use native.Mathlib.Nat.{zero-add, add-suc, suc-add}
use native.Mathlib.Omega.{arith}
use borrow.Author.Tests.{lt-ltb, le-ltb, ltb-true, ltb-false, not-true, eqb-false}
use lib.Dec.{ltb, eqb}
use lib.ListN.{length}
use Rattle.lists.specs.Every.{every}
use Rattle.lists.proofs.Every.{and_both}
use Rattle.lists.proofs.Refuted.{never}
use Rattle.text.specs.Numbers.{is_digit, is_number, value_from, value, digits_in, digits}
use Rattle.text.proofs.Tests.{both, digit_range, range_digit, unequal}

-- ─── steps ───────────────────────────────────────────────────────────────────

-- below 10 a digit is left, which is the first
pub last_digit : (s n : ℕ) (rest : List ℕ) → n < 10 → digits_in s n rest ≡ (48 + n) ∷ rest
unfolding digits_in
last_digit zero n rest h = refl
last_digit (suc s) n rest h = rw (lt-ltb n 10 h)

-- else the last digit goes in front of `rest`
pub more_digits : (s n : ℕ) (rest : List ℕ) → 10 ≤ n → digits_in (suc s) n rest ≡ digits_in s (n / 10) ((48 + n % 10) ∷ rest)
unfolding digits_in
more_digits s n rest h = rw (le-ltb n 10 h)

-- any number of steps that is enough gives the same
pub enough : (s t n : ℕ) (rest : List ℕ) → n ≤ s → n ≤ t → digits_in s n rest ≡ digits_in t n rest
enough zero t n rest p q = last_digit 0 n rest (omega arith) ∙ sym (last_digit t n rest (omega arith))
enough (suc s) zero n rest p q = last_digit (suc s) n rest (omega arith) ∙ sym (last_digit 0 n rest (omega arith))
enough (suc s) (suc t) n rest p q = go (ltb n 10) refl (enough s t (n / 10) ((48 + n % 10) ∷ rest)) where
  go : (b : Bool) → ltb n 10 ≡ b → (n / 10 ≤ s → n / 10 ≤ t → digits_in s (n / 10) ((48 + n % 10) ∷ rest) ≡ digits_in t (n / 10) ((48 + n % 10) ∷ rest))
      → digits_in (suc s) n rest ≡ digits_in (suc t) n rest
  go true e r =
      let l = ltb-true n 10 e in
      last_digit (suc s) n rest l ∙ sym (last_digit (suc t) n rest l)
  go false e r =
      let l = ltb-false n 10 e in
      more_digits s n rest l ∙ (r (omega arith) (omega arith) ∙ sym (more_digits t n rest l))

-- ─── the digits of a value ───────────────────────────────────────────────────

-- digits behind a value of at least 1 are the last digits of their value
back : (f rest : List ℕ) (a m : ℕ) → every is_digit f ≡ true → 1 ≤ a → digits_in (length f + m) (value_from a f) rest ≡ digits_in m a (f ++ rest)
unfolding every value_from
back [] rest a m h p = rw zero-add
back (b ∷ f) rest a m h p =
    let t = both (is_digit b) _ h in
    let d = digit_range b t.0 in
    let a' : ℕ = a * 10 + (b - 48) in
    let r : digits_in (length f + suc m) (value_from a' f) rest ≡ digits_in (suc m) a' (f ++ rest) = back f rest a' (suc m) t.1 (omega arith) in
    let q : a' / 10 ≡ a = omega arith in
    let u : 48 + a' % 10 ≡ b = omega arith in
    let v : digits_in (suc m) a' (f ++ rest) ≡ digits_in m a (b ∷ (f ++ rest)) =
    more_digits m a' (f ++ rest) (omega arith) ∙ (λ i. digits_in m (q i) (u i ∷ (f ++ rest))) in
    ap (λ (x : ℕ). digits_in x (value_from a' f) rest) (suc-add (length f) m ∙ sym (add-suc (length f) m)) ∙ (r ∙ v)

one_digit : (b : ℕ) → is_digit b ≡ true → digits (value (b ∷ [])) ≡ b ∷ []
unfolding digits value_from
one_digit b h =
    let d = digit_range b h in
    let u : 48 + (0 * 10 + (b - 48)) ≡ b = omega arith in
    last_digit _ _ [] (omega arith) ∙ ap (λ (x : ℕ). x ∷ []) u

many_digits : (b : ℕ) (f : List ℕ) → is_digit b ≡ true → (b ≡ 48 → ⊥) → every is_digit f ≡ true → digits (value (b ∷ f)) ≡ b ∷ f
unfolding digits value_from
many_digits b f h z g =
    let d = digit_range b h in
    let a : ℕ = 0 * 10 + (b - 48) in
    let v : ℕ = value_from a f in
    let u : 48 + a ≡ b = omega arith in
    enough v (length f + v) v [] (omega arith) (omega arith)
    ∙ (back f [] a v g (omega arith) ∙ (last_digit v a (f ++ []) (omega arith) ∙ (λ i. u i ∷ append-nil f i)))

-- a number's value is written as the number
pub digits_value : (f : List ℕ) → is_number f ≡ true → digits (value f) ≡ f
unfolding is_number
digits_value [] h = never h
digits_value (b ∷ []) h = one_digit b h
digits_value (b ∷ (c ∷ f)) h =
    let t = both (is_digit b && not (eqb b 48)) _ h in
    let u = both (is_digit b) _ t.0 in
    many_digits b (c ∷ f) u.0 (eqb-false b 48 (not-true _ u.1)) t.1

-- ─── the value of the digits ─────────────────────────────────────────────────

value_last : (s n : ℕ) (rest : List ℕ) → n < 10 → value_from 0 (digits_in s n rest) ≡ value_from n rest
unfolding value_from
value_last s n rest h =
    let u : 0 * 10 + (48 + n - 48) ≡ n = omega arith in
    ap (value_from 0) (last_digit s n rest h) ∙ ap (λ (x : ℕ). value_from x rest) u

value_more : (n : ℕ) (rest : List ℕ) → value_from (n / 10) ((48 + n % 10) ∷ rest) ≡ value_from n rest
unfolding value_from
value_more n rest =
    let u : n / 10 * 10 + (48 + n % 10 - 48) ≡ n = omega arith in
    ap (λ (x : ℕ). value_from x rest) u

value_in : (s n : ℕ) (rest : List ℕ) → n ≤ s → value_from 0 (digits_in s n rest) ≡ value_from n rest
value_in zero n rest h = value_last zero n rest (omega arith)
value_in (suc s) n rest h = go (ltb n 10) refl (value_in s (n / 10) ((48 + n % 10) ∷ rest)) where
  go : (b : Bool) → ltb n 10 ≡ b → (n / 10 ≤ s → value_from 0 (digits_in s (n / 10) ((48 + n % 10) ∷ rest)) ≡ value_from (n / 10) ((48 + n % 10) ∷ rest))
      → value_from 0 (digits_in (suc s) n rest) ≡ value_from n rest
  go true e r = value_last (suc s) n rest (ltb-true n 10 e)
  go false e r =
      let l = ltb-false n 10 e in
      ap (value_from 0) (more_digits s n rest l) ∙ (r (omega arith) ∙ value_more n rest)

-- a value's digits have the value
pub value-digits : (n : ℕ) → value (digits n) ≡ n
unfolding digits value_from
value-digits n = value_in n n [] (omega arith)

-- ─── digits are a number ─────────────────────────────────────────────────────

-- digits of which the first is not 0
abbrev led : List ℕ → Bool
led [] = false
led (b ∷ f) = (is_digit b && not (eqb b 48)) && every is_digit f

led_number : (f : List ℕ) → led f ≡ true → is_number f ≡ true
unfolding is_number
led_number [] h = never h
led_number (b ∷ []) h = (both (is_digit b) _ (both (is_digit b && not (eqb b 48)) _ h).0).0
led_number (b ∷ (c ∷ f)) h = h

led_last : (s n : ℕ) (rest : List ℕ) → n < 10 → 1 ≤ n → every is_digit rest ≡ true → led (digits_in s n rest) ≡ true
led_last s n rest l p g =
    ap led (last_digit s n rest l) ∙ and_both (and_both (range_digit (48 + n) (omega arith) (omega arith)) (unequal (48 + n) 48 (λ e. omega arith))) g

one_more : (b : ℕ) (f : List ℕ) → is_digit b ≡ true → every is_digit f ≡ true → every is_digit (b ∷ f) ≡ true
unfolding every
one_more b f p q = and_both p q

led_in : (s n : ℕ) (rest : List ℕ) → n ≤ s → 1 ≤ n → every is_digit rest ≡ true → led (digits_in s n rest) ≡ true
led_in zero n rest h p g = led_last zero n rest (omega arith) p g
led_in (suc s) n rest h p g = go (ltb n 10) refl (led_in s (n / 10) ((48 + n % 10) ∷ rest)) where
  go : (b : Bool) → ltb n 10 ≡ b
      → (n / 10 ≤ s → 1 ≤ n / 10 → every is_digit ((48 + n % 10) ∷ rest) ≡ true → led (digits_in s (n / 10) ((48 + n % 10) ∷ rest)) ≡ true)
      → led (digits_in (suc s) n rest) ≡ true
  go true e r = led_last (suc s) n rest (ltb-true n 10 e) p g
  go false e r =
      let l = ltb-false n 10 e in
      ap led (more_digits s n rest l) ∙ r (omega arith) (omega arith) (one_more (48 + n % 10) rest (range_digit (48 + n % 10) (omega arith) (omega arith)) g)

-- what is written is a number
pub number_digits : (n : ℕ) → is_number (digits n) ≡ true
unfolding digits is_number every digits_in
number_digits zero = refl
number_digits (suc n) = led_number (digits (suc n)) (led_in (suc n) (suc n) [] (omega arith) (omega arith) refl)

-- a number is made of digits
pub number_all : (f : List ℕ) → is_number f ≡ true → every is_digit f ≡ true
unfolding is_number every
number_all [] h = refl
number_all (b ∷ []) h = and_both h refl
number_all (b ∷ (c ∷ f)) h =
    let t = both (is_digit b && not (eqb b 48)) _ h in
    and_both (both (is_digit b) _ t.0).0 t.1

pub all_digits : (n : ℕ) → every is_digit (digits n) ≡ true
all_digits n = number_all _ (number_digits n)
