-- Laws of a word's code: it is below 4 ^ length, no two words of one length share it, and it gives the word back. Assumes nothing.
use mathlib.Core.Path.{◌≡◌, refl, sym, ap, ap₂, ◌∙◌, subst}
use mathlib.Core.Bool.{Bool, true, false, true≢false}
use mathlib.Core.List.{List, [], ◌∷◌, ◌++◌}
use Prim.Native.Nat.{ℕ, zero, suc, ◌+◌, ◌*◌, ◌/◌, ◌%◌, ◌^◌, ◌≤◌, ◌<◌}
use native.Mathlib.Omega.{arith}
use native.Mathlib.Nat.{zero-add, add-mul, mul_assoc, add_assoc, zero-mul, pow-le-pow_right, lt_of_lt_of_le, mod-lt}
use lib.Arith.{digits_mod, digits_div, digits_lt}
use borrow.Author.Tests.{eq-eqb, ne_eqb}
use lib.Dec.{eqb, lit<}
use lib.ListN.{length, length-append}
use Rattle.lists.specs.Every.{same}
use Rattle.lists.specs.Limits.{most_k}
use Rattle.lists.proofs.Every.{all_append, same_is, is_same}
use Rattle.words.specs.Word.{Letters, code_from, code}
use Rattle.words.specs.Turned.{spelled}

-- ─── how a code is put together ──────────────────────────────────────────────

code_from_lem : (high : ℕ) (w : List ℕ) → code_from high w ≡ high * 4 ^ length w + code w
unfolding code_from
code_from_lem high [] = omega arith
code_from_lem high (x ∷ w) =
    code_from_lem (high * 4 + x) w
    ∙ (spread high x (4 ^ length w) (code w)
    ∙ ap₂ (λ (p q : ℕ). high * p + q) (sym (pow_suc (length w))) (sym (code_from_lem (0 * 4 + x) w)))
  where
    pow_suc : (n : ℕ) → 4 ^ suc n ≡ 4 * 4 ^ n
    pow_suc n = omega arith

    spread : (a x m c : ℕ) → (a * 4 + x) * m + c ≡ a * (4 * m) + ((0 * 4 + x) * m + c)
    spread a x m c = rw (add-mul (a * 4) x m, mul_assoc a 4 m, zero-mul 4, zero-add x) (add_assoc (a * (4 * m)) (x * m) c)

-- the first letter is the highest
pub code-cons : (x : ℕ) (w : List ℕ) → code (x ∷ w) ≡ x * 4 ^ length w + code w
unfolding code_from
code-cons x w = code_from_lem (0 * 4 + x) w ∙ ap (λ (y : ℕ). y * 4 ^ length w + code w) (omega arith)

snoc_from : (high : ℕ) (w : List ℕ) (x : ℕ) → code_from high (w ++ (x ∷ [])) ≡ code_from high w * 4 + x
unfolding code_from
snoc_from high [] x = refl
snoc_from high (y ∷ w) x = snoc_from (high * 4 + y) w x

-- the last letter is the lowest
pub code-snoc : (w : List ℕ) (x : ℕ) → code (w ++ (x ∷ [])) ≡ code w * 4 + x
code-snoc w x = snoc_from 0 w x

pub code-none : code [] ≡ 0
unfolding code_from
code-none = refl

-- ─── range ───────────────────────────────────────────────────────────────────

-- a code is below 4 ^ length
pub code_lt : (w : List ℕ) → Letters w → code w < 4 ^ length w
unfolding code_from
code_lt [] h = omega arith
code_lt (x ∷ w) h =
    let m : 4 ^ suc (length w) ≡ 4 * 4 ^ length w = omega arith in
    subst (λ (n : ℕ). code (x ∷ w) < n) (sym m) (subst (λ (n : ℕ). n < 4 * 4 ^ length w) (sym (code-cons x w)) (digits_lt h.0 (code_lt w h.1)))

-- a code of at most 31 letters has room for one letter more in 64 bits
pub code_room : (w : List ℕ) → Letters w → length w ≤ most_k → code w < 4 ^ most_k
code_room w h l = lt_of_lt_of_le (code_lt w h) (pow-le-pow_right (lit< tt) l)

-- ─── one code, one word ──────────────────────────────────────────────────────

-- words of one length that share a code are equal
pub code_injective : (u v : List ℕ) → length u ≡ length v → Letters u → Letters v → code u ≡ code v → u ≡ v
code_injective [] [] l g h e = refl
code_injective [] (y ∷ v) l g h e = absurd (let z : ⊥ = omega arith in z)
code_injective (x ∷ u) [] l g h e = absurd (let z : ⊥ = omega arith in z)
code_injective (x ∷ u) (y ∷ v) l g h e =
    let n : length u ≡ length v = omega arith in
    let q : x * 4 ^ length u + code u ≡ y * 4 ^ length u + code v = sym (code-cons x u) ∙ (e ∙ (code-cons y v ∙ ap (λ (k : ℕ). y * 4 ^ k + code v) (sym n))) in
    let s : code v < 4 ^ length u = subst (λ (k : ℕ). code v < 4 ^ k) (sym n) (code_lt v h.1) in
    let top : x ≡ y = sym (digits_div x (code_lt u g.1)) ∙ (ap (λ (k : ℕ). k / 4 ^ length u) q ∙ digits_div y s) in
    let low : code u ≡ code v = sym (digits_mod x (code_lt u g.1)) ∙ (ap (λ (k : ℕ). k % 4 ^ length u) q ∙ digits_mod y s) in
    ap₂ (λ (a : ℕ) (b : List ℕ). a ∷ b) top (code_injective u v n g.1 h.1 low)

-- ─── the word of a code ──────────────────────────────────────────────────────

-- what a code spells is a word
pub spelled-letters : (k c : ℕ) → Letters (spelled k c)
unfolding spelled
spelled-letters zero c = tt
spelled-letters (suc k) c = all_append (λ x. x < 4) (spelled k (c / 4)) (c % 4 ∷ []) (spelled-letters k (c / 4)) (mod-lt c (lit< tt), tt)

-- of k letters
pub length-spelled : (k c : ℕ) → length (spelled k c) ≡ k
unfolding spelled
length-spelled zero c = refl
length-spelled (suc k) c = length-append (spelled k (c / 4)) (c % 4 ∷ []) ∙ (omega (arith, length-spelled k (c / 4)))

-- the code of the spelled word
pub code-spelled : (k c : ℕ) → c < 4 ^ k → code (spelled k c) ≡ c
unfolding spelled code_from
code-spelled zero c h = omega arith
code-spelled (suc k) c h =
    code-snoc (spelled k (c / 4)) (c % 4) ∙ (ap (λ (n : ℕ). n * 4 + c % 4) (code-spelled k (c / 4) (omega arith)) ∙ (omega arith))

-- the word spelled by a word's code is that word
pub spelled-code : (w : List ℕ) → Letters w → spelled (length w) (code w) ≡ w
spelled-code w h =
    code_injective (spelled (length w) (code w)) w (length-spelled (length w) (code w)) (spelled-letters (length w) (code w)) h
    (code-spelled (length w) (code w) (code_lt w h))

-- a test by codes is a test by letters
pub code_test : (u w : List ℕ) (c : ℕ) → length u ≡ length w → Letters u → Letters w → c ≡ code w → eqb (code u) c ≡ same u w
code_test u w c l g h e = go (same u w) refl
  where
    go : (t : Bool) → same u w ≡ t → eqb (code u) c ≡ same u w
    go true q = eq-eqb (code u) c (ap code (same_is u w q) ∙ sym e) ∙ sym q
    go false q = ne_eqb (code u) c (λ r. no (code_injective u w l g h (r ∙ e))) ∙ sym q
      where
        no : u ≡ w → ⊥
        no p = let z = sym (is_same p) ∙ q in true≢false z
