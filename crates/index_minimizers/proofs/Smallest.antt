-- The minimizer of a word is the least piece of its code. Assumes nothing.
use mathlib.Core.Path.{◌≡◌, sym, ap, ap₂, ◌∙◌, subst}
use mathlib.Core.List.{List, [], ◌∷◌}
use Prim.Native.Nat.{ℕ, zero, suc, ◌+◌, ◌-◌, ◌/◌, ◌%◌, ◌^◌, ◌≤◌, ◌<◌, min}
use native.Mathlib.Nat.{mod-lt, mod-eq_of_lt}
use native.Mathlib.Omega.{arith}
use lib.ListN.{length, take, get_or}
use lib.Seq.{take_all, take-suc, length-take-le}
use Rattle.lists.proofs.Every.{all_take, all_at}
use Rattle.words.specs.Word.{Letters, code}
use Rattle.words.proofs.Codes.{code_lt, code-snoc}
use Rattle.words.proofs.Rolling.{tail_code}
use Rattle.index_minimizers.specs.Least.{least}
use Rattle.index_minimizers.specs.Minimizer.{smallest, minimizer}
use Rattle.index_minimizers.proofs.Sliding.{four_pos, letter_behind, least_low, least-mod}

-- the code of the first n + p letters without its last n letters
front-code : (p n : ℕ) (w : List ℕ) → Letters w → n + p ≤ length w → code (take (n + p) w) / 4 ^ n ≡ code (take p w)
front-code p zero w h l =
    let q : 0 + p ≡ p = omega arith in
    let z : code (take (0 + p) w) / 4 ^ 0 ≡ code (take (0 + p) w) = omega arith in
    z ∙ ap (λ (m : ℕ). code (take m w)) q
front-code p (suc n) w h l =
    let q : suc n + p ≡ suc (n + p) = omega arith in
    let x = get_or w (n + p) 0 in
    ap (λ (m : ℕ). code (take m w) / 4 ^ suc n) q
    ∙ (ap (λ (v : List ℕ). code v / 4 ^ suc n) (take-suc w (n + p) 0 (omega arith))
    ∙ (ap (λ (m : ℕ). m / 4 ^ suc n) (code-snoc (take (n + p) w) x)
    ∙ (letter_behind n (code (take (n + p) w)) x (all_at (λ y. y < 4) w h (n + p) 0 (omega arith)) ∙ front-code p n w h (omega arith))))

-- the code of the first p of n + p letters
first_piece : (p n : ℕ) (w : List ℕ) → Letters w → length w ≡ n + p → code w / 4 ^ n % 4 ^ p ≡ code (take p w)
first_piece p n w h l =
    let m : length (take p w) ≡ p = length-take-le p w (omega arith) in
    let s : code (take p w) < 4 ^ p = subst (λ (k : ℕ). code (take p w) < 4 ^ k) m (code_lt (take p w) (all_take (λ y. y < 4) p w h)) in
    ap (λ (v : List ℕ). code v / 4 ^ n % 4 ^ p) (sym (take_all (n + p) w (omega arith)))
    ∙ (ap (λ (y : ℕ). y % 4 ^ p) (front-code p n w h (omega arith)) ∙ mod-eq_of_lt s)

least-smallest : (p n : ℕ) (w : List ℕ) → Letters w → length w ≡ n + p → least p n (code w) ≡ smallest p n w
unfolding least smallest
least-smallest p zero w h l =
    let q : length w ≡ p = omega arith in
    mod-eq_of_lt (subst (λ (k : ℕ). code w < 4 ^ k) q (code_lt w h)) ∙ ap code (sym (take_all p w (omega arith)))
least-smallest p (suc n) [] h l = absurd (let z : ⊥ = omega arith in z)
least-smallest p (suc n) (b ∷ w) h l =
    let q : 0 + (p + n) ≡ length w = omega arith in
    let low : code (b ∷ w) % 4 ^ (0 + (p + n)) ≡ code w = ap (λ (k : ℕ). code (b ∷ w) % 4 ^ k) q ∙ tail_code b w h.1 in
    ap₂ min (first_piece p (suc n) (b ∷ w) h l)
    (sym (least-mod p n 0 (code (b ∷ w))) ∙ (ap (least p n) low ∙ least-smallest p n w h.1 (omega arith)))

-- the minimizer of a word, from its code
pub least-minimizer : (p : ℕ) (w : List ℕ) → Letters w → p ≤ length w → least p (length w - p) (code w) ≡ minimizer p w
unfolding minimizer
least-minimizer p w h l = least-smallest p (length w - p) w h (omega arith)

-- it is the code of p letters
pub minimizer_lt : (p : ℕ) (w : List ℕ) → Letters w → p ≤ length w → minimizer p w < 4 ^ p
minimizer_lt p w h l =
    omega (arith, least-minimizer p w h l, least_low p (length w - p) (code w), mod-lt (code w) (four_pos p))
