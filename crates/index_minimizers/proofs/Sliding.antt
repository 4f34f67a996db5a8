-- Laws of the least piece of a code: how a loop finds it, and what becomes of it when the code rolls on by one letter. Assumes nothing.
use mathlib.Core.Path.{◌≡◌, refl, sym, ap, ap₂, ◌∙◌, subst}
use Prim.Native.Nat.{ℕ, zero, suc, ◌+◌, ◌-◌, ◌*◌, ◌/◌, ◌%◌, ◌^◌, ◌≤◌, ◌<◌, min}
use native.Mathlib.Decide.{dec_lt}
use native.Mathlib.Nat.{one-le-pow, mod-lt}
use native.Mathlib.Omega.{arith}
use lib.Arith.{mod-mul, digits_mod, digits_div}
use lib.Dec.{lit≤}
use lib.Pow.{pow-add, shr-shr}
use Rattle.words.specs.Turned.{rolled}
use Rattle.words.proofs.Rolling.{four_two}
use Rattle.index_minimizers.specs.Least.{least}

pub four_pos : (k : ℕ) → 0 < 4 ^ k
four_pos k = one-le-pow k 4 (lit≤ tt)

-- ─── one piece ───────────────────────────────────────────────────────────────

-- the piece before no letters is the last one
pub last_piece : (p c : ℕ) → c / 4 ^ 0 % 4 ^ p ≡ c % 4 ^ p
last_piece p c = let z : c / 4 ^ 0 ≡ c = omega arith in ap (λ (x : ℕ). x % 4 ^ p) z

-- a piece does not see the letters before it
piece_mod : (p j r c : ℕ) → c % 4 ^ (r + (p + j)) / 4 ^ j % 4 ^ p ≡ c / 4 ^ j % 4 ^ p
piece_mod p j r c =
    let q : r + (p + j) ≡ (r + p) + j = omega arith in
    ap (λ (n : ℕ). c % n / 4 ^ j % 4 ^ p) (ap (λ (n : ℕ). 4 ^ n) q ∙ pow-add 4 (r + p) j)
    ∙ (ap (λ (n : ℕ). n / 4 ^ j % 4 ^ p) (mod-mul c (four_pos (r + p)) (four_pos j))
    ∙ (ap (λ (n : ℕ). n % 4 ^ p) (digits_div (c / 4 ^ j % 4 ^ (r + p)) (mod-lt c (four_pos j)))
    ∙ (ap (λ (n : ℕ). c / 4 ^ j % n % 4 ^ p) (pow-add 4 r p)
    ∙ (ap (λ (n : ℕ). n % 4 ^ p) (mod-mul (c / 4 ^ j) (four_pos r) (four_pos p)) ∙ digits_mod (c / 4 ^ j / 4 ^ p % 4 ^ r) (mod-lt (c / 4 ^ j) (four_pos p))))))

-- with one letter more behind, a piece stands one letter further in front
pub letter_behind : (j c x : ℕ) → x < 4 → (c * 4 + x) / 4 ^ suc j ≡ c / 4 ^ j
letter_behind j c x h =
    let e : (c * 4 + x) / 4 ≡ c = omega arith in
    let m : 4 ^ suc j ≡ 2 ^ (2 + 2 * j) = four_two (suc j) ∙ ap (λ (n : ℕ). 2 ^ n) (omega arith) in
    ap (λ (n : ℕ). (c * 4 + x) / n) m
    ∙ (sym (shr-shr (c * 4 + x) 2 (2 * j)) ∙ (ap (λ (n : ℕ). n / 2 ^ (2 * j)) e ∙ ap (λ (n : ℕ). c / n) (sym (four_two j))))

-- ─── the least piece ─────────────────────────────────────────────────────────

-- one piece: the last
pub least_end : (p c : ℕ) → least p 0 c ≡ c % 4 ^ p
unfolding least
least_end p c = refl

-- one piece more in front: it, or the least of those behind it
pub least_step : (p j n c : ℕ) → n ≡ j + 1 → least p n c ≡ min (c / 4 ^ n % 4 ^ p) (least p j c)
unfolding least
least_step p j n c h =
    let q : suc j ≡ n = omega arith in
    subst (λ (i : ℕ). least p i c ≡ min (c / 4 ^ i % 4 ^ p) (least p j c)) q refl

-- it is no larger than the last piece
pub least_low : (p n c : ℕ) → least p n c ≤ c % 4 ^ p
unfolding least
least_low p zero c = omega arith
least_low p (suc n) c = omega (arith, least_low p n c)

-- it does not see the letters before the last n + p
pub least-mod : (p n r c : ℕ) → least p n (c % 4 ^ (r + (p + n))) ≡ least p n c
unfolding least
least-mod p zero r c =
    sym (last_piece p (c % 4 ^ (r + (p + 0)))) ∙ (piece_mod p 0 r c ∙ last_piece p c)
least-mod p (suc n) r c =
    let q : r + (p + suc n) ≡ suc r + (p + n) = omega arith in
    ap₂ min (piece_mod p (suc n) r c) (ap (λ (k : ℕ). least p n (c % 4 ^ k)) q ∙ least-mod p n (suc r) c)

-- one letter more: the new last piece, and the pieces of before
least_more : (p n c x : ℕ) → x < 4 → least p (suc n) (c * 4 + x) ≡ min ((c * 4 + x) % 4 ^ p) (least p n c)
unfolding least
least_more p zero c x h = omega (arith, ap (λ (y : ℕ). y % 4 ^ p) (letter_behind 0 c x h), last_piece p c)
least_more p (suc n) c x h = omega (arith, least_more p n c x h, ap (λ (y : ℕ). y % 4 ^ p) (letter_behind (suc n) c x h))

-- ─── from one k-mer to the next ──────────────────────────────────────────────

-- v is the least piece of c, and d is c rolled on by the letter x
module _ (p n v c d x : ℕ) (is : v ≡ least p n c) (h : x < 4) (next : d ≡ rolled (n + p) c x) where
  last_new : d % 4 ^ p ≡ (c * 4 + x) % 4 ^ p
  last_new =
      let q : n + p ≡ n + (p + 0) = omega arith in
      ap (λ (y : ℕ). y % 4 ^ p) (next ∙ ap (λ (k : ℕ). rolled k c x) q)
      ∙ (sym (last_piece p (rolled (n + (p + 0)) c x)) ∙ (piece_mod p 0 n (c * 4 + x) ∙ last_piece p (c * 4 + x)))

  -- the new piece comes in, the first piece of c goes out
  least-rolled : 0 < n → least p n d ≡ min (d % 4 ^ p) (least p (n - 1) c)
  least-rolled l =
      let q : n + p ≡ 0 + (p + n) = omega arith in
      let s : n ≡ suc (n - 1) = omega arith in
      ap (least p n) (next ∙ ap (λ (k : ℕ). rolled k c x) q)
      ∙ (least-mod p n 0 (c * 4 + x)
      ∙ (ap (λ (k : ℕ). least p k (c * 4 + x)) s ∙ (least_more p (n - 1) c x h ∙ ap (λ (y : ℕ). min y (least p (n - 1) c)) (sym last_new))))

  -- a new piece that is no larger is the least
  pub new_least : d % 4 ^ p ≤ v → d % 4 ^ p ≡ least p n d
  new_least l = go (dec_lt 0 n)
    where
      go : Dec (0 < n) → d % 4 ^ p ≡ least p n d
      go (yes g) = omega (arith, least-rolled g, is, least_step p (n - 1) n c (omega arith))
      go (no g) = let q : n ≡ 0 = omega arith in sym (least_end p d) ∙ ap (λ (k : ℕ). least p k d) (sym q)

  -- where the new piece is larger and the first piece of c was not the least, the least stays
  pub old_least : v < d % 4 ^ p → (c / 4 ^ n % 4 ^ p ≡ v → ⊥) → v ≡ least p n d
  old_least l g = go (dec_lt 0 n)
    where
      go : Dec (0 < n) → v ≡ least p n d
      go (yes k) = omega (arith, least-rolled k, is, least_step p (n - 1) n c (omega arith))
      go (no k) =
          let q : n ≡ 0 = omega arith in
          absurd (g (ap (λ (i : ℕ). c / 4 ^ i % 4 ^ p) q ∙ (last_piece p c ∙ sym (is ∙ (ap (λ (i : ℕ). least p i c) q ∙ least_end p c)))))
