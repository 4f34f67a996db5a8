-- Laws of the regions of a table: what a region holds, how a store acts on it, what stays outside of written regions, and what a lent part makes of the
-- table. Entry by entry, or by the laws of `take` and `drop`. Assumes nothing.
use mathlib.Core.Path.{◌≡◌, refl, sym, ap, ◌∙◌}
use mathlib.Core.Logic.{◌⊎◌, inl, inr, ⊎_elim}
use mathlib.Core.List.{List, [], ◌∷◌, ◌++◌}
use Prim.Native.Nat.{ℕ, suc, ◌+◌, ◌-◌, ◌<◌, ◌≤◌}
use native.Mathlib.Omega.{arith}
use lib.ListN.{length, get_or, take, drop, set, length-drop}
use lib.Seq.{take-suc-set, length-take-le, get_or-take, get_or-drop, drop-set-add, drop-set-lt, take-set-lt, take-set-le, ext_get_or}
use borrow.Rule.Slice.PartMut.{put_mid, same_len_mid, mid_len, take_put, drop_put}
use Rattle.lists.specs.Regions.{part, Apart, Off, Clear, Among, Only}

-- ─── regions that share no entry ─────────────────────────────────────────────

-- the entries of a region that is clear of some are off them
pub clear_off : (rs : List (ℕ × ℕ)) (a n i : ℕ) → Clear rs a n → i < n → Off rs (a + i)
clear_off [] a n i c h = tt
clear_off (r ∷ rs) a n i c h = (
  ⊎_elim (λ (l : a + n ≤ r.0). inl (omega arith)) (λ (l : r.0 + r.1 ≤ a). inr (omega arith)) c.0,
  clear_off rs a n i c.1 h,
)

module _ {A : Type 0} where
  -- two lists are equal by their entries, whatever stands past their ends
  ext : (xs ys : List A) → length xs ≡ length ys → ((i : ℕ) (d : A) → i < length xs → get_or xs i d ≡ get_or ys i d) → xs ≡ ys
  ext [] [] e h = refl
  ext [] (y ∷ ys) e h = absurd (let z : ⊥ = omega arith in z)
  ext (x ∷ xs) ys e h = ext_get_or x (x ∷ xs) ys e (λ i. h i x)

  -- ─── what a region holds ───────────────────────────────────────────────────

  pub part_is : (b n : ℕ) (w : List A) → part b n w ≡ take n (drop b w)
  unfolding part
  part_is b n w = refl

  pub part_length : (b n : ℕ) (w : List A) → b + n ≤ length w → length (part b n w) ≡ n
  unfolding part
  part_length b n w h = length-take-le n (drop b w) (simp length-drop (omega arith))

  -- entry i of a region is entry b + i of the table
  pub part_at : (b n : ℕ) (w : List A) (i : ℕ) (d : A) → i < n → get_or (part b n w) i d ≡ get_or w (b + i) d
  unfolding part
  part_at b n w i d h = get_or-take n (drop b w) i d h ∙ get_or-drop b w i d

  -- ─── a store in a region, and outside of it ────────────────────────────────

  -- an entry stored inside a region
  pub part-set : (b n : ℕ) (w : List A) (i : ℕ) (x : A) → i < n → part b n (set w (b + i) x) ≡ set (part b n w) i x
  unfolding part
  part-set b n w i x h = rw (drop-set-add b w i x) (take-set-lt n (drop b w) i x h)

  -- one entry more behind a part
  pub part_grows : (w : List A) (b n : ℕ) (x : A) → b + n < length w → part b (suc n) (set w (b + n) x) ≡ part b n w ++ (x ∷ [])
  unfolding part
  part_grows w b n x l = rw (drop-set-add b w n x) (take-suc-set (drop b w) n x (simp length-drop (omega arith)))

  -- an entry stored outside it
  pub part-set_off : (b n : ℕ) (w : List A) (i : ℕ) (x : A) → (i < b) ⊎ (b + n ≤ i) → part b n (set w i x) ≡ part b n w
  unfolding part
  part-set_off b n w i x (inl l) = rw (drop-set-lt b w i x l)
  part-set_off b n w i x (inr l) =
      let q : i ≡ b + (i - b) = omega arith in
      rw q (rw (drop-set-add b w (i - b) x) (take-set-le n (drop b w) (i - b) x (omega arith)))

  -- a store in one region leaves another
  pub part-set-other : (a n b m : ℕ) (w : List A) (i : ℕ) (x : A) → Apart a n b m → i < m → part a n (set w (b + i) x) ≡ part a n w
  part-set-other a n b m w i x d h =
      part-set_off a n w (b + i) x (⊎_elim (λ (l : a + n ≤ b). inr (omega arith)) (λ (l : b + m ≤ a). inl (omega arith)) d)

  -- ─── tables that differ in some regions only ───────────────────────────────

  module _ (rs : List (ℕ × ℕ)) where
    pub among_trans : (u v w : List A) → Among rs u v → Among rs v w → Among rs u w
    among_trans u v w p q = record { size = q.size ∙ p.size; rest = λ i d o. q.rest i d o ∙ p.rest i d o }

    -- more regions, or wider ones
    pub among_wider : (ts : List (ℕ × ℕ)) (w v : List A) → Among rs w v → ((i : ℕ) → Off ts i → Off rs i) → Among ts w v
    among_wider ts w v p h = record { size = p.size; rest = λ i d o. p.rest i d (h i o) }

    -- a region that is clear of them is as it was: each entry, and the whole
    pub among_at : (a n : ℕ) (w v : List A) → Among rs w v → Clear rs a n → (i : ℕ) (d : A) → i < n → get_or v (a + i) d ≡ get_or (part a n w) i d
    among_at a n w v p c i d h = p.rest (a + i) d (clear_off rs a n i c h) ∙ sym (part_at a n w i d h)

    pub among_part : (a n : ℕ) (w v : List A) → Among rs w v → Clear rs a n → a + n ≤ length w → part a n v ≡ part a n w
    among_part a n w v p c h =
        ext (part a n v) (part a n w) (lv ∙ sym (part_length a n w h))
        (λ i d l. let k : i < n = omega (arith, lv) in part_at a n v i d k ∙ among_at a n w v p c i d k)
      where
        lv : length (part a n v) ≡ n
        lv = part_length a n v (omega (arith, p.size))

  -- one region
  module _ (b n : ℕ) (w v : List A) (p : Only b n w v) where
    -- a region apart from the one that was written holds what it held
    pub only_part : (a m : ℕ) → Apart a m b n → a + m ≤ length w → part a m v ≡ part a m w
    only_part a m c = among_part ((b, n) ∷ []) a m w v p (c, tt)

  -- ─── a part that was lent, `&mut w[b..b + n]`, is back with the entries ys ──

  module _ (b n : ℕ) (w ys : List A) (e : length ys ≡ n) (h : b + n ≤ length w) where
    -- a part that was lent for writing is all that changes
    pub lent_only : Only b n w (put_mid b (b + n - b) w ys)
    lent_only =
        record {
          size = same_len_mid b (b + n - b) w ys (e ∙ sym (mid_len b (b + n) w h ∙ q));
          rest = λ i d o. ⊎_elim (below i d) (above i d) o.0;
        }
      where
        q : b + n - b ≡ n
        q = omega arith

        below : (i : ℕ) (d : A) → i < b → get_or (put_mid b (b + n - b) w ys) i d ≡ get_or w i d
        below i d l =
            sym (get_or-take b (put_mid b (b + n - b) w ys) i d l)
            ∙ (ap (λ (t : List A). get_or t i d) (take_put b (b + n - b) w ys (omega arith)) ∙ get_or-take b w i d l)

        above : (i : ℕ) (d : A) → b + n ≤ i → get_or (put_mid b (b + n - b) w ys) i d ≡ get_or w i d
        above i d l =
            let s : i ≡ b + n + (i - (b + n)) = omega arith in
            rw s
            (sym (get_or-drop (b + n) (put_mid b (b + n - b) w ys) (i - (b + n)) d)
            ∙ (ap (λ (t : List A). get_or t (i - (b + n)) d) (drop_put b (b + n) w ys (omega arith) h (e ∙ sym q)) ∙ get_or-drop (b + n) w (i - (b + n)) d))
