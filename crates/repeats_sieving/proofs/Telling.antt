-- The loops of a sieve. Telling: one counter grows, and the counters of other slots stay. Keeping: the ids that are kept so far stand in front, and those that
-- are not looked at stand where they stood. Assumes nothing.
use mathlib.Core.Path.{◌≡◌, refl, sym, ap, ap₂, ◌∙◌}
use mathlib.Core.Logic.{◌⊎◌, inl, inr, ⊎_elim}
use mathlib.Core.List.{List, [], ◌∷◌, ◌++◌}
use Prim.Native.Nat.{ℕ, ◌+◌, ◌-◌, ◌*◌, ◌/◌, ◌%◌, ◌^◌, ◌<◌, ◌≤◌}
use native.Mathlib.Nat.{zero-div, mul-le-mul_right, suc-mul, div-lt_iff_lt-mul}
use native.Mathlib.Omega.{arith}
use lib.ListN.{length, get_or, take, set, length-append}
use lib.Seq.{get_or-set_same, get_or-set_other, take-length, length-take-le}
use Rattle.std.proofs.lemmas.List.{take-set, take_more_set}
use Rattle.lists.specs.Pick.{pick}
use Rattle.lists.proofs.Compare.{lt_or_le, eq_or_ne}
use Rattle.lists.proofs.Picks.{pick_nil, pick_take_here, pick_take-other}
use Rattle.repeats_sieving.specs.Kept.{to_two, told_of, kept}
use Rattle.repeats_sieving.specs.Slots.{two_bits, bit_of, counter_of, Told, Grown, Kept, slot_of}
use Rattle.repeats_sieving.proofs.Kept.{to_two_none, to_two_le, to_two_many, to_two_more, told_is, kept_is}
use Rattle.repeats_sieving.proofs.TwoBits.{grow_here, grow_above, grow_below}

-- ─── slots ───────────────────────────────────────────────────────────────────

-- a product as the code makes it
pub product_le : (x a : ℕ) → x < 2 ^ 32 → a < 2 ^ 31 → x * a ≤ 2 ^ 63 - 2 ^ 32
product_le x a h l = omega (arith, mul-le-mul_right a (let q : x ≤ 4294967296 = omega arith in q))

pub scaled_lt : (h slots : ℕ) → h < 4294967296 → 0 < slots → h * slots < slots * 4294967296
scaled_lt h slots l p = omega (arith, mul-le-mul_right slots l, suc-mul h slots)

-- there are so many slots
pub slot_lt : (slots a c hi lo : ℕ) → 0 < slots → slot_of slots a c hi lo < slots
unfolding slot_of
slot_lt slots a c hi lo p =
    (div-lt_iff_lt-mul {k = 4294967296} (omega arith)).1 (scaled_lt ((lo * a + hi * c) / 65536 % 4294967296) slots (omega arith) p)

-- ─── one counter ─────────────────────────────────────────────────────────────

-- a counter that is full stays
pub grown_stay : (v e : ℕ) → 2 ≤ two_bits v e → Grown v e v
grown_stay v e h =
    record {
      here = λ l. let q : two_bits v e ≡ 2 = omega arith in q ∙ sym (to_two_many (two_bits v e + 1) (omega arith));
      other = λ g d. refl;
    }

-- one that is not grows
pub grown_more : (v e : ℕ) → two_bits v e < 2 → Grown v e (v + 2 ^ e)
unfolding to_two
grown_more v e h =
    record {
      here = λ l. grow_here v e (omega arith) ∙ small (two_bits v e) h;
      other = λ g d. ⊎_elim (λ (l : e + 2 ≤ g). ap (λ (q : ℕ). q % 4) (grow_above v e (omega arith) g l)) (λ (l : g + 2 ≤ e). grow_below v e g l) d;
    }
  where
    small : (q : ℕ) → q < 2 → q + 1 ≡ to_two (q + 1)
    small q l = ⊎_elim (λ (z : q ≡ 0). rw z) (λ (n : q ≡ 0 → ⊥). let z : q ≡ 1 = omega arith in rw z) (eq_or_ne q 0)

-- ─── telling ─────────────────────────────────────────────────────────────────

-- a table of zeros tells of no ids
pub told_none : (f : ℕ → ℕ) (entries : ℕ) (table : List ℕ) → ((i : ℕ) → i < entries → get_or table i 0 ≡ 0) → Told f (16 * entries) [] table
told_none f entries table h s l =
    ap (λ (v : ℕ). v / 2 ^ bit_of s % 4) (h (s / 16) (omega arith))
    ∙ (ap (λ (v : ℕ). v % 4) (zero-div (2 ^ bit_of s)) ∙ sym (told_is f [] s ∙ (ap (λ (xs : List ℕ). to_two (length xs)) (pick_nil f s) ∙ to_two_none)))

-- one id more, of slot s, whose counter has grown
module _ (f : ℕ → ℕ) (entries : ℕ) (xs table : List ℕ) (i s r : ℕ) (h : i < length xs) (size : length table ≡ entries) (e : f (get_or xs i 0) ≡ s)
    (l : s < 16 * entries) (t : Told f (16 * entries) (take i xs) table) (g : Grown (get_or table (s / 16) 0) (bit_of s) r)
  where
    own : told_of f (take (i + 1) xs) s ≡ to_two (told_of f (take i xs) s + 1)
    own =
        told_is f (take (i + 1) xs) s
        ∙ (ap (λ (ys : List ℕ). to_two (length ys)) (pick_take_here f i xs 0 h s e)
        ∙ (ap to_two (length-append (pick f s (take i xs)) (get_or xs i 0 ∷ []))
        ∙ (sym (to_two_more (length (pick f s (take i xs)))) ∙ ap (λ (n : ℕ). to_two (n + 1)) (sym (told_is f (take i xs) s)))))

    low : counter_of table s ≤ 2
    low = rw (t s l, told_is f (take i xs) s) (to_two_le (length (pick f s (take i xs))))

    other : (d : ℕ) → (d ≡ s → ⊥) → told_of f (take (i + 1) xs) d ≡ told_of f (take i xs) d
    other d n =
        told_is f (take (i + 1) xs) d
        ∙ (ap (λ (ys : List ℕ). to_two (length ys)) (pick_take-other f i xs 0 h d (λ q. n (sym q ∙ e))) ∙ sym (told_is f (take i xs) d))

    beside : (d : ℕ) → (d ≡ s → ⊥) → d / 16 ≡ s / 16 → (bit_of s + 2 ≤ bit_of d) ⊎ (bit_of d + 2 ≤ bit_of s)
    beside d n q =
        ⊎_elim (λ (a : s % 16 < d % 16). inl (omega arith))
        (λ (a : d % 16 ≤ s % 16). ⊎_elim (λ (b : d % 16 < s % 16). inr (omega arith)) (λ (b : s % 16 ≤ d % 16). absurd (n (omega arith)))
        (lt_or_le (d % 16) (s % 16))) (lt_or_le (s % 16) (d % 16))

    entry : get_or (set table (s / 16) r) (s / 16) 0 ≡ r
    entry = get_or-set_same table (s / 16) r 0 (omega arith)

    counter_other : (d : ℕ) → (d ≡ s → ⊥) → counter_of (set table (s / 16) r) d ≡ counter_of table d
    counter_other d n =
        ⊎_elim
        (λ (q : d / 16 ≡ s / 16).
        ap (λ (j : ℕ). two_bits (get_or (set table (s / 16) r) j 0) (bit_of d)) q
        ∙ (ap (λ (v : ℕ). two_bits v (bit_of d)) entry ∙ (g.other (bit_of d) (beside d n q) ∙ ap (λ (j : ℕ). two_bits (get_or table j 0) (bit_of d)) (sym q))))
        (λ (q : d / 16 ≡ s / 16 → ⊥). ap (λ (v : ℕ). two_bits v (bit_of d)) (get_or-set_other table (s / 16) (d / 16) r 0 q))
        (eq_or_ne (d / 16) (s / 16))

    pub told_more : Told f (16 * entries) (take (i + 1) xs) (set table (s / 16) r)
    told_more d ld =
        ⊎_elim
        (λ (q : d ≡ s).
        rw q (ap (λ (v : ℕ). two_bits v (bit_of s)) entry ∙ (g.here low ∙ (ap (λ (n : ℕ). to_two (n + 1)) (t s l) ∙ sym own))))
        (λ (n : d ≡ s → ⊥). counter_other d n ∙ (t d ld ∙ sym (other d n)))
        (eq_or_ne d s)

-- ─── keeping ─────────────────────────────────────────────────────────────────

-- Of the ids xs before and ys after, the first i were looked at, and o of them are kept, in front.
pub record Keeping (f : ℕ → ℕ) (xs ys : List ℕ) (i o : ℕ) : Type 0 where
  pub below : o ≤ i
  pub front : take o ys ≡ pick (λ x. told_of f xs (f x)) 2 (take i xs)
  pub behind : (j : ℕ) → i ≤ j → get_or ys j 0 ≡ get_or xs j 0

module _ (f : ℕ → ℕ) (xs : List ℕ) where
  pub keeping_none : Keeping f xs xs 0 0
  keeping_none = record { below = omega arith; front = sym (pick_nil (λ x. told_of f xs (f x)) 2); behind = λ j l. refl }

  module _ (ys : List ℕ) (i o q : ℕ) (k : Keeping f xs ys i o) (h : i < length xs) (size : length ys ≡ length xs)
      (t : q ≡ told_of f xs (f (get_or ys i 0)) / 2)
    where
      abbrev x : ℕ
      x = get_or ys i 0

      e : get_or xs i 0 ≡ x
      e = sym (k.behind i (omega arith))

      take_it : told_of f xs (f x) ≡ 2 → take (o + 1) (set ys o x) ≡ pick (λ y. told_of f xs (f y)) 2 (take (i + 1) xs)
      take_it a =
          take_more_set ys o x (omega (arith, k.below))
          ∙ (ap₂ (λ (l : List ℕ) (y : ℕ). l ++ (y ∷ [])) k.front (sym e)
          ∙ sym (pick_take_here (λ y. told_of f xs (f y)) i xs 0 h 2 (ap (λ (y : ℕ). told_of f xs (f y)) e ∙ a)))

      leave_it : (told_of f xs (f x) ≡ 2 → ⊥) → take o (set ys o x) ≡ pick (λ y. told_of f xs (f y)) 2 (take (i + 1) xs)
      leave_it a =
          take-set ys o x
          ∙ (k.front ∙ sym (pick_take-other (λ y. told_of f xs (f y)) i xs 0 h 2 (λ z. a (ap (λ (y : ℕ). told_of f xs (f y)) (sym e) ∙ z))))

      told_low : told_of f xs (f x) ≤ 2
      told_low = rw (told_is f xs (f x)) (to_two_le (length (pick f (f x) xs)))

      front_next : take (o + q) (set ys o x) ≡ pick (λ y. told_of f xs (f y)) 2 (take (i + 1) xs)
      front_next =
          ⊎_elim (λ (a : told_of f xs (f x) ≡ 2). let z : q ≡ 1 = omega (arith, told_low) in rw z (take_it a))
          (λ (a : told_of f xs (f x) ≡ 2 → ⊥). let z : o + q ≡ o = omega (arith, told_low) in rw z (leave_it a))
          (eq_or_ne (told_of f xs (f x)) 2)

      pub keeping_next : Keeping f xs (set ys o x) (i + 1) (o + q)
      keeping_next =
          record {
            below = omega (arith, told_low, k.below);
            front = front_next;
            behind = λ j l. get_or-set_other ys o j x 0 (λ z. let y : ⊥ = omega (arith, k.below) in y) ∙ k.behind j (omega arith);
          }

  -- once all were looked at
  pub keeping_all : (ys : List ℕ) (o : ℕ) → Keeping f xs ys (length xs) o → length ys ≡ length xs → Kept f xs ys o
  keeping_all ys o k size =
      let p : take o ys ≡ kept f xs = k.front ∙ (ap (pick (λ x. told_of f xs (f x)) 2) (take-length xs) ∙ sym (kept_is f xs)) in
      record { count = sym (length-take-le o ys (omega (arith, k.below))) ∙ ap length p; left = p }
