-- Laws of signed places and of the order they make, for strings of any kind. Assumes nothing.
use mathlib.Core.Path.{◌≡◌, refl, ap, ap₂, sym, ◌∙◌}
use mathlib.Core.Bool.{Bool, true, false}
use mathlib.Core.List.{List, [], ◌∷◌, ◌++◌, map, map-append}
use Prim.Native.Nat.{ℕ, zero, suc, ◌+◌, ◌-◌, ◌≤◌, ◌<◌}
use native.Mathlib.Omega.{arith}
use native.Mathlib.Decide.{ℕ_discrete, dec_lt}
use lib.Dec.{eqb}
use lib.IntN.{ℤ, pos, nat_abs}
use lib.ListN.{length, get_or, take, length-map, length-append, get_or-append}
use lib.Seq.{take-suc, take_all, get_or-append-add}
use borrow.Author.Tests.{eq-eqb, ne_eqb}
use Rattle.lists.specs.Choose.{choose}
use Rattle.lists.specs.Every.{All}
use Rattle.lists.proofs.Every.{all_at, at_all}
use Rattle.lists.proofs.Mapped.{map_at, map_at_below, map-all}
use Rattle.lists.specs.Count.{agree}
use Rattle.cover_trails.specs.Counting.{occurs}
use Rattle.cover_trails.specs.Places.{is_turned, signed, SignedPermutation, turned_by, standing, arranged_to, arranged}
use Rattle.lists.proofs.Agree.{agree_same, agree-other, agree_le}
use Rattle.cover_trails.proofs.Counting.{occurs_at, occurs_where}
use Rattle.cover_trails.proofs.Once.{once_if_used, range_if_used, once_if_apart}

-- ─── a place from its number and its sign ────────────────────────────────────

-- the sign aside, it is the number
pub size_signed : (n : ℕ) (t : Bool) → nat_abs (signed n t) ≡ n
size_signed zero true = refl
size_signed (suc n) true = refl
size_signed n false = refl

-- zero has no sign
pub turned-signed : (n : ℕ) (t : Bool) → 1 ≤ n → is_turned (signed n t) ≡ t
turned-signed zero t l = absurd (omega arith)
turned-signed (suc n) true l = refl
turned-signed (suc n) false l = refl

-- ─── when m places are a signed permutation ──────────────────────────────────

module _ (m : ℕ) (places : List ℤ) (number : length places ≡ m) where
  -- if each of 1 to m is used
  pub permutation_if_used : ((k : ℕ) → 1 ≤ k → k ≤ m → 1 ≤ occurs k (map nat_abs places)) → SignedPermutation m places
  permutation_if_used h =
      let size : length (map nat_abs places) ≡ m = length-map places nat_abs ∙ number in
      record {
        number = number;
        range = at_all (λ p. (1 ≤ nat_abs p) × (nat_abs p ≤ m)) (pos 0) places (λ i l. within_range i l size);
        once = once_if_used m (map nat_abs places) size h;
      }
    where
      within_range : (i : ℕ) → i < length places → length (map nat_abs places) ≡ m → (1 ≤ nat_abs (get_or places i (pos 0)))
          × (nat_abs (get_or places i (pos 0)) ≤ m)
      within_range i l size = rw (map_at nat_abs (pos 0) places i) at (range_if_used m (map nat_abs places) size h i (omega arith))

  -- or if all are from 1 to m and none is used twice
  pub permutation_if_apart : All (λ p. (1 ≤ nat_abs p) × (nat_abs p ≤ m)) places → ((k : ℕ) → occurs k (map nat_abs places) ≤ 1) → SignedPermutation m places
  permutation_if_apart range h = record {
    number = number;
    range = range;
    once = once_if_apart m (map nat_abs places) (length-map places nat_abs ∙ number) (map-all (λ k. (1 ≤ k) × (k ≤ m)) nat_abs places range) h;
  }

-- ─── the strings at one place ────────────────────────────────────────────────

module _ {A : Type 0} (turn : A → A) (k : ℕ) (p : ℤ) (places : List ℤ) (x : A) (xs : List A) where
  -- a string whose place is k stands there
  pub standing_here : k ≡ nat_abs p → standing turn k (p ∷ places) (x ∷ xs) ≡ turned_by turn p x ∷ standing turn k places xs
  unfolding standing
  standing_here e = rw (eq-eqb k (nat_abs p) e)

  -- another does not
  pub standing_other : (k ≡ nat_abs p → ⊥) → standing turn k (p ∷ places) (x ∷ xs) ≡ standing turn k places xs
  unfolding standing
  standing_other h = rw (ne_eqb k (nat_abs p) h)

module _ {A : Type 0} (turn : A → A) (k : ℕ) where
  -- where no string has the place, none stands there
  standing_none : (places : List ℤ) (xs : List A) → occurs k (map nat_abs places) ≡ 0 → standing turn k places xs ≡ []
  unfolding standing occurs
  standing_none [] xs h = refl
  standing_none (p ∷ places) [] h = refl
  standing_none (p ∷ places) (x ∷ xs) h =
      let off : k ≡ nat_abs p → ⊥ = λ e. omega (arith, agree_same k (nat_abs p) e) in
      standing_other turn k p places x xs off ∙ standing_none places xs (omega arith)

  -- as many stand there as have the place
  pub length_standing : (places : List ℤ) (xs : List A) → length xs ≡ length places → length (standing turn k places xs) ≡ occurs k (map nat_abs places)
  unfolding occurs standing
  length_standing [] xs l = refl
  length_standing (p ∷ places) [] l = absurd (omega arith)
  length_standing (p ∷ places) (x ∷ xs) l = go (ℕ_discrete k (nat_abs p)) (length_standing places xs (omega arith))
    where
      go : Dec (k ≡ nat_abs p) → length (standing turn k places xs) ≡ occurs k (map nat_abs places)
          → length (standing turn k (p ∷ places) (x ∷ xs)) ≡ agree k (nat_abs p) + occurs k (map nat_abs places)
      go (yes e) ih = rw (standing_here turn k p places x xs e) (omega (arith, agree_same k (nat_abs p) e))
      go (no q) ih = rw (standing_other turn k p places x xs q) (omega (arith, agree-other k (nat_abs p) q))

  -- a place that is used once has its one string
  pub standing_at : (d : A) (places : List ℤ) (xs : List A) → length xs ≡ length places → occurs k (map nat_abs places) ≡ 1
      → (i : ℕ) → i < length places → nat_abs (get_or places i (pos 0)) ≡ k
      → standing turn k places xs ≡ turned_by turn (get_or places i (pos 0)) (get_or xs i d) ∷ []
  unfolding occurs
  standing_at d [] xs l o i b e = absurd (omega arith)
  standing_at d (p ∷ places) [] l o i b e = absurd (omega arith)
  standing_at d (p ∷ places) (x ∷ xs) l o zero b e =
      standing_here turn k p places x xs (sym e)
      ∙ ap (λ (L : List A). turned_by turn p x ∷ L) (standing_none places xs (omega (arith, agree_same k (nat_abs p) (sym e))))
  standing_at d (p ∷ places) (x ∷ xs) l o (suc i) b e =
      let later = occurs_at k (map nat_abs places) i (rw (length-map places nat_abs) (omega arith)) (map_at nat_abs (pos 0) places i ∙ e) in
      standing_other turn k p places x xs (λ q. omega (arith, agree_same k (nat_abs p) q))
      ∙ standing_at d places xs (omega arith) (omega (arith, agree_le k (nat_abs p))) i (omega arith) e

-- ─── where each string stands in its new order ───────────────────────────────

module _ {A : Type 0} (turn : A → A) (d : A) (m : ℕ) (places : List ℤ) (xs : List A) (s : SignedPermutation m places) (l : length xs ≡ m) where
  one_standing : (i n : ℕ) → i < m → nat_abs (get_or places i (pos 0)) ≡ suc n → n < m
      → standing turn (suc n) places xs ≡ turned_by turn (get_or places i (pos 0)) (get_or xs i d) ∷ []
  one_standing i n b e k =
      standing_at turn (suc n) d places xs (omega (arith, s.number)) (s.once (suc n) (omega arith) (omega arith)) i (omega (arith, s.number)) e

  length-arranged_to : (n : ℕ) → n ≤ m → length (arranged_to turn n places xs) ≡ n
  unfolding arranged_to
  length-arranged_to zero k = refl
  length-arranged_to (suc n) k =
      omega (
        arith,
        length-append (arranged_to turn n places xs) (standing turn (suc n) places xs),
        length-arranged_to n (omega arith),
        length_standing turn (suc n) places xs (omega (arith, s.number)),
        s.once (suc n) (omega arith) k,
      )

  -- the new order has as many strings
  pub length-arranged : length (arranged turn places xs) ≡ m
  length-arranged = length-arranged_to (length places) (omega (arith, s.number)) ∙ s.number

  arranged_to_at : (i n : ℕ) → i < m → nat_abs (get_or places i (pos 0)) ≡ suc n → (k : ℕ) → n < k → k ≤ m
      → get_or (arranged_to turn k places xs) n d ≡ turned_by turn (get_or places i (pos 0)) (get_or xs i d)
  unfolding arranged_to
  arranged_to_at i n b e zero low high = absurd (omega arith)
  arranged_to_at i n b e (suc k) low high = go (dec_lt n k) (arranged_to_at i n b e k)
    where
      size : length (arranged_to turn k places xs) ≡ k
      size = length-arranged_to k (omega arith)

      go : Dec (n < k) → (n < k → k ≤ m → get_or (arranged_to turn k places xs) n d ≡ turned_by turn (get_or places i (pos 0)) (get_or xs i d))
          → get_or (arranged_to turn k places xs ++ standing turn (suc k) places xs) n d ≡ turned_by turn (get_or places i (pos 0)) (get_or xs i d)
      go (yes q) ih = get_or-append (arranged_to turn k places xs) (standing turn (suc k) places xs) d n (omega (arith, size)) ∙ ih q (omega arith)
      go (no q) ih =
          let here : n ≡ length (arranged_to turn k places xs) + 0 = omega (arith, size) in
          rw (here, get_or-append-add, one_standing i k b (omega arith) (omega arith))

  -- string i stands at its place, turned where the place says so
  pub arranged_at : (i : ℕ) → i < m
      → get_or (arranged turn places xs) (nat_abs (get_or places i (pos 0)) - 1) d ≡ turned_by turn (get_or places i (pos 0)) (get_or xs i d)
  arranged_at i b =
      let r = all_at (λ p. (1 ≤ nat_abs p) × (nat_abs p ≤ m)) places s.range i (pos 0) (omega (arith, s.number)) in
      arranged_to_at i (nat_abs (get_or places i (pos 0)) - 1) b (omega (arith, r)) (length places) (omega (arith, r, s.number)) (omega (arith, s.number))

  -- An order that has at each place the string of that place is the new order.
  module _ (order : List A) (o : length order ≡ m)
      (has : (n : ℕ) → n < m
      → (i : ℕ) × (i < m) × (nat_abs (get_or places i (pos 0)) ≡ suc n) × (get_or order n d ≡ turned_by turn (get_or places i (pos 0)) (get_or xs i d))) where
    arranged_to_is : (n : ℕ) → n ≤ m → arranged_to turn n places xs ≡ take n order
    unfolding arranged_to
    arranged_to_is zero k = refl
    arranged_to_is (suc n) k =
        let u = has n k in
        ap₂ (λ (L M : List A). L ++ M) (arranged_to_is n (omega arith)) (one_standing u.0 n u.1 u.2 k ∙ ap (λ (x : A). x ∷ []) (sym u.3))
        ∙ sym (take-suc order n d (omega arith))

    -- the new order is that order
    pub arranged_by_place : arranged turn places xs ≡ order
    arranged_by_place = arranged_to_is (length places) (omega (arith, s.number)) ∙ take_all (length places) order (omega (arith, s.number))

  -- And so is one in which each string stands at its place.
  pub arranged_by_string : (order : List A) → length order ≡ m
      → ((i : ℕ) → i < m → get_or order (nat_abs (get_or places i (pos 0)) - 1) d ≡ turned_by turn (get_or places i (pos 0)) (get_or xs i d))
      → arranged turn places xs ≡ order
  arranged_by_string order o stands = arranged_by_place order o has
    where
      has : (n : ℕ) → n < m
          → (i : ℕ) × (i < m) × (nat_abs (get_or places i (pos 0)) ≡ suc n) × (get_or order n d ≡ turned_by turn (get_or places i (pos 0)) (get_or xs i d))
      has n k =
          let u = occurs_where (suc n) (map nat_abs places) (omega (arith, s.once (suc n) (omega arith) k)) in
          let b : u.0 < m = omega (arith, u.1, length-map places nat_abs, s.number) in
          let e : nat_abs (get_or places u.0 (pos 0)) ≡ suc n = sym (map_at nat_abs (pos 0) places u.0) ∙ u.2 in
          let at_n : nat_abs (get_or places u.0 (pos 0)) - 1 ≡ n = omega arith in
          (u.0, b, e, rw at_n at (stands u.0 b))

-- ─── places from a list of the strings in their new order ────────────────────

-- the string that a mark names, as it wants it
abbrev pub marked : {A : Type 0} → (A → A) → A → List A → ℕ × Bool → A
marked turn d xs k = choose k.1 (turn (get_or xs k.0 d)) (get_or xs k.0 d)

-- The list `marks` names the string at each place and says whether it is turned there; each named string has got its place.
module _ {A : Type 0} (turn : A → A) (d : A) (m : ℕ) (places : List ℤ) (xs : List A) (marks : List (ℕ × Bool))
    (number : length places ≡ m) (l : length xs ≡ m) (o : length marks ≡ m)
    (placed : (n : ℕ) → n < m
    → ((get_or marks n (0, false)).0 < m) × (get_or places (get_or marks n (0, false)).0 (pos 0) ≡ signed (suc n) (get_or marks n (0, false)).1)) where
  -- the places are a signed permutation
  pub marked_permutation : SignedPermutation m places
  marked_permutation = permutation_if_used m places number used
    where
      used : (k : ℕ) → 1 ≤ k → k ≤ m → 1 ≤ occurs k (map nat_abs places)
      used zero low high = omega arith
      used (suc n) low high =
          let u = placed n high in
          occurs_at (suc n) (map nat_abs places) (get_or marks n (0, false)).0 (omega (arith, u.0, length-map places nat_abs))
          (map_at nat_abs (pos 0) places (get_or marks n (0, false)).0 ∙ ap nat_abs u.1 ∙ size_signed (suc n) (get_or marks n (0, false)).1)

  -- and they make the order that the marks name
  pub marked-arranged : arranged turn places xs ≡ map (marked turn d xs) marks
  marked-arranged = arranged_by_place turn d m places xs marked_permutation l (map (marked turn d xs) marks) (length-map marks (marked turn d xs) ∙ o) has
    where
      has : (n : ℕ) → n < m
          → (i : ℕ) × (i < m) × (nat_abs (get_or places i (pos 0)) ≡ suc n)
          × (get_or (map (marked turn d xs) marks) n d ≡ turned_by turn (get_or places i (pos 0)) (get_or xs i d))
      has n k =
          let u = placed n k in
          let t = ap is_turned u.1 ∙ turned-signed (suc n) (get_or marks n (0, false)).1 (omega arith) in (
            (get_or marks n (0, false)).0,
            u.0,
            ap nat_abs u.1 ∙ size_signed (suc n) (get_or marks n (0, false)).1,
            rw t (map_at_below (marked turn d xs) d (0, false) marks n (omega arith)),
          )

-- ─── what is done to each string ─────────────────────────────────────────────

-- can be done before or after they are arranged
module _ {A B : Type 0} (turn_a : A → A) (turn_b : B → B) (f : A → B) (h : (x : A) → f (turn_a x) ≡ turn_b (f x)) where
  map_standing : (k : ℕ) (places : List ℤ) (xs : List A) → map f (standing turn_a k places xs) ≡ standing turn_b k places (map f xs)
  unfolding standing
  map_standing k [] xs = refl
  map_standing k (p ∷ places) [] = refl
  map_standing k (p ∷ places) (x ∷ xs) = go (eqb k (nat_abs p)) (is_turned p) (map_standing k places xs)
    where
      go : (t u : Bool) → map f (standing turn_a k places xs) ≡ standing turn_b k places (map f xs)
          → map f (choose t (choose u (turn_a x) x ∷ standing turn_a k places xs) (standing turn_a k places xs))
          ≡ choose t (choose u (turn_b (f x)) (f x) ∷ standing turn_b k places (map f xs)) (standing turn_b k places (map f xs))
      go true true ih = ap₂ (λ (y : B) (L : List B). y ∷ L) (h x) ih
      go true false ih = ap (λ (L : List B). f x ∷ L) ih
      go false u ih = ih

  map-arranged_to : (n : ℕ) (places : List ℤ) (xs : List A) → map f (arranged_to turn_a n places xs) ≡ arranged_to turn_b n places (map f xs)
  unfolding arranged_to
  map-arranged_to zero places xs = refl
  map-arranged_to (suc n) places xs =
      map-append f (arranged_to turn_a n places xs) (standing turn_a (suc n) places xs)
      ∙ ap₂ (λ (L M : List B). L ++ M) (map-arranged_to n places xs) (map_standing (suc n) places xs)

  -- so it may be done before or after the strings are arranged
  pub map-arranged : (places : List ℤ) (xs : List A) → map f (arranged turn_a places xs) ≡ arranged turn_b places (map f xs)
  map-arranged places xs = map-arranged_to (length places) places xs
