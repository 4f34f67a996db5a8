-- Signed permutations and orders are the same: places put the strings into an order (`places-reordered`), and each order is made by places
-- (`reordered-places`). A string after the other goes into its place; and an order is taken apart into where each string stands in it.
use mathlib.Core.Path.{◌≡◌, refl, ap, ap₂, ◌∙◌}
use mathlib.Core.Bool.{Bool, true, false, not}
use mathlib.Core.List.{List, [], ◌∷◌, ◌++◌, map, append-nil}
use Prim.Native.Nat.{ℕ, zero, suc, ◌-◌, ◌≤◌, ◌<◌}
use native.Mathlib.Omega.{arith}
use native.Mathlib.Decide.{ℕ_discrete}
use lib.IntN.{ℤ, pos, negsuc, nat_abs}
use lib.ListN.{length, get_or, length-map}
use Rattle.lists.specs.Choose.{choose}
use Rattle.lists.specs.Every.{All}
use Rattle.lists.specs.Count.{count_from}
use Rattle.lists.proofs.Mapped.{map_at, values_at}
use Rattle.lists.proofs.Count.{length_count}
use Rattle.cover_trails.specs.Counting.{occurs}
use Rattle.cover_trails.specs.Strings.{Ends, turned}
use Rattle.cover_trails.specs.Places.{is_turned, signed, SignedPermutation, turned_by, standing, arranged_to, arranged}
use Rattle.cover_trails.specs.Walks.{Reordered, empty, keep, turn, exchange, both}
use Rattle.cover_trails.proofs.Counting.{occurs_at}
use Rattle.cover_trails.proofs.Orders.{move_in, reordered-left}
use Rattle.cover_trails.proofs.Arranged.{size_signed, turned-signed, standing_here, standing_other, arranged_by_string, permutation_if_used}

-- ─── from places to an order ─────────────────────────────────────────────────

module _ (p : ℤ) (places : List ℤ) (x : Ends) (xs : List Ends) where
  before_place : (n : ℕ) → n < nat_abs p → arranged_to turned n (p ∷ places) (x ∷ xs) ≡ arranged_to turned n places xs
  unfolding arranged_to
  before_place zero l = refl
  before_place (suc n) l =
      ap₂ (λ (L M : List Ends). L ++ M) (before_place n (omega arith)) (standing_other turned (suc n) p places x xs (λ q. omega arith))

  into_place : (n : ℕ) → 1 ≤ nat_abs p → nat_abs p ≤ n
      → Reordered (turned_by turned p x ∷ arranged_to turned n places xs) (arranged_to turned n (p ∷ places) (x ∷ xs))
  unfolding arranged_to
  into_place zero l k = absurd (omega arith)
  into_place (suc n) l k = go (ℕ_discrete (suc n) (nat_abs p)) (into_place n l)
    where
      go : Dec (suc n ≡ nat_abs p)
          → (nat_abs p ≤ n → Reordered (turned_by turned p x ∷ arranged_to turned n places xs) (arranged_to turned n (p ∷ places) (x ∷ xs)))
          → Reordered (turned_by turned p x ∷ (arranged_to turned n places xs ++ standing turned (suc n) places xs))
          (arranged_to turned n (p ∷ places) (x ∷ xs) ++ standing turned (suc n) (p ∷ places) (x ∷ xs))
      go (yes q) ih =
          rw (before_place n (omega arith), standing_here turned (suc n) p places x xs q)
          (move_in (turned_by turned p x) (arranged_to turned n places xs) (standing turned (suc n) places xs))
      go (no q) ih = rw (standing_other turned (suc n) p places x xs q) (reordered-left (standing turned (suc n) places xs) (ih (omega arith)))

turned_first : (p : ℤ) (x : Ends) {L M : List Ends} → Reordered L M → Reordered (x ∷ L) (turned_by turned p x ∷ M)
turned_first (pos n) x r = keep r
turned_first (negsuc n) x r = turn r

nothing_placed : (n : ℕ) → arranged_to turned n [] [] ≡ []
unfolding arranged_to standing
nothing_placed zero = refl
nothing_placed (suc n) = append-nil (arranged_to turned n [] []) ∙ nothing_placed n

placed_to : (n : ℕ) (places : List ℤ) (xs : List Ends) → length places ≡ length xs → All (λ p. (1 ≤ nat_abs p) × (nat_abs p ≤ n)) places
    → Reordered xs (arranged_to turned n places xs)
placed_to n [] [] l h = rw (nothing_placed n) empty
placed_to n [] (x ∷ xs) l h = absurd (omega arith)
placed_to n (p ∷ places) [] l h = absurd (omega arith)
placed_to n (p ∷ places) (x ∷ xs) l h =
    both (turned_first p x (placed_to n places xs (omega arith) h.1)) (into_place p places x xs n h.0.0 h.0.1)

-- signed places make an order and turning
pub places-reordered : (places : List ℤ) (strings : List Ends) → SignedPermutation (length strings) places → Reordered strings (arranged turned places strings)
places-reordered places strings s =
    rw s.number (placed_to (length strings) places strings s.number s.range)

-- ─── from an order to places ─────────────────────────────────────────────────

-- where each string stands in the order, counted from 0, and whether it is turned there
record Located (xs order : List Ends) : Type 0 where
  place : ℕ → ℕ
  turns : ℕ → Bool
  size : length order ≡ length xs
  inside : (i : ℕ) → i < length xs → place i < length xs
  onto : (j : ℕ) → j < length xs → (i : ℕ) × (i < length xs) × (place i ≡ j)
  string : (i : ℕ) → i < length xs → get_or order (place i) (0, 0) ≡ choose (turns i) (turned (get_or xs i (0, 0))) (get_or xs i (0, 0))

-- the first value, then those of f
abbrev first : {A : Type 0} → A → (ℕ → A) → ℕ → A
first a f zero = a
first a f (suc i) = f i

turned_twice : (t u : Bool) (x : Ends) → choose u (turned (choose t (turned x) x)) (choose t (turned x) x) ≡ choose (choose t (not u) u) (turned x) x
turned_twice true true x = refl
turned_twice true false x = refl
turned_twice false true x = refl
turned_twice false false x = refl

-- one string more in front, turned or not
located_first : (t : Bool) (x : Ends) (L M : List Ends) → Located L M → Located (x ∷ L) (choose t (turned x) x ∷ M)
located_first t x L M k = record {
  place = first 0 (λ i. suc (k.place i));
  turns = first t k.turns;
  size = ap suc k.size;
  inside = in_first;
  onto = on_first;
  string = at_first;
}
  where
    in_first : (i : ℕ) → i < suc (length L) → first 0 (λ i. suc (k.place i)) i < suc (length L)
    in_first zero l = omega arith
    in_first (suc i) l = omega (arith, k.inside i (omega arith))

    on_first : (j : ℕ) → j < suc (length L) → (i : ℕ) × (i < suc (length L)) × (first 0 (λ i. suc (k.place i)) i ≡ j)
    on_first zero l = (0, omega arith, refl)
    on_first (suc j) l = let o = k.onto j (omega arith) in (suc o.0, omega (arith, o.1), ap suc o.2)

    at_first : (i : ℕ) → i < suc (length L)
        → get_or (choose t (turned x) x ∷ M) (first 0 (λ i. suc (k.place i)) i) (0, 0)
        ≡ choose (first t k.turns i) (turned (get_or (x ∷ L) i (0, 0))) (get_or (x ∷ L) i (0, 0))
    at_first zero l = refl
    at_first (suc i) l = k.string i (omega arith)

located_swap : (x y : Ends) (L : List Ends) → Located (x ∷ (y ∷ L)) (y ∷ (x ∷ L))
located_swap x y L = record {
  place = swapped;
  turns = λ i. false;
  size = refl;
  inside = in_swap;
  onto = on_swap;
  string = at_swap;
}
  where
    swapped : ℕ → ℕ
    swapped = first 1 (first 0 (λ i. suc (suc i)))

    in_swap : (i : ℕ) → i < suc (suc (length L)) → swapped i < suc (suc (length L))
    in_swap zero l = omega arith
    in_swap (suc zero) l = omega arith
    in_swap (suc (suc i)) l = l

    on_swap : (j : ℕ) → j < suc (suc (length L)) → (i : ℕ) × (i < suc (suc (length L))) × (swapped i ≡ j)
    on_swap zero l = (1, omega arith, refl)
    on_swap (suc zero) l = (0, omega arith, refl)
    on_swap (suc (suc j)) l = (suc (suc j), l, refl)

    at_swap : (i : ℕ) → i < suc (suc (length L)) → get_or (y ∷ (x ∷ L)) (swapped i) (0, 0) ≡ get_or (x ∷ (y ∷ L)) i (0, 0)
    at_swap zero l = refl
    at_swap (suc zero) l = refl
    at_swap (suc (suc i)) l = refl

located_both : (L M N : List Ends) → Located L M → Located M N → Located L N
located_both L M N k q = record {
  place = λ i. q.place (k.place i);
  turns = λ i. choose (k.turns i) (not (q.turns (k.place i))) (q.turns (k.place i));
  size = q.size ∙ k.size;
  inside = λ i l. omega (arith, k.size, q.inside (k.place i) (omega (arith, k.size, k.inside i l)));
  onto = on_both;
  string = at_both;
}
  where
    on_both : (j : ℕ) → j < length L → (i : ℕ) × (i < length L) × (q.place (k.place i) ≡ j)
    on_both j l =
        let a = q.onto j (omega (arith, k.size)) in
        let b = k.onto a.0 (omega (arith, k.size, a.1)) in
        (b.0, b.1, ap q.place b.2 ∙ a.2)

    at_both : (i : ℕ) → i < length L
        → get_or N (q.place (k.place i)) (0, 0)
        ≡ choose (choose (k.turns i) (not (q.turns (k.place i))) (q.turns (k.place i))) (turned (get_or L i (0, 0))) (get_or L i (0, 0))
    at_both i l =
        q.string (k.place i) (omega (arith, k.size, k.inside i l))
        ∙ ap (λ (x : Ends). choose (q.turns (k.place i)) (turned x) x) (k.string i l)
        ∙ turned_twice (k.turns i) (q.turns (k.place i)) (get_or L i (0, 0))

located : {L M : List Ends} → Reordered L M → Located L M
located empty = record {
  place = λ i. i;
  turns = λ i. false;
  size = refl;
  inside = λ i l. l;
  onto = λ j l. (j, l, refl);
  string = λ i l. refl;
}
located (keep {s = x} {L = L} {M = M} r) = located_first false x L M (located r)
located (turn {a = a} {b = b} {L = L} {M = M} r) = located_first true (a, b) L M (located r)
located (exchange {s = x} {t = y} {L = L}) = located_swap x y L
located (both {L = L} {M = M} {N = N} r q) = located_both L M N (located r) (located q)

module _ (xs order : List Ends) (k : Located xs order) where
  place_of : ℕ → ℤ
  place_of i = signed (suc (k.place i)) (k.turns i)

  places_of : List ℤ
  places_of = map place_of (count_from 0 (length xs))

  place_at : (i : ℕ) → i < length xs → get_or places_of i (pos 0) ≡ place_of i
  unfolding places_of
  place_at i l = values_at place_of (pos 0) 0 (length xs) i l ∙ ap place_of (omega arith)

  size_at : (i : ℕ) → i < length xs → nat_abs (get_or places_of i (pos 0)) ≡ suc (k.place i)
  unfolding place_of
  size_at i l = ap nat_abs (place_at i l) ∙ size_signed (suc (k.place i)) (k.turns i)

  places-length : length places_of ≡ length xs
  unfolding places_of
  places-length = length-map (count_from 0 (length xs)) place_of ∙ length_count 0 (length xs)

  places_used : (j : ℕ) → 1 ≤ j → j ≤ length xs → 1 ≤ occurs j (map nat_abs places_of)
  places_used zero low high = omega arith
  places_used (suc j) low high =
      let o = k.onto j (omega arith) in
      let l : o.0 < length (map nat_abs places_of) = rw (length-map places_of nat_abs, places-length) o.1 in
      occurs_at (suc j) (map nat_abs places_of) o.0 l
      (map_at nat_abs (pos 0) places_of o.0 ∙ size_at o.0 o.1 ∙ ap suc o.2)

  places_permute : SignedPermutation (length xs) places_of
  places_permute = permutation_if_used (length xs) places_of places-length places_used

  places_arrange : arranged turned places_of xs ≡ order
  places_arrange = arranged_by_string turned (0, 0) (length xs) places_of xs places_permute refl order k.size stands
    where
      stands : (i : ℕ) → i < length xs → get_or order (nat_abs (get_or places_of i (pos 0)) - 1) (0, 0) ≡ turned_by turned (get_or places_of i (pos 0))
          (get_or xs i (0, 0))
      stands i l =
          let at_i : nat_abs (get_or places_of i (pos 0)) - 1 ≡ k.place i = omega (arith, size_at i l) in
          let t : is_turned (get_or places_of i (pos 0)) ≡ k.turns i = unfold place_of in
          (ap is_turned (place_at i l) ∙ turned-signed (suc (k.place i)) (k.turns i) (omega arith)) in
          rw (at_i, t) (k.string i l)

-- and each order and turning is made by signed places
pub reordered-places : (strings order : List Ends) → Reordered strings order
    → (places : List ℤ) × SignedPermutation (length strings) places × (arranged turned places strings ≡ order)
reordered-places strings order r =
    let k = located r in
    (places_of strings order k, places_permute strings order k, places_arrange strings order k)
