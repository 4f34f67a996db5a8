-- Laws of `put` and `fill`, and the invariant of every loop that fills a table. Assumes nothing.
use mathlib.Core.Path.{◌≡◌, refl, sym, ap, ◌∙◌, subst}
use mathlib.Core.List.{List, [], ◌∷◌, ◌++◌, append_assoc}
use Prim.Native.Nat.{ℕ, suc, ◌+◌, ◌<◌, ◌≤◌}
use native.Mathlib.Nat.{add-suc, suc-add, zero-add, add-zero}
use native.Mathlib.Numerals.{add-one}
use native.Mathlib.Omega.{arith}
use lib.ListN.{length, take, drop, set, get_or, take-append-drop, length-set, length-append, length-drop}
use lib.Seq.{take-suc-set, drop-set-lt, drop-cons, drop-drop, take_at, drop_at, length-take-le}
use Rattle.lists.specs.Fill.{put, fill}

-- one entry more, as a loop's index counts
pub drop_next : {A : Type 0} (xs : List A) (i : ℕ) (d : A) → i < length xs → drop i xs ≡ get_or xs i d ∷ drop (i + 1) xs
drop_next xs i d h = rw add-one (drop-cons xs i d h)

module _ {A : Type 0} where
  pub put_start : (xs old : List A) → put 0 xs old ≡ fill xs old
  put_start xs old = rw zero-add refl

  put_none : (at : ℕ) (old : List A) → put at [] old ≡ old
  put_none at old = rw add-zero (take-append-drop at old)

  -- one entry stored and the rest from there on
  pub put_next : (at : ℕ) (old xs : List A) (x : A) → at < length old → put (at + 1) xs (set old at x) ≡ put at (x ∷ xs) old
  put_next at old xs x h =
      let l : at < suc at + length xs = omega arith in
      rw (add-one, take-suc-set, drop-set-lt, suc-add, add-suc) (append_assoc (take at old) (x ∷ []) (xs ++ drop (suc (at + length xs)) old))

  pub length_fill : (xs old : List A) → length xs ≤ length old → length (fill xs old) ≡ length old
  length_fill xs old h = simp (length-append, length-drop) (omega arith)

  pub take_fill : (xs old : List A) (n : ℕ) → length xs ≡ n → take n (fill xs old) ≡ xs
  take_fill xs old n e = take_at xs (drop (length xs) old) n e

  pub drop_fill : (xs old : List A) (n : ℕ) → length xs ≡ n → drop n (fill xs old) ≡ drop n old
  drop_fill xs old n e = drop_at xs (drop (length xs) old) n e ∙ ap (λ (m : ℕ). drop m old) e

  -- filled, changed in its first entries and filled again is filled once
  pub fill_again : (xs old between : List A) (n : ℕ) → length xs ≡ n → drop n between ≡ drop n old → fill xs between ≡ fill xs old
  fill_again xs old between n e q = ap (λ (l : List A). xs ++ l) (ap (λ (m : ℕ). drop m between) e ∙ (q ∙ ap (λ (m : ℕ). drop m old) (sym e)))

  -- A loop stores entries one after the other. `rest` is what is still to be stored, from entry `at` on; stored, it brings the table to `target`.
  pub record Storing (size : ℕ) (table target rest : List A) (at : ℕ) : Type 0 where
    pub size_kept : length table ≡ size
    pub room : at + length rest ≤ length table
    pub ends : put at rest table ≡ target

  -- a loop that stores xs from `at` on
  pub begin_at : (at : ℕ) (table xs : List A) → at + length xs ≤ length table → Storing (length table) table (put at xs table) xs at
  begin_at at table xs h = record { size_kept = refl; room = h; ends = refl }

  -- a loop that fills the first entries
  pub begin : (table xs : List A) → length xs ≤ length table → Storing (length table) table (fill xs table) xs 0
  begin table xs h = record { size_kept = refl; room = omega arith; ends = put_start xs table }

  pub inside : {size at : ℕ} {x : A} {table target rest : List A} → Storing size table target (x ∷ rest) at → at < length table
  inside s = omega (arith, s.room)

  pub store : {size at : ℕ} {x : A} {table target rest : List A} → Storing size table target (x ∷ rest) at → Storing size (set table at x) target rest (at + 1)
  store {at = at} {x = x} {table = table} {rest = rest} s =
      record {
        size_kept = length-set table at x ∙ s.size_kept;
        room = rw length-set (omega (arith, s.room));
        ends = put_next at table rest x (inside s) ∙ s.ends;
      }

  put_append : (at : ℕ) (xs rest table : List A) → at + length xs ≤ length table → put (at + length xs) rest (put at xs table) ≡ put at (xs ++ rest) table
  put_append at xs rest table h =
      let front : List A = take at table ++ xs in
      let back : List A = drop (at + length xs) table in
      let n : length front ≡ at + length xs = length-append (take at table) xs ∙ (omega (arith, length-take-le at table (omega arith))) in
      let size : at + length xs + length rest ≡ at + length (xs ++ rest) = omega (arith, length-append xs rest) in
      let whole : put at xs table ≡ front ++ back = sym (append_assoc (take at table) xs back) in
      let a : take (at + length xs) (put at xs table) ≡ front = ap (take (at + length xs)) whole ∙ take_at front back (at + length xs) n in
      let b : drop (at + length xs + length rest) (put at xs table) ≡ drop (at + length (xs ++ rest)) table =
      ap (drop (at + length xs + length rest)) whole
      ∙ (sym (drop-drop (length rest) (at + length xs) (front ++ back))
      ∙ (ap (drop (length rest)) (drop_at front back (at + length xs) n)
      ∙ (drop-drop (length rest) (at + length xs) table ∙ ap (λ (m : ℕ). drop m table) size))) in
      (λ i. a i ++ (rest ++ b i))
      ∙ (append_assoc (take at table) xs (rest ++ drop (at + length (xs ++ rest)) table)
      ∙ ap (λ (l : List A). take at table ++ l) (sym (append_assoc xs rest (drop (at + length (xs ++ rest)) table))))

  -- several entries stored at once
  pub store_many : {size at : ℕ} {table target rest : List A} (xs : List A) → Storing size table target (xs ++ rest) at
      → Storing size (put at xs table) target rest (at + length xs)
  store_many {at = at} {table = table} {rest = rest} xs s =
      let l = length-append xs rest in
      let kept : length (put at xs table) ≡ length table =
      length-append (take at table) (xs ++ drop (at + length xs) table)
      ∙ (omega (
        arith,
        s.room,
        length-take-le at table (omega (arith, s.room)),
        length-append xs (drop (at + length xs) table),
        length-drop (at + length xs) table,
      )) in
      record {
        size_kept = kept ∙ s.size_kept;
        room = omega (arith, s.room);
        ends = put_append at xs rest table (omega (arith, s.room)) ∙ s.ends;
      }

  -- what is still to be stored, said another way
  pub restated : {size at : ℕ} {table target rest rest' : List A} → rest ≡ rest' → Storing size table target rest at → Storing size table target rest' at
  restated {size} {at} {table} {target} e s = subst (λ (r : List A). Storing size table target r at) e s

  -- where nothing is left to store, the table is the target
  pub stored : {size at : ℕ} {table target : List A} → Storing size table target [] at → table ≡ target
  stored {at = at} {table = table} s = sym (put_none at table) ∙ s.ends
