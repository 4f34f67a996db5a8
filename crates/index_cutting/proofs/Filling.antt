-- Four tables that are filled with stretches, one by one or string by string. By the laws of `Storing`. Assumes nothing.
use mathlib.Core.Path.{◌≡◌, refl, sym, subst}
use mathlib.Core.List.{List, [], ◌∷◌, ◌++◌, map, map-append}
use Prim.Native.Nat.{ℕ, ◌+◌, ◌≤◌, ◌<◌}
use native.Mathlib.Omega.{arith}
use lib.ListN.{length, set, length-map, length-append}
use Rattle.lists.specs.Fill.{put}
use Rattle.lists.proofs.Storing.{Storing, begin_at, inside, store, store_many, restated, stored}
use Rattle.index_stretches.specs.Stretches.{Stretch}
use Rattle.index_cutting.specs.Cut.{Room4, Cut}

-- ─── one table ───────────────────────────────────────────────────────────────

-- a number of each stretch: those of `all` go to the entries from o on; those of `rest` are still to come, from entry `to` on
abbrev Column : (Stretch → ℕ) → ℕ → List Stretch → List ℕ → List ℕ → List Stretch → ℕ → Type 0
Column g o all old table rest to = Storing (length old) table (put o (map g all) old) (map g rest) to

module _ (g : Stretch → ℕ) (o : ℕ) (all : List Stretch) where
  column_begin : (table : List ℕ) → o + length all ≤ length table → Column g o all table table all o
  column_begin table l = begin_at o table (map g all) (omega (arith, length-map all g))

  module _ (old table : List ℕ) (ss rest : List Stretch) (to : ℕ) (c : Column g o all old table (ss ++ rest) to) where
    column_room : to + length ss ≤ length table
    column_room = omega (arith, c.room, length-map (ss ++ rest) g, length-append ss rest)

    column_many : {table' : List ℕ} → table' ≡ put to (map g ss) table → Column g o all old table' rest (to + length ss)
    column_many e =
        subst (λ (t : List ℕ). Column g o all old t rest (to + length ss)) (sym e)
        (subst (λ (m : ℕ). Column g o all old (put to (map g ss) table) rest (to + m)) (length-map ss g)
        (store_many (map g ss) (restated (map-append g ss rest) c)))

-- ─── four tables ─────────────────────────────────────────────────────────────

-- first handles fs, positions ps, numbers ns and minimizers ks; each was before what has the same name with a 0
pub record Filling (q : ℕ → ℕ) (o : ℕ) (all : List Stretch) (fs₀ fs ps₀ ps ns₀ ns ks₀ ks : List ℕ) (rest : List Stretch) (to : ℕ) : Type 0 where
  pub firsts : Column (λ s. s.first) o all fs₀ fs rest to
  pub positions : Column (λ s. s.at) o all ps₀ ps rest to
  pub numbers : Column (λ s. s.number) o all ns₀ ns rest to
  pub keys : Column (λ s. q s.at) o all ks₀ ks rest to
  pub counted : to + length rest ≡ o + length all

-- all are still to come
pub filling_begin : (q : ℕ → ℕ) {o : ℕ} (all : List Stretch) {fs ps ns ks : List ℕ} → Room4 o (length all) fs ps ns ks
    → Filling q o all fs fs ps ps ns ns ks ks all o
filling_begin q all {fs} {ps} {ns} {ks} r =
    record {
      firsts = column_begin (λ s. s.first) _ all fs r.firsts_room;
      positions = column_begin (λ s. s.at) _ all ps r.positions_room;
      numbers = column_begin (λ s. s.number) _ all ns r.numbers_room;
      keys = column_begin (λ s. q s.at) _ all ks r.keys_room;
      counted = refl;
    }

module _ {q : ℕ → ℕ} {o to : ℕ} {all : List Stretch} {fs₀ fs ps₀ ps ns₀ ns ks₀ ks : List ℕ} where
  -- what is still to come, said another way
  pub filling_restated : {rest rest' : List Stretch} → rest ≡ rest' → Filling q o all fs₀ fs ps₀ ps ns₀ ns ks₀ ks rest to
      → Filling q o all fs₀ fs ps₀ ps ns₀ ns ks₀ ks rest' to
  filling_restated e r = subst (λ (ss : List Stretch). Filling q o all fs₀ fs ps₀ ps ns₀ ns ks₀ ks ss to) e r

  -- none is
  pub filling_end : Filling q o all fs₀ fs ps₀ ps ns₀ ns ks₀ ks [] to → Cut q o all fs₀ fs ps₀ ps ns₀ ns ks₀ ks
  filling_end r =
      record { firsts_held = stored r.firsts; positions_held = stored r.positions; numbers_held = stored r.numbers; keys_held = stored r.keys }

  -- one stretch
  module _ {s : Stretch} {rest : List Stretch} (r : Filling q o all fs₀ fs ps₀ ps ns₀ ns ks₀ ks (s ∷ rest) to) where
    pub filling_inside : (to < length fs) × (to < length ps) × (to < length ns) × (to < length ks)
    filling_inside = (inside r.firsts, inside r.positions, inside r.numbers, inside r.keys)

    pub filling_store : {v : ℕ} → v ≡ q s.at
        → Filling q o all fs₀ (set fs to s.first) ps₀ (set ps to s.at) ns₀ (set ns to s.number) ks₀ (set ks to v) rest (to + 1)
    filling_store e =
        record {
          firsts = store r.firsts;
          positions = store r.positions;
          numbers = store r.numbers;
          keys = subst (λ (y : ℕ). Column (λ s. q s.at) o all ks₀ (set ks to y) rest (to + 1)) (sym e) (store r.keys);
          counted = omega (arith, r.counted);
        }

  -- several stretches
  module _ (ss rest : List Stretch) (r : Filling q o all fs₀ fs ps₀ ps ns₀ ns ks₀ ks (ss ++ rest) to) where
    pub filling_room : Room4 to (length ss) fs ps ns ks
    filling_room =
        record {
          firsts_room = column_room (λ s. s.first) o all _ _ ss rest to r.firsts;
          positions_room = column_room (λ s. s.at) o all _ _ ss rest to r.positions;
          numbers_room = column_room (λ s. s.number) o all _ _ ss rest to r.numbers;
          keys_room = column_room (λ s. q s.at) o all _ _ ss rest to r.keys;
        }

    pub filling_many : {fs' ps' ns' ks' : List ℕ} → Cut q to ss fs fs' ps ps' ns ns' ks ks'
        → Filling q o all fs₀ fs' ps₀ ps' ns₀ ns' ks₀ ks' rest (to + length ss)
    filling_many e =
        record {
          firsts = column_many (λ s. s.first) o all _ _ ss rest to r.firsts e.firsts_held;
          positions = column_many (λ s. s.at) o all _ _ ss rest to r.positions e.positions_held;
          numbers = column_many (λ s. s.number) o all _ _ ss rest to r.numbers e.numbers_held;
          keys = column_many (λ s. q s.at) o all _ _ ss rest to r.keys e.keys_held;
          counted = omega (arith, r.counted, length-append ss rest);
        }
