-- The walk of a row, as its loop goes: stretch by stretch, from stretch i up to stretch e. Assumes nothing.
use mathlib.Core.Path.{◌≡◌, refl, ap, ◌∙◌}
use mathlib.Core.Bool.{Bool, true}
use mathlib.Core.List.{List, [], ◌∷◌, ◌++◌}
use Prim.Native.Nat.{ℕ, zero, suc, ◌+◌, ◌-◌, ◌*◌, ◌<◌, ◌≤◌}
use native.Mathlib.Omega.{arith}
use lib.ListN.{length, length-append}
use Rattle.lists.specs.Every.{every}
use Rattle.lists.specs.Limits.{most_letters}
use Rattle.lists.proofs.Every.{and_left, and_right}
use Rattle.index_stretches.specs.Stretches.{Stretch, kmers_of, walk}
use Rattle.index_stretches.proofs.Walks.{length-stretch}
use Rattle.index_stretches.specs.Index.{Index, entry, entries, start, row_of, stretch_fits, row_fits}
use Rattle.quick_walks.specs.declared.Met.{Met}
use Rattle.quick_walks.specs.declared.Met.TheVariants.{Hit, Miss}
use Rattle.quick_walks.specs.Walk.{seek}
use Rattle.quick_walks.proofs.Rows.{row_good, row_walk, fit_here, fit_rest, walk_next, walk_end, room, room_few, Room}
use Rattle.quick_walks.proofs.Walks.{seek_on, seek_met, seek-none, miss_counts}

-- ─── no row is too long to count ─────────────────────────────────────────────

walk_long : (k N : ℕ) (ss : List Stretch) → every (stretch_fits k N) ss ≡ true → length (walk ss) ≤ length ss * most_letters
unfolding every walk
walk_long k N [] h = omega arith
walk_long k N (s ∷ ss) h =
    let here = and_left (stretch_fits k N s) (every (stretch_fits k N) ss) h in
    omega (
      arith,
      length-append (kmers_of s) (walk ss),
      length-stretch s,
      room_few (room k N s here),
      walk_long k N ss (and_right (stretch_fits k N s) (every (stretch_fits k N) ss) h),
    )

length-entries : (t : Index) (i n : ℕ) → length (entries t i n) ≡ n
unfolding entries
length-entries t i zero = refl
length-entries t i (suc n) = ap suc (length-entries t (suc i) n)

-- a row that fits has at most 2^40 k-mers
pub row_short : (k N : ℕ) (t : Index) (v : ℕ) → row_fits k N t v ≡ true → length t.firsts ≤ most_letters → length (walk (row_of t v)) ≤ 1099511627776
row_short k N t v e few =
    let f = row_good t k N v e in
    let b = start t v in
    let n = start t (v + 1) - start t v in
    omega (arith, ap length (row_walk t v), walk_long k N (entries t b n) f.each, length-entries t b n, f.order, f.inside)

-- ─── the loop ────────────────────────────────────────────────────────────────

-- `count` k-mers have been compared when the walk comes to stretch i, and the walk from there on gives the answer. At most 2^41 were compared before the row,
-- and at most 2^20 in each stretch.
pub record Walking (test : ℕ → Bool) (k N : ℕ) (t : Index) (answer : Met) (e count i : ℕ) : Type 0 where
  pub inside : e ≤ length t.firsts
  pub fits : every (stretch_fits k N) (entries t i (e - i)) ≡ true
  pub few : count ≤ 2199023255552 + i * most_letters
  pub rest : answer ≡ seek test count (walk (entries t i (e - i)))

-- no stretch has been walked
pub walking_begins : (test : ℕ → Bool) (k N : ℕ) (t : Index) (v compared : ℕ) → compared ≤ 2199023255552 → row_fits k N t v ≡ true
    → Walking test k N t (seek test compared (walk (row_of t v))) (start t (v + 1)) compared (start t v)
walking_begins test k N t v compared l e =
    let f = row_good t k N v e in
    record { inside = f.inside; fits = f.each; few = omega arith; rest = ap (seek test compared) (row_walk t v) }

module _ {test : ℕ → Bool} {k N : ℕ} {t : Index} {answer : Met} {e count i : ℕ} (w : Walking test k N t answer e count i) where
  module _ (l : i < e) where
    -- the next stretch fits
    pub walking_room : Room k N (entry t i)
    walking_room = room k N (entry t i) (fit_here t k N i e l w.fits)

    split : answer ≡ seek test count (kmers_of (entry t i) ++ walk (entries t (i + 1) (e - (i + 1))))
    split = w.rest ∙ ap (seek test count) (walk_next t k N i e l)

    -- a k-mer of it meets the test: the answer
    pub walking_met : (h n : ℕ) → seek test count (kmers_of (entry t i)) ≡ Hit h n → answer ≡ Hit h n
    walking_met h n q = split ∙ seek_met test count h n (kmers_of (entry t i)) (walk (entries t (i + 1) (e - (i + 1)))) q

    -- none does: the walk goes on with the next one
    pub walking_on : (n : ℕ) → seek test count (kmers_of (entry t i)) ≡ Miss n → Walking test k N t answer e n (i + 1)
    walking_on n q =
        record {
          inside = w.inside;
          fits = fit_rest t k N i e l w.fits;
          few = omega (arith, w.few, miss_counts test count n (kmers_of (entry t i)) q, length-stretch (entry t i), room_few walking_room);
          rest = split ∙ seek_on test count n (kmers_of (entry t i)) (walk (entries t (i + 1) (e - (i + 1)))) q;
        }

  -- no stretch is left
  pub walking_ends : e ≤ i → answer ≡ Miss count
  walking_ends l = w.rest ∙ (ap (seek test count) (walk_end t i e l) ∙ seek-none test count)
