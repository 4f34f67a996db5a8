-- The index from its steps: the stretches cut, then the tables put into the order of their minimizers. Assumes nothing.
use mathlib.Core.Path.{◌≡◌, sym, ap, ap₂, subst, ◌∙◌}
use mathlib.Core.List.{List, ◌++◌, map}
use Prim.Native.Nat.{ℕ, ◌+◌, ◌^◌, ◌<◌, ◌≤◌}
use native.Mathlib.Omega.{arith}
use lib.ListN.{length, take, drop, length-map}
use lib.Seq.{take-append-le, length-take-le}
use Rattle.lists.specs.Count.{count_from}
use Rattle.lists.specs.Every.{All}
use Rattle.lists.specs.Fill.{put, fill}
use Rattle.lists.specs.Pick.{up_to}
use Rattle.lists.specs.Regions.{part, Only}
use Rattle.lists.proofs.Mapped.{map-all}
use Rattle.lists.proofs.Picks.{length-up_to}
use Rattle.lists.proofs.Regions.{part_is, among_trans}
use Rattle.lists.proofs.Storing.{put_start, length_fill, take_fill, drop_fill, fill_again}
use Rattle.repeats.proofs.Arranged.{few_kmers}
use Rattle.index_minimizers.specs.Minimizer.{minimizer_at}
use Rattle.index_stretches.specs.Index.{built}
use Rattle.index_stretches.specs.Stretches.{Stretch, stretches}
use Rattle.index_stretches.proofs.Even.{stretches_few}
use Rattle.index_cutting.specs.Cut.{Room4, Cut}
use Rattle.index_cutting.proofs.Keys.{keys_small}
use Rattle.index_arranging.specs.Arranging.{gathered, places_by, starts_by, in_order, Orderable, Room3, Arranged}
use Rattle.index_arranging.proofs.Gathered.{gathered-places, length-places}
use Rattle.index_arranging.proofs.Ordered.{fill_only, wider}
use Rattle.index.specs.Indexing.{Lent, lent, index_with}
use Rattle.index.specs.Judged.{Judged, Held}
use Rattle.collection.specs.Collection.{Spelling}

module _ {spelt : Spelling} {p : ℕ} {n m : ℕ} (t : Lent) (j : Judged spelt p n m t) where
  abbrev ss : List Stretch
  ss = stretches (minimizer_at spelt.k p spelt.letters) spelt.k spelt.ends

  abbrev key : Stretch → ℕ
  key s = minimizer_at spelt.k p spelt.letters s.at

  few : m ≤ n
  few = omega (arith, j.counted, j.each, stretches_few (minimizer_at spelt.k p spelt.letters) spelt.k spelt.ends)

  -- the part of work that takes the minimizers
  pub lent_size : length (take n t.work) ≡ n
  lent_size = length-take-le n t.work (omega (arith, j.work_room))

  -- all stretches fit the tables and that part
  pub room4 : Room4 0 (length ss) t.firsts t.positions t.numbers (take n t.work)
  room4 =
      record {
        firsts_room = omega (arith, j.counted, j.firsts_room);
        positions_room = omega (arith, j.counted, j.positions_room);
        numbers_room = omega (arith, j.counted, j.numbers_room);
        keys_room = omega (arith, j.counted, few, lent_size);
      }

  small : All (λ s. key s < 4 ^ p) ss
  small = keys_small spelt p j.ready j.p_fits

  -- ─── the stretches are cut ─────────────────────────────────────────────────

  module _ {firsts positions numbers keys : List ℕ}
      (c : Cut (minimizer_at spelt.k p spelt.letters) 0 ss t.firsts firsts t.positions positions t.numbers numbers (take n t.work) keys) where
    abbrev work : List ℕ
    work = keys ++ drop n t.work

    keys_fill : keys ≡ fill (map key ss) (take n t.work)
    keys_fill = c.keys_held ∙ put_start (map key ss) (take n t.work)

    keys_number : length (map key ss) ≡ m
    keys_number = length-map ss key ∙ sym j.counted

    keys_size : length keys ≡ n
    keys_size = ap length keys_fill ∙ (length_fill (map key ss) (take n t.work) (omega (arith, keys_number, few, lent_size)) ∙ lent_size)

    cut_keys : part 0 m work ≡ map key ss
    cut_keys =
        part_is 0 m work
        ∙ (take-append-le m keys (drop n t.work) (omega (arith, keys_size, few))
        ∙ (ap (take m) keys_fill ∙ take_fill (map key ss) (take n t.work) m keys_number))

    cut_only : Only 0 n t.work work
    cut_only =
        subst (λ (i : ℕ). Only 0 i t.work work) keys_size
        (subst (Only 0 (length keys) t.work) (ap (λ (i : ℕ). keys ++ drop i t.work) keys_size)
        (fill_only keys t.work (omega (arith, keys_size, j.work_room))))

    -- the tables are fit for the order
    pub cut_orderable : Orderable p n m (length work) (length t.before)
    cut_orderable =
        record {
          p_high = j.p_high;
          few = few;
          n_high = omega (arith, j.each, few_kmers j.ready);
          work_room = omega (arith, cut_only.size, j.work_room);
          starts_room = j.before_room;
        }

    -- each minimizer is the code of p letters
    pub cut_low : All (λ x. x < 4 ^ p) (part 0 m work)
    cut_low = subst (All (λ x. x < 4 ^ p)) (sym cut_keys) (map-all (λ x. x < 4 ^ p) key ss small)

    -- a table that holds the stretches in the order of their handles
    module _ (g : Stretch → ℕ) (old cut : List ℕ) (e : cut ≡ put 0 (map g ss) old) where
      cut_fill : cut ≡ fill (map g ss) old
      cut_fill = e ∙ put_start (map g ss) old

      size : length (map g ss) ≡ m
      size = length-map ss g ∙ sym j.counted

      cut_size : m ≤ length old → m ≤ length cut
      cut_size h = omega (arith, ap length cut_fill, length_fill (map g ss) old (omega (arith, size)))

      -- in the order of the minimizers it holds what the index says
      cut_ordered : in_order (part 0 m work) m (4 ^ p) cut ≡ fill (map g (up_to key (4 ^ p) ss)) old
      cut_ordered =
          (λ i. fill (gathered (places_by (cut_keys i) (j.counted i) (4 ^ p)) (taken i)) cut)
          ∙ (ap (λ (l : List ℕ). fill l cut) (gathered-places key (4 ^ p) g ss)
          ∙ fill_again (map g (up_to key (4 ^ p) ss)) old cut m (length-map (up_to key (4 ^ p) ss) g ∙ (length-up_to key (4 ^ p) ss small ∙ sym j.counted))
          (ap (drop m) cut_fill ∙ drop_fill (map g ss) old m size))
        where
          taken : take m cut ≡ map g ss
          taken = ap (take m) cut_fill ∙ take_fill (map g ss) old m size

    -- the three tables keep their room
    pub cut_room : Room3 m firsts positions numbers
    cut_room =
        record {
          firsts_room = cut_size (λ s. s.first) t.firsts firsts c.firsts_held j.firsts_room;
          positions_room = cut_size (λ s. s.at) t.positions positions c.positions_held j.positions_room;
          numbers_room = cut_size (λ s. s.number) t.numbers numbers c.numbers_held j.numbers_room;
        }

    -- ─── and ordered ─────────────────────────────────────────────────────────

    starts : starts_by (part 0 m work) m (4 ^ p) ≡ map (λ i. length (up_to key i ss)) (count_from 0 (4 ^ p + 1))
    starts =
        ap₂ (λ (l : List ℕ) (i : ℕ). starts_by l i (4 ^ p)) cut_keys j.counted
        ∙ (λ i. map (λ d. length-places key d ss i) (count_from 0 (4 ^ p + 1)))

    -- the ordered tables are the index
    pub index_built : {work' before' firsts' positions' numbers' : List ℕ}
        → Arranged (part 0 m work) p n m work work' t.before before' firsts firsts' positions positions' numbers numbers'
        → Held (index_with spelt p) n t (lent firsts' positions' numbers' before' work')
    unfolding built
    index_built {work'} a =
        record {
          firsts_held = a.firsts_ordered ∙ cut_ordered (λ s. s.first) t.firsts firsts c.firsts_held;
          positions_held = a.positions_ordered ∙ cut_ordered (λ s. s.at) t.positions positions c.positions_held;
          numbers_held = a.numbers_ordered ∙ cut_ordered (λ s. s.number) t.numbers numbers c.numbers_held;
          before_held = a.starts ∙ ap (λ (l : List ℕ). fill l t.before) starts;
          rest = among_trans _ t.work work work' (wider n 0 n t.work work (omega arith) cut_only) a.rest;
        }
