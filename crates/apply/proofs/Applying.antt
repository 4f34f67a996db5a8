-- What APPLY knows once its tables and its places are judged, and what it comes to where nothing is refused. Assumes nothing.
use mathlib.Core.Path.{◌≡◌, refl, sym, ap, ◌∙◌}
use mathlib.Core.List.{List}
use Prim.Native.Nat.{ℕ}
use native.Mathlib.Omega.{arith}
use lib.IntN.{ℤ}
use lib.ListN.{length}
use Rattle.std.specs.Prelude.{Err}
use Rattle.lists.proofs.Storing.{take_fill}
use Rattle.collection.specs.Collection.{Collection, collection}
use Rattle.collection.specs.Judge.{collection_verdict}
use Rattle.collection.specs.Strings.{letters_in, ends_in, weights_in, joined}
use Rattle.collection.specs.Tables.{collection_in, Rooms, rooms_of, rooms_verdict}
use Rattle.collection.specs.Verdict.{room_verdict, Verdict, good}
use Rattle.collection.proofs.Judged.{collection_good}
use Rattle.collection.proofs.Verdicts.{both_good, room_good, settled}
use Rattle.apply.specs.Apply.{Lent, lent, Outcome, outcome, zeroed, placed_of, apply_of, tables_verdict, filled}
use Rattle.apply.specs.Ready.{Ready}
use Rattle.apply_strings.specs.Reordered.{reordered}
use Rattle.apply_places.specs.Judged.{PlacesJudged}
use Rattle.apply_strings.specs.Placeable.{Placeable}
use Rattle.apply_places.specs.Places.{places_verdict}
use Rattle.apply_places.proofs.Permutation.{places_good}
use Rattle.apply_strings.proofs.Reordered.{reordered_sizes}

-- ─── the tables, then the places ─────────────────────────────────────────────

-- tables that pass are long enough
pub tables_good : (c : Collection) (new : Rooms) (work : ℕ) → tables_verdict c new work ≡ good → Ready c new work
unfolding tables_verdict rooms_verdict
tables_good c new work fine =
    let first = both_good (collection_verdict c) _ fine in
    let tables = both_good (rooms_verdict new (length c.letters) (length c.ends) (length c.weights)) _ first.1 in
    let letters = both_good (room_verdict new.letters (length c.letters)) _ tables.0 in
    let ends = both_good (room_verdict new.ends (length c.ends)) _ letters.1 in
    record {
      passes = first.0;
      few = (collection_good c first.0).shape.m_high;
      letters_room = room_good _ _ letters.0;
      ends_room = room_good _ _ ends.0;
      weights_room = room_good _ _ ends.1;
      work_room = room_good _ _ tables.1;
    }

-- work is marked as the strings are to stand
pub placeable : {c : Collection} {places : List ℤ} {new : Rooms} {work marks : List ℕ} {verdict : Verdict}
    → PlacesJudged (length c.ends) places work marks verdict → verdict ≡ good → Ready c new (length work) → Placeable c places marks
placeable {c} {places} judged fine r =
    record {
      passes = r.passes;
      permutation = places_good (length c.ends) places (sym judged.judged ∙ fine);
      marked = judged.marked fine;
      work_room = omega (arith, r.work_room, judged.size);
    }

-- ─── success ─────────────────────────────────────────────────────────────────

-- where nothing is refused, the first entries of the new tables are a collection: that of the reordered strings
module _ (c : Collection) (places : List ℤ) (t : Lent) where
  pub applied : tables_verdict c (rooms_of t.new) (length t.work) ≡ good → places_verdict (length c.ends) places ≡ good
      → ((apply_of c places t).answer ≡ filled (length c.letters) (length c.ends) (length c.weights))
      × (collection_in c.k (length c.letters) (length c.ends) (length c.weights) (apply_of c places t).after.new ≡ joined c.k (reordered c places))
  unfolding apply_of placed_of
  applied passed fine =
      let n = reordered_sizes c places (tables_good c _ _ passed).passes (places_good (length c.ends) places fine) in
      let o = settled (λ r. outcome (Err r) t)
      (settled (λ r. outcome (Err r) (lent t.new (zeroed (length c.ends) t.work))) refl fine) passed in
      let x = take_fill (letters_in (reordered c places)) t.new.letters (length c.letters) n.letters_number in
      let y = take_fill (ends_in 0 (reordered c places)) t.new.ends (length c.ends) n.ends_number in
      let z = take_fill (weights_in (reordered c places)) t.new.weights (length c.weights) n.weights_number in (
        ap (λ (r : Outcome). r.answer) (sym o),
        ap (λ (r : Outcome). collection_in c.k (length c.letters) (length c.ends) (length c.weights) r.after.new) (sym o)
            ∙ (λ i. collection c.k (x i) (y i) (z i)),
      )
