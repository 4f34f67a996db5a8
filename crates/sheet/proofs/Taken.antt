-- READ takes exactly the accepted sheets within the limits. Assumes nothing.
use mathlib.Core.Path.{◌≡◌}
use mathlib.Core.List.{List}
use Prim.Native.Nat.{ℕ, ◌≤◌}
use Rattle.lists.specs.Limits.{most_letters, most_strings}
use Rattle.collection.proofs.Judged.{good_size, size_good}
use Rattle.collection.proofs.Verdicts.{good_room, both_good, room_good, then_good}
use Rattle.collection.specs.Judge.{size_verdict}
use Rattle.collection.specs.Tables.{Rooms, rooms_verdict}
use Rattle.collection.specs.Verdict.{room_verdict, good}
use Rattle.sheet.specs.Read.{sheet_n, sheet_m, sheet_weights, read_verdict}
use Rattle.sheet.specs.Sheet.{sheet_verdict, Accepted}

-- a sheet is not too large (3), and tables of these lengths hold it (1)
pub record Within (bs : List ℕ) (r : Rooms) : Type 0 where
  pub few_letters : sheet_n bs ≤ most_letters
  pub few_strings : sheet_m bs ≤ most_strings
  pub letters_room : sheet_n bs ≤ r.letters
  pub ends_room : sheet_m bs ≤ r.ends
  pub weights_room : sheet_weights bs ≤ r.weights

-- what READ takes is an accepted sheet within the limits
pub read_takes : (bs : List ℕ) (r : Rooms) → read_verdict bs r ≡ good → Accepted bs × Within bs r
unfolding read_verdict rooms_verdict
read_takes bs r h =
    let a = both_good (sheet_verdict bs) _ h in
    let b = both_good (size_verdict (sheet_n bs) (sheet_m bs)) _ a.1 in
    let c = both_good (room_verdict r.letters (sheet_n bs)) _ b.1 in
    let d = both_good (room_verdict r.ends (sheet_m bs)) _ c.1 in
    let s = size_good _ _ b.0 in (
      a.0,
      record {
        few_letters = s.0;
        few_strings = s.1;
        letters_room = room_good _ _ c.0;
        ends_room = room_good _ _ d.0;
        weights_room = room_good _ _ d.1;
      },
    )

-- and each such sheet is taken
pub takes_read : (bs : List ℕ) (r : Rooms) → Accepted bs → Within bs r → read_verdict bs r ≡ good
unfolding read_verdict rooms_verdict
takes_read bs r h w =
    then_good _ h
    (then_good _ (good_size w.few_letters w.few_strings)
    (then_good _ (good_room w.letters_room) (then_good _ (good_room w.ends_room) (good_room w.weights_room))))
