-- What READ answers of a sheet, and what is said of its collection, come to what `tally` says. Assumes nothing.
use mathlib.Core.Path.{◌≡◌, refl, sym, ap, ◌∙◌}
use mathlib.Core.List.{List}
use Prim.Native.Nat.{ℕ, ◌*◌, ◌<◌, ◌≤◌}
use native.Mathlib.Omega.{arith}
use borrow.Author.Tests.{le-leb, lt-leb}
use lib.ListN.{length, take}
use Rattle.summary_text.specs.declared.Numbers.{Numbers}
use Rattle.sheet.specs.declared.Filled.{Filled}
use Rattle.std.specs.Prelude.{Err, Result, Ok}
use Rattle.collection.specs.declared.refusal.Refusal.TheVariants.{Limits}
use Rattle.collection.specs.declared.refusal.Refusal.{Refusal}
use Rattle.lists.specs.Choose.{choose}
use Rattle.lists.proofs.Storing.{length_fill}
use Rattle.lists.proofs.Refuted.{refuted}
use Rattle.collection.specs.Collection.{collection}
use Rattle.collection.specs.Judge.{Passes, size_verdict, collection_verdict}
use Rattle.collection.specs.Strings.{letters_in, ends_in, weights_in, joined}
use Rattle.collection.specs.Tables.{Tables, filled_by, collection_in, rooms_of, rooms_verdict}
use Rattle.collection.specs.Verdict.{and_then, settle, Verdict, good}
use Rattle.collection.proofs.Strings.{ends-length}
use Rattle.collection.proofs.Verdicts.{then_good, then_bad, refused, settled}
use Rattle.sheet.specs.Read.{sheet_n, sheet_m, sheet_weights, read_verdict, ReadOutcome, read_outcome, read_of, filled}
use Rattle.sheet.specs.Sheet.{sheet_k, sheet_strings, sheet_verdict, Accepted}
use Rattle.sheet.proofs.Calls.{ReadDone, read_done_lem, read_passes, filled_same}
use Rattle.collection.proofs.Verdicts.{good_room}
use Rattle.sheet.proofs.Taken.{takes_read}
use Rattle.summary.specs.Inner.{Ample}
use Rattle.summary.specs.Summary.{checked_of, long_verdict, lines_verdict, summary_of, most_bytes}
use Rattle.summary.proofs.Fits.{sheet_size}

-- too many bytes
pub too_long : (bs : List ℕ) → most_bytes < length bs → Err Limits ≡ summary_of bs
unfolding summary_of long_verdict
too_long bs l = refused Err _ (then_bad _ (ap (λ t. choose t good (Err Limits)) (lt-leb (length bs) most_bytes l)))

module _ (bs : List ℕ) (t : Tables) (places work : ℕ) (l : length bs ≤ most_bytes)
    (ample : Ample (length t.letters) (length t.ends) (length t.weights) places work) where
  short : long_verdict bs ≡ good
  unfolding long_verdict
  short = ap (λ t. choose t good (Err Limits)) (le-leb (length bs) most_bytes l)

  -- the tables have room for what a sheet of so few bytes holds
  roomy : Accepted bs → rooms_verdict (rooms_of t) (sheet_n bs) (sheet_m bs) (sheet_weights bs) ≡ good
  unfolding rooms_verdict
  roomy h =
      let s = sheet_size bs h in
      then_good _ (good_room (omega (arith, ample.letters_room)))
      (then_good _ (good_room (omega (arith, ample.ends_room))) (good_room (omega (arith, ample.weights_room))))

  -- so READ never refuses by 1
  read_judges : read_verdict bs (rooms_of t) ≡ and_then (long_verdict bs) (lines_verdict bs)
  unfolding read_verdict lines_verdict and_then
  read_judges =
      go (sheet_verdict bs) refl (size_verdict (sheet_n bs) (sheet_m bs))
      ∙ sym (ap (λ (v : Verdict). and_then v (and_then (sheet_verdict bs) (size_verdict (sheet_n bs) (sheet_m bs)))) short)
    where
      go : (v : Verdict) → sheet_verdict bs ≡ v → (w : Verdict)
          → and_then v (and_then w (rooms_verdict (rooms_of t) (sheet_n bs) (sheet_m bs) (sheet_weights bs))) ≡ and_then v w
      go (Ok u) h (Ok v) = roomy h
      go (Ok u) h (Err r) = refl
      go (Err r) h w = refl

  module _ {a : Result Filled Refusal} {after : Tables} (e : read_outcome a after ≡ read_of bs t) where
    answered : {b : Result Filled Refusal} → a ≡ b → (read_of bs t).answer ≡ b
    answered q = sym (ap (λ (o : ReadOutcome). o.answer) e) ∙ q

    abbrev collection-told : Result Numbers Refusal
    collection-told = checked_of (joined (sheet_k bs) (sheet_strings bs))

    abbrev taken : ReadOutcome
    taken =
        read_outcome (filled (sheet_k bs) (sheet_n bs) (sheet_m bs) (sheet_weights bs)) (filled_by (sheet_strings bs) t)

    -- a refusal of READ is one of `tally`
    pub read_refused : {r : Refusal} → a ≡ Err r → Err r ≡ summary_of bs
    unfolding summary_of read_of settle
    read_refused {r} q = go (read_verdict bs (rooms_of t)) read_judges (answered q)
      where
        go : (v : Verdict) → v ≡ and_then (long_verdict bs) (lines_verdict bs)
            → (settle v (λ r. read_outcome (Err r) t) taken).answer ≡ Err r
            → Err r ≡ settle (and_then (long_verdict bs) (lines_verdict bs)) Err collection-told
        go (Ok u) h g = refuted (cc)
        go (Err x) h g =
            let p : r ≡ x = cc in
            ap (λ (y : Refusal). Err y) p ∙ ap (λ (v : Verdict). settle v Err collection-told) h

    module _ {k n m w : ℕ} (q : a ≡ filled k n m w) where
      done : ReadDone bs t k n m w
      done = read_done_lem bs t k n m w (answered q)

      verdict : read_verdict bs (rooms_of t) ≡ good
      verdict = takes_read bs (rooms_of t) done.accepted done.within

      filled_is : filled (sheet_k bs) (sheet_n bs) (sheet_m bs) (sheet_weights bs) ≡ filled k n m w
      unfolding read_of
      filled_is = ap (λ (o : ReadOutcome). o.answer) (settled _ refl verdict) ∙ answered q

      letters_read : take n after.letters ≡ letters_in (sheet_strings bs)
      letters_read = ap (λ (o : ReadOutcome). take n o.after.letters) e ∙ done.letters_are

      ends_read : take m after.ends ≡ ends_in 0 (sheet_strings bs)
      ends_read = ap (λ (o : ReadOutcome). take m o.after.ends) e ∙ done.ends_are

      weights_read : take w after.weights ≡ weights_in (sheet_strings bs)
      weights_read = ap (λ (o : ReadOutcome). take w o.after.weights) e ∙ done.weights_are

      read_is : read_outcome a after ≡ taken
      unfolding read_of
      read_is = e ∙ sym (settled _ refl verdict)

      -- the parts that READ filled are there
      pub parts_inside : (n ≤ length after.letters) × (m ≤ length after.ends) × (w ≤ length after.weights)
      parts_inside =
          let f = filled_same filled_is in
          let x = f.letters_same in
          let y = f.ends_same in
          let z = f.weights_same in
          let d = done.within in
          let i = length_fill (letters_in (sheet_strings bs)) t.letters d.letters_room in
          let j = length_fill (ends_in 0 (sheet_strings bs)) t.ends (omega (arith, ends-length 0 (sheet_strings bs), d.ends_room)) in
          let k = length_fill (weights_in (sheet_strings bs)) t.weights d.weights_room in (
            omega (arith, i, x, ap (λ (o : ReadOutcome). length o.after.letters) read_is, d.letters_room),
            omega (arith, j, y, ap (λ (o : ReadOutcome). length o.after.ends) read_is, d.ends_room),
            omega (arith, k, z, ap (λ (o : ReadOutcome). length o.after.weights) read_is, d.weights_room),
          )

      -- and make a judged collection that the other tables have room for
      pub read_judged : Passes (collection_in k n m w after)
      read_judged = ap (λ (o : ReadOutcome). collection_verdict (collection_in k n m w o.after)) e ∙ read_passes bs t k n m w (answered q)

      pub tables_room : (length (take m after.ends) ≤ places) × (16 * length (take m after.ends) ≤ work) × (4 * length (take w after.weights) ≤ work)
      tables_room =
          let s = sheet_size bs done.accepted in
          let x : length (take m after.ends) ≡ sheet_m bs = ap length ends_read ∙ ends-length 0 (sheet_strings bs) in
          let y : length (take w after.weights) ≡ sheet_weights bs = ap length weights_read in
          (omega (arith, ample.places_room), omega (arith, ample.work_room), omega (arith, ample.work_room))

      -- what is told of the collection is told of the sheet
      pub read_told : {s : Result Numbers Refusal} → s ≡ checked_of (collection_in k n m w after) → s ≡ summary_of bs
      unfolding summary_of
      read_told t =
          t ∙ ((λ i. checked_of (collection (done.k_is i) (letters_read i) (ends_read i) (weights_read i))) ∙ settled Err refl (sym read_judges ∙ verdict))
