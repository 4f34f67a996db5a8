-- READ and WRITE as calls: what READ gives passes 2 to 6, and both round trips between them. Assumes nothing.
use mathlib.Core.Path.{◌≡◌, refl, sym, ap, ◌∙◌}
use mathlib.Core.Bool.{true}
use mathlib.Core.List.{List, [], ◌∷◌}
use Prim.Native.Nat.{ℕ, ◌≤◌}
use native.Mathlib.Omega.{arith}
use lib.ListN.{length, take}
use lib.Seq.{take_at}
use Rattle.sheet.specs.declared.Filled.{Filled}
use Rattle.collection.specs.declared.refusal.Refusal.{Refusal}
use Rattle.std.specs.Prelude.{Ok, Err, Result}
use Rattle.collection.specs.Verdict.{good}
use Rattle.lists.specs.Every.{All}
use Rattle.lists.specs.Fill.{fill}
use Rattle.lists.proofs.Every.{every-all, all-every, all_map}
use Rattle.lists.proofs.Refuted.{refuted}
use Rattle.alphabet.specs.Letter.{is_letter}
use Rattle.collection.specs.Collection.{Collection, collection, spelling_of}
use Rattle.collection.specs.Judge.{k_verdict, shape_verdict, collection_verdict, Passes}
use Rattle.collection_faults.specs.Faults.{is_weight}
use Rattle.collection.specs.Strings.{Str, strings, letters_in, weights_in, ends_in, joined}
use Rattle.collection.specs.Tables.{Tables, tables, filled_by, collection_in, Rooms, rooms_of}
use Rattle.collection.proofs.Judged.{collection_good, good_size}
use Rattle.collection.proofs.Strings.{Whole, strings-back, strings-joined, strings_whole, each_letters, each_weights, ends-length, tables_pass}
use Rattle.collection.proofs.Verdicts.{both_good, room_good, then_good, settled, good_room, done_by}
use Rattle.sheet.specs.Read.{sheet_n, sheet_m, sheet_weights, read_verdict, ReadOutcome, read_outcome, read_of, filled}
use Rattle.sheet.specs.Sheet.{sheet_k, sheet_strings, Accepted}
use Rattle.sheet.specs.Text.{sheet_text, write_text}
use Rattle.sheet.specs.Write.{write_verdict, WriteOutcome, write_outcome, write_of}
use Rattle.sheet.proofs.Accepted.{Holds, sheet_good, accepted_text, accepted_holds}
use Rattle.sheet.proofs.Taken.{Within, read_takes, takes_read}
use Rattle.sheet.proofs.Written.{text_k, text_strings, text_accepted}

-- ─── what a filled READ leaves ───────────────────────────────────────────────

-- two answers of READ that are the same say the same
pub record FilledSame (k a b c k' a' b' c' : ℕ) : Type 0 where
  pub k_same : k ≡ k'
  pub letters_same : a ≡ a'
  pub ends_same : b ≡ b'
  pub weights_same : c ≡ c'

-- what an answer says is filled; nothing where it refuses
abbrev told : Result Filled Refusal → Filled
told (Ok f) = f
told (Err r) = record { k = 0; letters = 0; ends = 0; weights = 0 }

pub filled_same : {k a b c k' a' b' c' : ℕ} → filled k a b c ≡ filled k' a' b' c' → FilledSame k a b c k' a' b' c'
filled_same {k} {a} {b} {c} e =
    record {
      k_same = ap (λ (r : Result Filled Refusal). (told r).k) e;
      letters_same = ap (λ (r : Result Filled Refusal). (told r).letters) e;
      ends_same = ap (λ (r : Result Filled Refusal). (told r).ends) e;
      weights_same = ap (λ (r : Result Filled Refusal). (told r).weights) e;
    }

-- what READ did where it answered `Filled`
pub record ReadDone (bs : List ℕ) (t : Tables) (k a b c : ℕ) : Type 0 where
  pub accepted : Accepted bs
  pub within : Within bs (rooms_of t)
  pub k_is : k ≡ sheet_k bs
  pub letters_are : take a (read_of bs t).after.letters ≡ letters_in (sheet_strings bs)
  pub ends_are : take b (read_of bs t).after.ends ≡ ends_in 0 (sheet_strings bs)
  pub weights_are : take c (read_of bs t).after.weights ≡ weights_in (sheet_strings bs)

module _ (bs : List ℕ) (t : Tables) where
  read_done : ReadOutcome
  read_done =
      read_outcome (filled (sheet_k bs) (sheet_n bs) (sheet_m bs) (sheet_weights bs)) (filled_by (sheet_strings bs) t)

  read_good : read_verdict bs (rooms_of t) ≡ good → read_of bs t ≡ read_done
  unfolding read_of read_done
  read_good h = sym (settled _ refl h)

  filled_good : (k a b c : ℕ) → (read_of bs t).answer ≡ filled k a b c → read_verdict bs (rooms_of t) ≡ good
  unfolding read_of
  filled_good k a b c e = (done_by (λ (o : ReadOutcome). o.answer) _ _ _ (filled k a b c) (λ r q. refuted (cc)) e).0

  -- where READ answers `Filled`, it took the sheet, and its tables start with what the sheet means
  pub read_done_lem : (k a b c : ℕ) → (read_of bs t).answer ≡ filled k a b c → ReadDone bs t k a b c
  unfolding read_done
  read_done_lem k a b c e =
      let h = filled_good k a b c e in
      let r = read_good h in
      let taken = read_takes bs _ h in
      let q = filled_same (sym (ap (λ (o : ReadOutcome). o.answer) r) ∙ e) in
      record {
        accepted = taken.0;
        within = taken.1;
        k_is = sym q.k_same;
        letters_are = ap (λ (o : ReadOutcome). take a o.after.letters) r ∙ take_at (letters_in (sheet_strings bs)) _ a q.letters_same;
        ends_are = ap (λ (o : ReadOutcome). take b o.after.ends) r
            ∙ take_at (ends_in 0 (sheet_strings bs)) _ b (ends-length 0 (sheet_strings bs) ∙ q.ends_same);
        weights_are = ap (λ (o : ReadOutcome). take c o.after.weights) r ∙ take_at (weights_in (sheet_strings bs)) _ c q.weights_same;
      }

-- the tables of an accepted sheet within the limits pass 2 to 6
accepted_passes : (bs : List ℕ) {r : Rooms} → Accepted bs → Within bs r → Passes (joined (sheet_k bs) (sheet_strings bs))
accepted_passes bs h w =
    let ss : List Str = sheet_strings bs in
    let e = accepted_holds bs h in
    tables_pass (sheet_k bs) ss (sheet_good bs h).range (good_size w.few_letters w.few_strings)
    (all_map (λ s x. x.whole) ss e) (all_map (λ s x. every-all is_letter s.letters x.letters) ss e)
    (all_map (λ s x. every-all is_weight s.weights x.weights) ss e)

-- the text of the tables of an accepted sheet is the sheet
accepted_written : (bs : List ℕ) → Accepted bs → write_text (joined (sheet_k bs) (sheet_strings bs)) ≡ bs
unfolding write_text
accepted_written bs h =
    ap (sheet_text (sheet_k bs)) (strings-back (sheet_k bs) (sheet_strings bs) (all_map (λ s x. x.whole) (sheet_strings bs) (accepted_holds bs h)))
    ∙ accepted_text bs h

-- WRITE of a collection that passes, into a table with room
write_good : (c : Collection) (sheet : List ℕ) → Passes c → length (write_text c) ≤ length sheet
    → write_of c sheet ≡ write_outcome (Ok (length (write_text c))) (fill (write_text c) sheet)
unfolding write_of write_verdict
write_good c sheet p l = sym (settled _ refl (then_good _ p (good_room l)))

module _ (bs : List ℕ) (t : Tables) (k a b c : ℕ) (e : (read_of bs t).answer ≡ filled k a b c) where
  -- the collection that READ filled in
  abbrev collection_read_lem : Collection
  collection_read_lem = collection_in k a b c (read_of bs t).after

  done : ReadDone bs t k a b c
  done = read_done_lem bs t k a b c e

  -- it is the sheet's
  pub read_is : collection_read_lem ≡ joined (sheet_k bs) (sheet_strings bs)
  read_is = λ i. collection (done.k_is i) (done.letters_are i) (done.ends_are i) (done.weights_are i)

  -- what READ gives passes 2 to 6
  pub read_passes : Passes collection_read_lem
  read_passes = ap collection_verdict read_is ∙ accepted_passes bs done.accepted done.within

  -- WRITE of what READ gives is the same bytes
  pub write_of_read : (sheet : List ℕ) → length bs ≤ length sheet → write_of collection_read_lem sheet ≡ write_outcome (Ok (length bs))
      (fill bs sheet)
  write_of_read sheet l =
      let t : write_text collection_read_lem ≡ bs = ap write_text read_is ∙ accepted_written bs done.accepted in
      write_good collection_read_lem sheet read_passes (omega (arith, ap length t))
      ∙ ap (λ (x : List ℕ). write_outcome (Ok (length x)) (fill x sheet)) t

-- ─── what a WRITE leaves ─────────────────────────────────────────────────────

module _ (c : Collection) (sheet : List ℕ) (n : ℕ) (e : (write_of c sheet).answer ≡ Ok n) where
  written_good : write_verdict c (length sheet) ≡ good
  unfolding write_of
  written_good = (done_by (λ (o : WriteOutcome). o.answer) _ _ _ (Ok n) (λ r q. refuted (cc)) e).0

  -- what was written passes 2 to 6
  pub written_passes : Passes c
  unfolding write_verdict
  written_passes = (both_good (collection_verdict c) _ written_good).0

  -- the first n bytes are the collection's text
  pub written_text : take n (write_of c sheet).sheet ≡ write_text c
  unfolding write_verdict
  written_text =
      let t : List ℕ = write_text c in
      let r = write_good c sheet written_passes (room_good _ _ (both_good (collection_verdict c) _ written_good).1) in
      let q : ◌≡◌ {A = Result ℕ Refusal} (Ok (length t)) (Ok n) = sym (ap (λ (o : WriteOutcome). o.answer) r) ∙ e in
      let l : length t ≡ n = cc in
      ap (λ (o : WriteOutcome). take n o.sheet) r ∙ take_at t _ n l

-- the text of a collection that passes is accepted, and means the collection
record Back (c : Collection) (bs : List ℕ) : Type 0 where
  accepted : Accepted bs
  k_is : sheet_k bs ≡ c.k
  letters_are : letters_in (sheet_strings bs) ≡ c.letters
  ends_are : ends_in 0 (sheet_strings bs) ≡ c.ends
  weights_are : weights_in (sheet_strings bs) ≡ c.weights

passes_k : (c : Collection) → Passes c → k_verdict c.k ≡ good
unfolding collection_verdict shape_verdict
passes_k c p = (both_good (k_verdict c.k) _ (both_good (shape_verdict (spelling_of c)) _ p).0).0

text_back : (c : Collection) → Passes c → Back c (write_text c)
unfolding write_text
text_back c p =
    let j = collection_good c p in
    let ss : List Str = strings c in
    let w = strings_whole c j.shape j.counted in
    let a = each_letters (λ b. is_letter b ≡ true) c.k 0 c.letters c.ends c.weights j.all_letters in
    let b = each_weights (λ w. is_weight w ≡ true) c.k 0 c.letters c.ends c.weights j.all_weights in
    let h = holds ss w a b in
    let v = passes_k c p in
    let r = text_strings c.k ss v h in
    record {
      accepted = text_accepted c.k ss v h;
      k_is = text_k c.k ss v h;
      letters_are = ap letters_in r ∙ ap (λ (x : Collection). x.letters) (strings-joined c j.shape j.counted);
      ends_are = ap (ends_in 0) r ∙ ap (λ (x : Collection). x.ends) (strings-joined c j.shape j.counted);
      weights_are = ap weights_in r ∙ ap (λ (x : Collection). x.weights) (strings-joined c j.shape j.counted);
    }
  where
    holds : (ss : List Str) → All (Whole c.k) ss → All (λ s. All (λ b. is_letter b ≡ true) s.letters) ss
        → All (λ s. All (λ w. is_weight w ≡ true) s.weights) ss → All (Holds c.k) ss
    holds [] w a b = tt
    holds (s ∷ ss) w a b = (
      record { whole = w.0; letters = all-every is_letter s.letters a.0; weights = all-every is_weight s.weights b.0 },
      holds ss w.1 a.1 b.1,
    )

-- READ of what WRITE gives is the same collection
pub read_of_write : (c : Collection) (sheet : List ℕ) (n : ℕ) → (write_of c sheet).answer ≡ Ok n
    → (t : Tables) → length c.letters ≤ length t.letters → length c.ends ≤ length t.ends → length c.weights ≤ length t.weights
    → read_of (take n (write_of c sheet).sheet) t
    ≡ read_outcome (filled c.k (length c.letters) (length c.ends) (length c.weights))
    (tables (fill c.letters t.letters) (fill c.ends t.ends) (fill c.weights t.weights))
unfolding read_done
read_of_write c sheet n e t letters-fit ends-fit weights-fit =
    let bs : List ℕ = write_text c in
    let p = written_passes c sheet n e in
    let back = text_back c p in
    let s = (collection_good c p).shape in
    let N : sheet_n bs ≡ length c.letters = ap length back.letters_are in
    let m : sheet_m bs ≡ length c.ends = sym (ends-length 0 (sheet_strings bs)) ∙ ap length back.ends_are in
    let w : sheet_weights bs ≡ length c.weights = ap length back.weights_are in
    let within : Within bs (rooms_of t) =
    record {
      few_letters =
          omega (arith, s.letters_high);
      few_strings = omega (arith, s.m_high);
      letters_room = omega arith;
      ends_room = omega arith;
      weights_room = omega arith;
    } in
    let g : read_verdict bs (rooms_of t) ≡ good = takes_read bs _ back.accepted within in
    ap (λ (x : List ℕ). read_of x t) (written_text c sheet n e)
    ∙ (read_good bs t g
    ∙ (λ i.
    read_outcome (filled (back.k_is i) (N i) (m i) (w i))
    (tables (fill (back.letters_are i) t.letters) (fill (back.ends_are i) t.ends) (fill (back.weights_are i) t.weights))))
