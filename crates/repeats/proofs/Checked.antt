-- What CHECK's answer says: it succeeds exactly if the collection passes 2 to 6, work has its 4n entries, and no two handles have equal or turned-equal words.
-- By the cases of the verdicts. Assumes nothing.
use mathlib.Core.Path.{◌≡◌, refl, sym, ap, ◌∙◌}
use mathlib.Core.List.{List}
use Prim.Native.Nat.{ℕ, ◌*◌, ◌≤◌}
use lib.ListN.{length}
use Rattle.std.specs.Prelude.{Ok, Err, Result}
use Rattle.collection.specs.declared.refusal.Refusal.TheVariants.{Repeated}
use Rattle.collection.specs.declared.refusal.Refusal.{Refusal}
use Rattle.lists.proofs.Refuted.{refuted}
use Rattle.collection.specs.Collection.{Collection, spelling_of}
use Rattle.collection.specs.Judge.{kmers_in, collection_verdict, Passes}
use Rattle.collection.specs.Kmers.{kmers}
use Rattle.collection.specs.Verdict.{at_place, good}
use Rattle.collection.proofs.Judged.{collection_good}
use Rattle.collection.proofs.Verdicts.{both_good, room_good, good_room, then_good, settled, place_none, place_good, done_by}
use Rattle.collection.specs.Ready.{Ready}
use Rattle.collection.proofs.Ready.{judged_ready}
use Rattle.collection.proofs.Strung.{each_weighed}
use Rattle.repeats.specs.Check.{check_verdict, check_of, outcome, Outcome, first_repeat, Accepted}
use Rattle.repeats.proofs.Repeats.{none-distinct, distinct_none}

module _ (c : Collection) where
  abbrev n : ℕ
  n = kmers_in (spelling_of c)

  -- ─── 2 to 6, and 1 ─────────────────────────────────────────────────────────

  -- what a collection and a room that pass keep to
  pub record Started (room : ℕ) : Type 0 where
    pub passes : Passes c
    pub enough : 4 * n ≤ room
    pub counted : length c.weights ≡ n
    pub each : length c.weights ≡ length (kmers c.k c.ends)
    pub ready : Ready (spelling_of c)

  -- a good verdict tells all of this
  pub check_started : (room : ℕ) → check_verdict c room ≡ good → Started room
  unfolding check_verdict
  check_started room e =
      let a = both_good (collection_verdict c) _ e in
      let j = collection_good c a.0 in
      record {
        passes = a.0;
        enough = room_good room _ a.1;
        counted = j.counted;
        each = each_weighed j;
        ready = judged_ready j;
      }

  check_good : (room : ℕ) → Passes c → 4 * n ≤ room → check_verdict c room ≡ good
  unfolding check_verdict
  check_good room p l = then_good _ p (good_room l)

  -- ─── success ───────────────────────────────────────────────────────────────

  same_count : {i j : ℕ} → ◌≡◌ {A = Result ℕ Refusal} (Ok i) (Ok j) → j ≡ i
  same_count e = cc

  module _ (work : List ℕ) where
    -- an answer of success says that the collection is accepted
    pub check_distinct : (m : ℕ) → (check_of c work).answer ≡ Ok m → Accepted c (length work) × (m ≡ n)
    unfolding check_of
    check_distinct m e =
        let a = done_by (λ (o : Outcome). o.answer) (check_verdict c (length work)) _ _ (Ok m) (λ r q. refuted (cc)) e in
        let b = done_by (λ (r : (Result ℕ Refusal)). r) (at_place Repeated (first_repeat (spelling_of c))) Err (Ok n) (Ok m) (λ r q. refuted (cc))
        a.2 in
        let s = check_started (length work) a.0 in
        (record { passes = s.passes; enough = s.enough; distinct = none-distinct (spelling_of c) s.ready (place_good Repeated _ b.0) }, same_count b.2)

    -- and an accepted collection is answered with success
    pub distinct_check : Accepted c (length work) → (check_of c work).answer ≡ Ok n
    unfolding check_of
    distinct_check s =
        let g = check_good (length work) s.passes s.enough in
        let p = sym (place_none Repeated (distinct_none (spelling_of c) (check_started (length work) g).ready s.distinct)) in
        ap (λ (o : Outcome). o.answer) (sym (settled (λ r. outcome (Err r) work) refl g)) ∙ sym (settled Err refl p)
