-- The loop over the strings that stores the codes of all k-mers, string by string. By the laws of `Halves`. Assumes nothing.
use mathlib.Core.Path.{◌≡◌, sym, ap, ◌∙◌}
use mathlib.Core.List.{List, ◌++◌, map, append_assoc, append-nil, map-append}
use Prim.Native.Nat.{ℕ, ◌+◌, ◌-◌, ◌/◌, ◌%◌, ◌^◌, ◌<◌, ◌≤◌}
use native.Mathlib.Omega.{arith}
use borrow.Rule.Slice.PartMut.{put_mid}
use lib.ListN.{length, get_or, take, drop, length-append, length-drop, length-map, length-take}
use lib.Seq.{take-length}
use Rattle.std.proofs.lemmas.Slice.{take-put_mid}
use Rattle.lists.specs.Count.{count_from}
use Rattle.lists.proofs.Count.{length_count}
use Rattle.collection.specs.Collection.{Spelling}
use Rattle.collection.specs.Kmers.{within, kmers_from, kmers}
use Rattle.collection.proofs.Kmers.{kmers_next, kmers_end}
use Rattle.repeats_canonical.specs.Codes.{codes, Halved}
use Rattle.repeats_canonical.proofs.Halves.{halved_append}

-- i strings with `passed` k-mers have passed, the last of which ends at `before`, and the codes of these k-mers are stored
pub record Coding (t : Spelling) (i before passed : ℕ) (hi lo : List ℕ) : Type 0 where
  pub done : List ℕ
  pub counted : length done ≡ passed
  pub split : done ++ kmers_from t.k before (drop i t.ends) ≡ kmers t.k t.ends
  pub coded : Halved (codes t.k t.letters done) (take passed hi) (take passed lo)

module _ (t : Spelling) {i before passed : ℕ} {hi lo : List ℕ} (s : Coding t i before passed hi lo) (all : length hi ≡ length (kmers t.k t.ends))
    (same : length lo ≡ length hi) where
  -- behind the last one all codes are stored
  pub coding_end : length t.ends ≤ i → Halved (codes t.k t.letters (kmers t.k t.ends)) hi lo
  coding_end l =
      let e : s.done ≡ kmers t.k t.ends =
      sym (append-nil s.done) ∙ (ap (λ (xs : List ℕ). s.done ++ xs) (sym (kmers_end t.k before t.ends i l)) ∙ s.split) in
      let h : passed ≡ length hi = omega (arith, ap length e, s.counted) in
      let g : passed ≡ length lo = omega arith in
      record {
        upper = sym (ap (λ (m : ℕ). take m hi) h ∙ take-length hi) ∙ (s.coded.upper ∙ ap (λ (xs : List ℕ). map (λ c. c / 2 ^ 32) (codes t.k t.letters xs)) e);
        lower = sym (ap (λ (m : ℕ). take m lo) g ∙ take-length lo) ∙ (s.coded.lower ∙ ap (λ (xs : List ℕ). map (λ c. c % 2 ^ 32) (codes t.k t.letters xs)) e);
      }

  -- the next string, with a row of k-mers
  module _ (l : i < length t.ends) where
    abbrev pub row : List ℕ
    row = count_from before (within t.k before (get_or t.ends i 0))

    longer : (s.done ++ row) ++ kmers_from t.k (get_or t.ends i 0) (drop (i + 1) t.ends) ≡ kmers t.k t.ends
    longer =
        append_assoc s.done row (kmers_from t.k (get_or t.ends i 0) (drop (i + 1) t.ends))
        ∙ (ap (λ (xs : List ℕ). s.done ++ xs) (sym (kmers_next t.k before t.ends i l)) ∙ s.split)

    size : length (s.done ++ row) ≡ passed + within t.k before (get_or t.ends i 0)
    size = omega (arith, length-append s.done row, length_count before (within t.k before (get_or t.ends i 0)), s.counted)

    -- its codes have room
    pub coding_room : passed + within t.k before (get_or t.ends i 0) ≤ length hi
    coding_room = omega (arith, size, length-append (s.done ++ row) (kmers_from t.k (get_or t.ends i 0) (drop (i + 1) t.ends)), ap length longer)

    -- what is lent for them has one entry for each
    pub coding_lent : length (take (passed + within t.k before (get_or t.ends i 0) - passed) (drop passed hi)) ≡ within t.k before (get_or t.ends i 0)
    coding_lent = simp (length-take, length-drop) (omega (arith, coding_room))

    -- and they are stored behind those before
    pub coding_on : {high low : List ℕ}
        → Halved (codes t.k t.letters (count_from before (length (take (passed + within t.k before (get_or t.ends i 0) - passed) (drop passed hi))))) high low
        → Coding t (i + 1) (get_or t.ends i 0) (passed + within t.k before (get_or t.ends i 0))
        (put_mid passed (passed + within t.k before (get_or t.ends i 0) - passed) hi high)
        (put_mid passed (passed + within t.k before (get_or t.ends i 0) - passed) lo low)
    coding_on {high} {low} stored =
        let n : ℕ = within t.k before (get_or t.ends i 0) in
        let h : Halved (codes t.k t.letters row) high low = rw coding_lent at stored in
        let a : length high ≡ n = ap length h.upper ∙ simp (length-map, length_count) in
        let b : length low ≡ n = ap length h.lower ∙ simp (length-map, length_count) in
        record {
          done = s.done ++ row;
          counted = size;
          split = longer;
          coded =
              rw (
                take-put_mid passed (passed + n - passed) hi high (passed + n) (omega arith) (omega (arith, coding_room)),
                take-put_mid passed (passed + n - passed) lo low (passed + n) (omega arith) (omega (arith, coding_room)),
                map-append,
              )
              (halved_append (codes t.k t.letters s.done) (codes t.k t.letters row) s.coded h);
        }
