-- What READ comes to: the judged sheet and its tables, then the outcome. Assumes nothing.
use mathlib.Core.Path.{◌≡◌, refl, sym, ap, ◌∙◌}
use mathlib.Core.Bool.{Bool, true}
use mathlib.Core.List.{List}
use Rattle.sheet_read.specs.declared.Held.{Held}
use Rattle.collection.specs.declared.refusal.Refusal.TheVariants.{Line}
use Rattle.collection.specs.declared.refusal.Refusal.{Refusal}
use Rattle.std.specs.Prelude.{None, Some, Err, Ok, Result}
use Prim.Native.Nat.{ℕ, ◌+◌}
use native.Mathlib.Omega.{arith}
use lib.ListN.{length}
use Rattle.lists.specs.Choose.{choose}
use Rattle.lists.proofs.Refuted.{refuted}
use Rattle.collection.specs.Strings.{Str, letters_in, weights_in}
use Rattle.collection.specs.Tables.{Tables, filled_by, Rooms, rooms_of}
use Rattle.collection.specs.Verdict.{settle, Verdict, good}
use Rattle.collection.proofs.Verdicts.{both_good, test_good, then_bad, then_good, refused, settled, done_by}
use Rattle.text.specs.Parts.{up_to, later, feed}
use Rattle.sheet.specs.Read.{sheet_n, sheet_m, sheet_weights, read_verdict, read_outcome, read_of, filled}
use Rattle.sheet.specs.Sheet.{sheet_k, sheet_strings, is_head, strings_of, first_wrong, sheet_verdict}
use Rattle.sheet.proofs.Accepted.{sheet_good}
use Rattle.sheet.proofs.Taken.{read_takes}
use Rattle.sheet_lines.specs.Cursor.{head, head_of, lines_at, strings_at}
use Rattle.sheet_read.specs.Judged.{judged_of, judged_in, held, counts_verdict, read_as}
use Rattle.sheet_read.specs.Fits.{Fits}
use Rattle.sheet_read.proofs.Refusals.{Headed, headed}

-- ─── a settled judgement, taken apart ────────────────────────────────────────

module _ (s : List ℕ) (v : Verdict) where
  was_bad : {r : Refusal} → settle v Err (held s) ≡ Err r → v ≡ Err r
  unfolding settle
  was_bad {r} h = go v refl h
    where
      go : (w : Verdict) → v ≡ w → settle w Err (held s) ≡ Err r → v ≡ Err r
      go (Ok u) e q = refuted (cc)
      go (Err n) e q = let a : n ≡ r = cc in e ∙ ap (λ (x : Refusal). Err x) a

  was_good : {k next n m w : ℕ} → settle v Err (held s) ≡ read_as k next n m w → (v ≡ good) × (held s ≡ read_as k next n m w)
  was_good {k} {next} {n} {m} {w} h =
      let a = done_by (λ (j : Result Held Refusal). j) v Err (held s) (read_as k next n m w) (λ r q. refuted (cc)) h in
      (a.0, a.2)

-- what the lines hold, and where line 2 starts
record Holding (s : List ℕ) (k next n m w : ℕ) : Type 0 where
  k_is : sheet_k s ≡ k
  next_is : length (up_to feed s) + 1 ≡ next
  n_is : sheet_n s ≡ n
  m_is : sheet_m s ≡ m
  w_is : sheet_weights s ≡ w

-- what a judged sheet holds; nothing where it is refused
abbrev told : Result Held Refusal → Held
told (Ok h) = h
told (Err r) = record { k = 0; next = 0; letters = 0; strings = 0; weights = 0 }

holding : (s : List ℕ) {k next n m w : ℕ} → held s ≡ read_as k next n m w → Holding s k next n m w
holding s h = record {
  k_is = ap (λ (r : Result Held Refusal). (told r).k) h;
  next_is = ap (λ (r : Result Held Refusal). (told r).next) h;
  n_is = ap (λ (r : Result Held Refusal). (told r).letters) h;
  m_is = ap (λ (r : Result Held Refusal). (told r).strings) h;
  w_is = ap (λ (r : Result Held Refusal). (told r).weights) h;
}

-- ─── a judged sheet, then its tables ─────────────────────────────────────────

module _ (s : List ℕ) (r : Rooms) {j : Result Held Refusal} (e : j ≡ judged_of s) where
  -- refused by a line or by k
  pub lines_refused : {refusal : Refusal} → j ≡ Err refusal → Err refusal ≡ judged_in s r
  unfolding judged_of judged_in read_verdict
  lines_refused q = refused Err _ (then_bad _ (was_bad s (sheet_verdict s) (sym e ∙ q)))

  module _ {k next n m w : ℕ} (q : j ≡ read_as k next n m w) where
    fine : (sheet_verdict s ≡ good) × (held s ≡ read_as k next n m w)
    unfolding judged_of
    fine = was_good s (sheet_verdict s) (sym e ∙ q)

    read_verdict_lem : {v : Verdict} → counts_verdict n m w r ≡ v → read_verdict s r ≡ v
    unfolding read_verdict
    read_verdict_lem t =
        let h = holding s fine.1 in
        then_good _ fine.0 ((λ i. counts_verdict (h.n_is i) (h.m_is i) (h.w_is i) r) ∙ t)

    -- refused by 3 or 1
    pub tables_refused : {v : Verdict} {refusal : Refusal} → v ≡ counts_verdict n m w r → v ≡ Err refusal → Err refusal ≡ judged_in s r
    unfolding judged_in
    tables_refused t f = refused Err _ (read_verdict_lem (sym t ∙ f))

    pub tables_good : {v : Verdict} → v ≡ counts_verdict n m w r → v ≡ good → read_as k next n m w ≡ judged_in s r
    unfolding judged_in
    tables_good t f = settled Err (sym fine.1) (read_verdict_lem (sym t ∙ f))

-- ─── the outcome ─────────────────────────────────────────────────────────────

-- an accepted sheet's line 1, and the lines behind it
accepted_head : (s : List ℕ) → sheet_verdict s ≡ good → Headed s (sheet_k s) (length (up_to feed s) + 1)
unfolding sheet_verdict head_of
accepted_head s h =
    let g : is_head (up_to feed s) (later feed s) ≡ true = (test_good _ (Line 1) good (both_good _ _ h).0).0 in
    headed s _ _ (ap (λ (t : Bool). choose t (Some (head (sheet_k s) (length (up_to feed s) + 1))) None) g)

module _ (s : List ℕ) (t : Tables) {j : Result Held Refusal} (e : j ≡ judged_in s (rooms_of t)) where
  -- a refusal leaves the tables
  pub read_refused : {r : Refusal} → j ≡ Err r → read_outcome (Err r) t ≡ read_of s t
  unfolding judged_in read_of
  read_refused q = refused (λ r. read_outcome (Err r) t) _ (was_bad s (read_verdict s _) (sym e ∙ q))

  module _ {k next n m w : ℕ} (q : j ≡ read_as k next n m w) where
    taken : (read_verdict s (rooms_of t) ≡ good) × (held s ≡ read_as k next n m w)
    unfolding judged_in
    taken = was_good s (read_verdict s _) (sym e ∙ q)

    strings-left : strings_at s next ≡ sheet_strings s
    strings-left =
        let a = read_takes s _ taken.0 in
        let h = holding s taken.1 in
        ap (λ (x : ℕ). strings_at s x) (sym h.next_is) ∙ ap strings_of (accepted_head s a.0).lines

    -- the judged lines may fill the tables
    pub read_fits : Fits k s next (length t.letters) (length t.ends) (length t.weights)
    read_fits =
        let a = read_takes s _ taken.0 in
        let h = holding s taken.1 in
        let d = accepted_head s a.0 in
        let l : lines_at s next ≡ later feed s = ap (λ (x : ℕ). lines_at s x) (sym h.next_is) ∙ d.lines in
        let w = a.1 in
        let p : length (letters_in (strings_at s next)) ≡ sheet_n s = ap (λ (ss : List Str). length (letters_in ss)) strings-left in
        let r : length (strings_at s next) ≡ sheet_m s = ap length strings-left in
        let u : length (weights_in (strings_at s next)) ≡ sheet_weights s = ap (λ (ss : List Str). length (weights_in ss)) strings-left in
        record {
          inside = omega (arith, d.inside, h.next_is);
          lines = (λ i. first_wrong (sym h.k_is i) 2 (l i)) ∙ (sheet_good s a.0).lines;
          small = omega (arith, w.few_letters);
          letters_room = omega (arith, w.letters_room);
          ends_room = omega (arith, w.ends_room);
          weights_room = omega (arith, w.weights_room);
        }

    -- filled from the judged lines they are what READ leaves
    pub read_filled : {after : Tables} → after ≡ filled_by (strings_at s next) t → read_outcome (filled k n m w) after ≡ read_of s t
    unfolding read_of
    read_filled {after} f =
        let h = holding s taken.1 in
        settled (λ r. read_outcome (Err r) t)
        ((λ i. read_outcome (filled (sym h.k_is i) (sym h.n_is i) (sym h.m_is i) (sym h.w_is i)) (f i))
        ∙ ap (λ (ss : List Str). read_outcome (filled (sheet_k s) (sheet_n s) (sheet_m s) (sheet_weights s)) (filled_by ss t)) strings-left)
        taken.0
