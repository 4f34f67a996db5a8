-- QUICK over the index of a collection finds what PLAIN finds, for every collection and every choice of minimizer: a word that stands there stands in the row
-- of its minimizer, and the rows keep the order of the handles. Assumes nothing.
use mathlib.Core.Path.{◌≡◌, refl, sym, ap, ◌∙◌, subst}
use mathlib.Core.Bool.{Bool, true, false}
use mathlib.Core.List.{List, [], ◌∷◌}
use Prim.Native.Nat.{ℕ, suc, ◌<◌}
use native.Mathlib.Decide.{ℕ_discrete}
use lib.ListN.{length}
use Rattle.plain.specs.declared.Standing.{Standing}
use Rattle.std.specs.Prelude.{Err, Option, None}
use Rattle.collection.specs.Verdict.{good}
use Rattle.collection.specs.declared.refusal.Refusal.TheVariants as refusal
use Rattle.lists.specs.Choose.{choose}
use Rattle.lists.specs.First.{first_from}
use Rattle.lists.specs.Pick.{pick}
use Rattle.lists.proofs.Every.{and_both, same_is}
use Rattle.lists.proofs.Picks.{pick_nil, pick_here, pick_other}
use Rattle.words.specs.Word.{word_at, turn}
use Rattle.collection.specs.Collection.{spelling}
use Rattle.collection.specs.declared.Side.{Side}
use Rattle.collection.specs.declared.Side.TheVariants.{Asked, Turned}
use Rattle.collection.specs.Kmers.{kmers}
use Rattle.collection.proofs.Judged.{Shape}
use Rattle.plain.specs.Plain.{lowest, found_or, plain_found}
use Rattle.plain.specs.Says.{Says}
use Rattle.plain.proofs.Found.{plain_says}
use Rattle.index_stretches.specs.Index.{Index, indexed, row_of}
use Rattle.index_stretches.specs.Stretches.{Kmer, numbered, walk}
use Rattle.index_stretches.proofs.Fits.{tables_fit_lem, row_fits_lem}
use Rattle.index_stretches.proofs.Rows.{row_walks}
use Rattle.quick.specs.declared.QuickAnswer.{QuickAnswer}
use Rattle.quick.specs.declared.QuickAnswer.TheVariants.{Absent}
use Rattle.quick_walks.specs.Walk.{is_word, seek}
use Rattle.quick.specs.Quick.{met_or, quick_found, rows_verdict, index_verdict}
use Rattle.dictionary.specs.Agreement.{unnumbered}

-- ─── a row is enough ─────────────────────────────────────────────────────────

-- a walk over the k-mers of the minimizer v meets what is first of all, where all that is sought has the minimizer v
module _ (q : ℕ → ℕ) (v : ℕ) (test : ℕ → Bool) (only : (a : ℕ) → test a ≡ true → q a ≡ v) where
  seek_first : (side : Side) (next : ℕ → QuickAnswer) (other : Option Standing) → ((c : ℕ) → unnumbered (next c) ≡ other)
      → (c h : ℕ) (xs : List ℕ)
      → unnumbered (met_or side (seek test c (pick (λ x. q x.at) v (numbered (suc h) xs))) next) ≡ found_or side (first_from test h xs) other
  unfolding numbered seek met_or found_or first_from unnumbered
  seek_first side next other on c h [] = rw (pick_nil (λ (x : Kmer). q x.at) v) (on c)
  seek_first side next other on c h (a ∷ xs) = go (λ n. seek_first side next other on n (suc h) xs) (test a) refl (ℕ_discrete (q a) v)
    where
      f : Kmer → ℕ
      f x = q x.at

      first : Kmer
      first = record { handle = suc h; at = a }

      rest : List Kmer
      rest = numbered (suc (suc h)) xs

      go : ((n : ℕ) → unnumbered (met_or side (seek test n (pick f v rest)) next) ≡ found_or side (first_from test (suc h) xs) other)
          → (t : Bool) → test a ≡ t → Dec (q a ≡ v)
          → unnumbered (met_or side (seek test c (pick f v (first ∷ rest))) next) ≡ found_or side (choose (test a) (suc h) (first_from test (suc h) xs)) other
      go ih true e (yes y) = rw (pick_here f v first rest y, e)
      go ih true e (no n) = absurd (n (only a e))
      go ih false e (yes y) = rw (pick_here f v first rest y, e) (ih (suc c))
      go ih false e (no n) = rw (pick_other f v first rest n, e) (ih c)

-- ─── QUICK and PLAIN agree ───────────────────────────────────────────────────

module _ (z : List ℕ → ℕ) (d k : ℕ) (letters ends : List ℕ) where
  abbrev minimizer_of : ℕ → ℕ
  minimizer_of a = z (word_at k letters a)

  abbrev index : Index
  index = indexed minimizer_of d k ends

  row_first : (side : Side) (next : ℕ → QuickAnswer) (other : Option Standing) → ((c : ℕ) → unnumbered (next c) ≡ other)
      → (c : ℕ) (w : List ℕ) → z w < d
      → unnumbered (met_or side (seek (is_word k letters w) c (walk (row_of index (z w)))) next) ≡ found_or side (lowest (spelling k letters ends) w) other
  unfolding lowest is_word
  row_first side next other on c w l =
      ap (λ (xs : List Kmer). unnumbered (met_or side (seek (is_word k letters w) c xs) next)) (row_walks minimizer_of d k ends (z w) l)
      ∙ seek_first minimizer_of (z w) (is_word k letters w) (λ a e. ap z (same_is (word_at k letters a) w e)) side next other on c 0 (kmers k ends)

  -- for every collection, every choice z of minimizers below d and every word
  pub quick_plain : (w : List ℕ) → z w < d → z (turn w) < d
      → unnumbered (quick_found z k letters (indexed (λ a. z (word_at k letters a)) d k ends) w) ≡ plain_found (spelling k letters ends) w
  unfolding quick_found plain_found unnumbered
  quick_plain w l m =
      row_first Asked (λ c. met_or Turned (seek (is_word k letters (turn w)) c (walk (row_of index (z (turn w))))) Absent)
      (found_or Turned (lowest (spelling k letters ends) (turn w)) None) (λ c. row_first Turned Absent None (λ n. refl) c (turn w) m) 0 w l

  -- it finds exactly the words that stand in the collection, as asked or turned, with their lowest handles
  pub quick_says : (w : List ℕ) → z w < d → z (turn w) < d
      → Says (spelling k letters ends) w (unnumbered (quick_found z k letters (indexed (λ a. z (word_at k letters a)) d k ends) w))
  quick_says w l m = subst (Says (spelling k letters ends) w) (sym (quick_plain w l m)) (plain_says (spelling k letters ends) w)

  -- 10 is never given for the index of a collection whose shape passes
  pub never_ten : Shape (spelling k letters ends) → (w : List ℕ) → z w < d → z (turn w) < d
      → index_verdict z d k (length letters) (indexed (λ a. z (word_at k letters a)) d k ends) w ≡ good
  unfolding rows_verdict
  never_ten s w l m =
      ap (λ (t : Bool). choose t good (Err refusal.Index))
      (and_both (tables_fit_lem minimizer_of d s) (and_both (row_fits_lem minimizer_of d s (z w) l) (row_fits_lem minimizer_of d s (z (turn w)) m)))
