-- How many k-mers QUICK compares, over any index: those of the walk up to and with the one it answers, or all of both rows. Assumes nothing.
use mathlib.Core.Path.{◌≡◌, refl, ap, ◌∙◌}
use mathlib.Core.Bool.{Bool, true, false}
use mathlib.Core.List.{List, [], ◌∷◌, ◌++◌}
use Prim.Native.Nat.{ℕ, suc, ◌+◌}
use native.Mathlib.Omega.{arith}
use lib.ListN.{length}
use Rattle.lists.specs.Choose.{choose}
use Rattle.lists.specs.Every.{All}
use Rattle.words.specs.Word.{turn}
use Rattle.collection.specs.declared.Side.TheVariants.{Asked, Turned}
use Rattle.index_stretches.specs.Index.{Index, row_of}
use Rattle.index_stretches.specs.Stretches.{Kmer, walk}
use Rattle.quick_walks.specs.declared.Met.{Met}
use Rattle.quick_walks.specs.declared.Met.TheVariants.{Hit, Miss}
use Rattle.quick.specs.declared.QuickAnswer.{QuickAnswer}
use Rattle.quick.specs.declared.QuickAnswer.TheVariants.{Found, Absent}
use Rattle.quick_walks.specs.Walk.{is_word, seek}
use Rattle.quick.specs.Quick.{met_or, quick_found}

-- ─── one walk ────────────────────────────────────────────────────────────────

module _ (test : ℕ → Bool) where
  -- none of the k-mers meets the test
  abbrev pub None : List Kmer → Type 0
  None xs = All (λ x. test x.at ≡ false) xs

  -- The first k-mer of xs that meets the test has this handle; where c were compared before, `compared` are with it.
  pub record Meets (c : ℕ) (xs : List Kmer) (handle compared : ℕ) : Type 0 where
    pub passed : List Kmer
    pub here : Kmer
    pub left : List Kmer
    pub split : xs ≡ passed ++ (here ∷ left)
    pub none_passed : None passed
    pub meets : test here.at ≡ true
    pub is_handle : handle ≡ here.handle
    pub counted : compared ≡ c + length passed + 1

  -- how a walk ends
  pub data Walked (c : ℕ) (xs : List Kmer) : Met → Type 0 where
    meeting : (handle compared : ℕ) → Meets c xs handle compared → Walked c xs (Hit handle compared)
    past : (compared : ℕ) → compared ≡ c + length xs → None xs → Walked c xs (Miss compared)

  -- a walk ends at the first k-mer that meets the test, or past them all
  pub seek_walks : (c : ℕ) (xs : List Kmer) → Walked c xs (seek test c xs)
  unfolding seek
  seek_walks c [] = past c (omega arith) tt
  seek_walks c (x ∷ xs) = go (test x.at) refl (seek_walks (suc c) xs)
    where
      later : {m : Met} → test x.at ≡ false → Walked (suc c) xs m → Walked c (x ∷ xs) m
      later e (meeting handle compared w) =
          meeting handle compared
          (record {
            passed = x ∷ w.passed;
            here = w.here;
            left = w.left;
            split = ap (λ (l : List Kmer). x ∷ l) w.split;
            none_passed = (e, w.none_passed);
            meets = w.meets;
            is_handle = w.is_handle;
            counted = omega (arith, w.counted);
          })
      later e (past compared n none) = past compared (omega arith) (e, none)

      go : (t : Bool) → test x.at ≡ t → Walked (suc c) xs (seek test (suc c) xs)
          → Walked c (x ∷ xs) (choose t (Hit x.handle (suc c)) (seek test (suc c) xs))
      go true e w =
          meeting x.handle (suc c)
          (record { passed = []; here = x; left = xs; split = refl; none_passed = tt; meets = e; is_handle = refl; counted = omega arith })
      go false e w = later e w

-- ─── both walks ──────────────────────────────────────────────────────────────

module _ (z : List ℕ → ℕ) (k : ℕ) (letters : List ℕ) (index : Index) (w : List ℕ) where
  -- the k-mers under the word's minimizer, and those under its reverse complement's
  abbrev pub asked_row : List Kmer
  asked_row = walk (row_of index (z w))

  abbrev pub turned_row : List Kmer
  turned_row = walk (row_of index (z (turn w)))

  -- what each answer says of the walks
  pub data Compares : QuickAnswer → Type 0 where
    as_asked : (handle compared : ℕ) → Meets (is_word k letters w) 0 asked_row handle compared → Compares (Found handle Asked compared)
    as_turned : (handle compared : ℕ) → None (is_word k letters w) asked_row → Meets (is_word k letters (turn w)) (length asked_row) turned_row handle compared
        → Compares (Found handle Turned compared)
    absent : (compared : ℕ) → compared ≡ length asked_row + length turned_row → None (is_word k letters w) asked_row
        → None (is_word k letters (turn w)) turned_row
        → Compares (Absent compared)

  -- the number compared is exact
  pub quick_compares : Compares (quick_found z k letters index w)
  unfolding quick_found met_or
  quick_compares = first (seek_walks (is_word k letters w) 0 asked_row)
    where
      second : (c : ℕ) → c ≡ length asked_row → None (is_word k letters w) asked_row → {m : Met} → Walked (is_word k letters (turn w)) c turned_row m
          → Compares (met_or Turned m Absent)
      second c e none (meeting handle compared v) =
          as_turned handle compared none
          (record {
            passed = v.passed;
            here = v.here;
            left = v.left;
            split = v.split;
            none_passed = v.none_passed;
            meets = v.meets;
            is_handle = v.is_handle;
            counted = omega (arith, v.counted);
          })
      second c e none (past compared n none') = absent compared (omega arith) none none'

      first : {m : Met} → Walked (is_word k letters w) 0 asked_row m
          → Compares (met_or Asked m (λ c. met_or Turned (seek (is_word k letters (turn w)) c turned_row) Absent))
      first (meeting handle compared v) = as_asked handle compared v
      first (past c n none) = second c (omega arith) none (seek_walks (is_word k letters (turn w)) c turned_row)

  -- absent, all of both rows were compared
  pub absent_compares_all : (compared : ℕ) → quick_found z k letters index w ≡ Absent compared → compared ≡ length asked_row + length turned_row
  absent_compares_all compared e = go quick_compares e
    where
      go : {answer : QuickAnswer} → Compares answer → answer ≡ Absent compared → compared ≡ length asked_row + length turned_row
      go (as_asked handle n v) q = cc
      go (as_turned handle n none v) q = cc
      go (absent n e none none') q = let s : compared ≡ n = cc in s ∙ e
