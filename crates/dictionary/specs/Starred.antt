-- The worked examples that are proved, as one list.
-- Specification: 13.1.
use Rattle.collection.specs.declared.refusal.Refusal.TheVariants.{Weights, Places}
use Rattle.collection.specs.Verdict.{good}
use Rattle.collection.specs.declared.refusal.Refusal.{Refusal}
use Rattle.std.specs.Prelude.{◌≡◌, List, [], ◌∷◌, ℕ, ℤ, pos, negsuc, Result, Option, Ok, Err, Some}
use Prim.Native.Char.{code as char_code}
use Prim.Native.String.{String}
use Prim.Native.String as text
use Rattle.words.specs.Word.{code, word_at}
use Rattle.collection.specs.Collection.{spelling, collection}
use Rattle.collection.specs.declared.Side.TheVariants.{Turned}
use Rattle.collection.specs.Judge.{k_verdict, collection_verdict}
use Rattle.collection.specs.Strings.{letters_in, ends_in, weights_in}
use Rattle.collection.specs.EndWeights.{end_weights}
use Rattle.sheet.specs.Sheet.{sheet_k, sheet_strings}
use Rattle.cover_trails.specs.Groups.{least}
use Rattle.apply_strings.specs.Reordered.{reordered}
use Rattle.apply_places.specs.Places.{places_verdict}
use Rattle.runs.specs.Runs.{runs, weights_of_runs, firsts_of_runs}
use Rattle.cover_fewest.specs.Fewest.{least_runs}
use Rattle.index_minimizers.specs.Minimizer.{minimizer_at}
use Rattle.index_stretches.specs.Stretches.{stretch, of_string}
use Rattle.index.specs.Indexing.{index_with}
use Rattle.quick.specs.declared.QuickAnswer.{QuickAnswer}
use Rattle.quick.specs.declared.QuickAnswer.TheVariants.{Found, Absent}
use Rattle.quick.specs.Quick.{quick_of}
use Rattle.quick.specs.Weighed.{weighed_of}

-- ─── the sheet ───────────────────────────────────────────────────────────────

-- the bytes of a text: the codes of its characters
abbrev pub bytes : String → List ℕ
bytes text.[] = []
bytes (text.◌∷◌ c s) = char_code c ∷ bytes s

abbrev pub sheet : List ℕ
sheet = bytes "K\t3\nS\tAAACC\t2\t2\t5\nS\tAGAT\t7\t2\nS\tCAGCC\t7\t7\t3\nS\tTACA\t3\t5\n"

-- the strings AAACC AGAT CAGCC TACA, end to end
abbrev pub letters : List ℕ
letters = bytes "AAACCAGATCAGCCTACA"

abbrev pub ends : List ℕ
ends = 5 ∷ (9 ∷ (14 ∷ (18 ∷ [])))

abbrev pub weights : List ℕ
weights = 2 ∷ (2 ∷ (5 ∷ (7 ∷ (2 ∷ (7 ∷ (7 ∷ (3 ∷ (3 ∷ (5 ∷ [])))))))))

-- +1 +4 -3 -2
abbrev pub places : List ℤ
places = pos 1 ∷ (pos 4 ∷ (negsuc 2 ∷ (negsuc 1 ∷ [])))

-- AAACC TGTA GGCTG AGAT
abbrev pub letters' : List ℕ
letters' = bytes "AAACCTGTAGGCTGAGAT"

abbrev pub ends' : List ℕ
ends' = 5 ∷ (9 ∷ (14 ∷ (18 ∷ [])))

abbrev pub weights' : List ℕ
weights' = 2 ∷ (2 ∷ (5 ∷ (5 ∷ (3 ∷ (3 ∷ (7 ∷ (7 ∷ (7 ∷ (2 ∷ [])))))))))

-- a question, with p = 2, over the reordered collection
abbrev pub asked : List ℕ → Result QuickAnswer Refusal
asked word = quick_of 3 2 word letters' (index_with (spelling 3 letters' ends') 2)

abbrev pub weighed : List ℕ → Result (Option ℕ) Refusal
weighed word = weighed_of (asked word) (weights_of_runs weights') (firsts_of_runs weights') 10

-- ─── the list ────────────────────────────────────────────────────────────────

pub record Starred : Type 0 where
  -- the sheet has these tables
  pub sheet_read : (sheet_k sheet ≡ 3) × (letters_in (sheet_strings sheet) ≡ letters) × (ends_in 0 (sheet_strings sheet) ≡ ends)
      × (weights_in (sheet_strings sheet) ≡ weights)
  -- it has least 5
  pub least_five : least_runs (collection 3 letters ends weights) ≡ 5
  -- places +1 +4 -3 -2 give AAACC TGTA GGCTG AGAT, weights 2 2 5 5 3 3 7 7 7 2
  pub applied : (letters_in (reordered (collection 3 letters ends weights) places) ≡ letters')
      × (ends_in 0 (reordered (collection 3 letters ends weights) places) ≡ ends')
      × (weights_in (reordered (collection 3 letters ends weights) places) ≡ weights')
  -- runs (2,1) (5,3) (3,5) (7,7) (2,10)
  pub runs_listed : runs weights' ≡ (2, 1) ∷ ((5, 3) ∷ ((3, 5) ∷ ((7, 7) ∷ ((2, 10) ∷ []))))
  -- CAG is handle 8, side -, weight 7, 3 compared
  pub cag : (asked (bytes "CAG") ≡ Ok (Found 8 Turned 3)) × (weighed (bytes "CAG") ≡ Ok (Some 7))
  -- TTT is handle 1, side -
  pub ttt : (compared : ℕ) × (asked (bytes "TTT") ≡ Ok (Found 1 Turned compared))
  -- CCC is absent
  pub ccc : (compared : ℕ) × (asked (bytes "CCC") ≡ Ok (Absent compared))
  -- GGCTG, three k-mers from handle 6 and position 9 on, has stretches GC with handle 6 and CT with 7, 8
  pub ggctg : (of_string (minimizer_at 3 2 letters') 6 9 3 ≡ stretch 6 9 1 ∷ (stretch 7 10 2 ∷ []))
      × (minimizer_at 3 2 letters' 9 ≡ code (word_at 2 letters' 10))
      × (minimizer_at 3 2 letters' 10 ≡ code (word_at 2 letters' 11))
  -- without AGAT: least 4, one path
  pub without : (least_runs (collection 3 (bytes "AAACCCAGCCTACA") (5 ∷ (10 ∷ (14 ∷ []))) (2 ∷ (2 ∷ (5 ∷ (7 ∷ (7 ∷ (3 ∷ (3 ∷ (5 ∷ []))))))))) ≡ 4)
      × (least (end_weights (collection 3 (bytes "AAACCCAGCCTACA") (5 ∷ (10 ∷ (14 ∷ []))) (2 ∷ (2 ∷ (5 ∷ (7 ∷ (7 ∷ (3 ∷ (3 ∷ (5 ∷ [])))))))))) ≡ 1)
  -- end weights (1,2) (2,3) (2,2): one path; (4,4) (9,9): two
  pub one_path : least ((1, 2) ∷ ((2, 3) ∷ ((2, 2) ∷ []))) ≡ 1
  pub two_paths : least ((4, 4) ∷ ((9, 9) ∷ [])) ≡ 2
  -- no strings: 0 and 0
  pub no_strings : (least_runs (collection 3 [] [] []) ≡ 0) × (least (end_weights (collection 3 [] [] [])) ≡ 0)
  -- weight 16,777,215 passes, 16,777,216 is 6
  pub heavy : collection_verdict (collection 3 (bytes "ACG") (3 ∷ []) (16777215 ∷ [])) ≡ good
  pub too_heavy : collection_verdict (collection 3 (bytes "ACG") (3 ∷ []) (16777216 ∷ [])) ≡ Err (Weights 1)
  -- k = 31 passes
  pub longest : k_verdict 31 ≡ good
  -- places +1 -1 for two strings: 8 at string 2
  pub place_used : places_verdict 2 (pos 1 ∷ (negsuc 0 ∷ [])) ≡ Err (Places 2)
