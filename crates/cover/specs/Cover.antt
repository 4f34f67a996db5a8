-- COVER: signed places with the least number of paths.
-- Specification: 9.4.
use Rattle.cover.specs.declared.Covered.{Covered}
use Rattle.collection.specs.declared.refusal.Refusal.{Refusal}
use Rattle.std.specs.Prelude.{◌≡◌, List, ℕ, ◌*◌, ℤ, length, replicate, Err, Result, Ok}
use Rattle.lists.specs.Fill.{fill}
use Rattle.collection.specs.Collection.{Collection}
use Rattle.collection.specs.Judge.{collection_verdict}
use Rattle.collection.specs.Verdict.{and_then, settle, room_verdict, Verdict}
use Rattle.collection.specs.EndWeights.{end_weights}
use Rattle.cover_trails.specs.Groups.{least}
use Rattle.cover_trails.specs.Paths.{path_count}
use Rattle.cover_trails.specs.Places.{SignedPermutation, arranged}
use Rattle.cover_trails.specs.Strings.{Ends, turned}

-- m places are filled, and their paths are counted
abbrev pub covered : ℕ → ℕ → Result Covered Refusal
covered m n = Ok (record { places = m; paths = n })

-- 2 to 6, then 1: m places, and 16m entries to work with
unfoldable pub cover_verdict : Collection → List ℤ → List ℕ → Verdict
cover_verdict c places work =
    and_then (collection_verdict c) (and_then (room_verdict (length places) (length c.ends)) (room_verdict (length work) (16 * length c.ends)))

-- The places ps are a signed permutation with the least number of paths.
pub record Fewest (strings : List Ends) (ps : List ℤ) : Type 0 where
  pub permutation : SignedPermutation (length strings) ps
  pub fewest : path_count (arranged turned ps strings) ≡ least strings

-- The table of places after the call, by its verdict: such places fill its first entries; refused, it is as it was.
abbrev pub PlacesAfter : Verdict → List Ends → List ℤ → List ℤ → Type 0
PlacesAfter (Ok u) strings old new = (ps : List ℤ) × (new ≡ fill ps old) × Fewest strings ps
PlacesAfter (Err r) strings old new = new ≡ old

-- What COVER answers and leaves, where `verdict` judges its input and `strings` are the end weights of the m strings.
pub record CoverOf (verdict : Verdict) (strings : List Ends) (m : ℕ) (places : List ℤ) (work : List ℕ) (answer : Result Covered Refusal) (places' : List ℤ)
    (work' : List ℕ) : Type 0 where
  -- m places are filled, and the number of their paths is the least
  pub answered : answer ≡ settle verdict Err (covered m (least strings))
  -- the first 16m entries are zero
  pub cleared : work' ≡ settle verdict (λ r. work) (fill (replicate (16 * m) 0) work)
  pub placed : PlacesAfter verdict strings places places'

-- the promise of a call
abbrev pub Promise : Collection → List ℤ → List ℕ → Result Covered Refusal → List ℤ → List ℕ → Type 0
Promise c places work =
    CoverOf (cover_verdict c places work) (end_weights c) (length c.ends) places work
