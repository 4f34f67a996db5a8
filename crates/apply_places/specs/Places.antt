-- 8: when signed places are refused.
-- Specification: 8.2.
use Rattle.collection.specs.declared.refusal.Refusal.TheVariants.{Places}
use Rattle.std.specs.Prelude.{Bool, not, ◌||◌, List, [], ◌∷◌, ◌++◌, ℕ, suc, eqb, ltb, ℤ, nat_abs, length, Err}
use Rattle.lists.specs.Choose.{choose}
use Rattle.lists.specs.First.{first_that, first_from}
use Rattle.collection.specs.Verdict.{at_place, Verdict}

-- the string, from 1, that has the place a, sign aside; 0 where none has
abbrev pub holder : ℕ → List ℕ → ℕ
holder a places = first_that (eqb a) places

-- a place of one of m strings is bad if it is zero, beyond m or used by an earlier string
unfoldable pub bad_place : ℕ → List ℕ → ℕ → Bool
bad_place m earlier a = (eqb a 0 || ltb m a) || not (eqb (holder a earlier) 0)

-- the first string with a bad place, from 1, where `earlier` are the places, sign aside, of the i strings before; 0 where none is bad
unfoldable pub first_bad : ℕ → ℕ → List ℕ → List ℤ → ℕ
unfolding bad_place first_from
first_bad m i earlier [] = 0
first_bad m i earlier (p ∷ places) = choose (bad_place m earlier (nat_abs p)) (suc i) (first_bad m (suc i) (earlier ++ (nat_abs p ∷ [])) places)

-- 8: not m places, at 0; else the first string whose place is bad
unfoldable pub places_verdict : ℕ → List ℤ → Verdict
unfolding first_bad
places_verdict m places = choose (eqb (length places) m) (at_place Places (first_bad m 0 [] places)) (Err (Places 0))
