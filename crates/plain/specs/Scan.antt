-- Inner: the pass over the k-mers that PLAIN makes.
use Rattle.std.specs.Prelude.{Bool, ◌&&◌, List, [], ◌∷◌, ℕ, suc, eqb}
use Rattle.lists.specs.Choose.{choose}
use Rattle.plain.specs.declared.Seen.{Seen}
use Rattle.plain.specs.declared.Seen.TheVariants.{At, NotAsked}

-- One pass looks for both words. h k-mers have passed, and `turned` is the handle at which the turned word was first seen, 0 where it was not;
-- `is_asked` and `is_turned` test the k-mer at a position. The asked word ends the pass.
unfoldable pub scan_from : (ℕ → Bool) → (ℕ → Bool) → ℕ → ℕ → List ℕ → Seen
scan_from is_asked is_turned h turned [] = NotAsked turned
scan_from is_asked is_turned h turned (a ∷ rest) =
    choose (is_asked a) (At (suc h)) (scan_from is_asked is_turned (suc h) (choose (eqb turned 0 && is_turned a) (suc h) turned) rest)
