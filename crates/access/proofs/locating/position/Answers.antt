-- `position` meets its contract: the string of the handle is found, and the k-mer stands in it. Assumes nothing.
use native.Mathlib.Omega.{arith}
use Rattle.access.proofs.Located.{position_in, position_small}
use Rattle.access.proofs.locating.position.Goals as goal

pub overflow_mul-result : goal.overflow_mul-result
overflow_mul-result c =
    omega (arith, position_small c.requires.long _ _ c.string_of-i.ensures, c.shared_slice_known-1.given c.string_of-i.result)

pub overflow_add-result : goal.overflow_add-result
overflow_add-result c =
    omega (arith, position_small c.requires.long _ _ c.string_of-i.ensures, c.shared_slice_known-1.given c.string_of-i.result)

pub returns : goal.returns
returns c = position_in c.requires.long _ _ c.string_of-i.ensures
