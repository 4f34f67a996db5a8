-- `take` meets its contract: a store in the flags and one in the stack.
use native.Mathlib.Omega.{arith}
use Rattle.cover_tours.proofs.Regions.{tables-taken}
use Rattle.cover_tours.proofs.inner.take.Goals as goal

pub returns-clause-written : goal.returns-clause-written
returns-clause-written c = let p = c.requires in tables-taken _ _ _ _ p.1 (omega (arith, p.2))
