-- `last_end` meets its contract: `last` gives the element at the last place. Assumes nothing.
use mathlib.Core.Path.{◌∙◌}
use native.Mathlib.Omega.{arith}
use Rattle.collection_faults.proofs.Finding.{last_is, last_none}
use Rattle.collection_faults.proofs.inner.last_end.Goals as goal

pub returns-in-Some : goal.returns-in-Some
returns-in-Some c = let h = c.in-Some.ensures.item.3 in h.1 0 ∙ last_is c.args.ends.now (λ q. omega arith)

pub returns-in-None : goal.returns-in-None
returns-in-None c = let h = c.in-None.ensures.item.3 in last_none c.args.ends.now (omega arith)
