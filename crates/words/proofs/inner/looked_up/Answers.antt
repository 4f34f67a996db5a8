-- `looked_up` meets its contract: a table that passes the test has the rule at each entry. Assumes nothing.
use native.Mathlib.Omega.{arith}
use Rattle.words.proofs.Turning.{table_turns}
use Rattle.words.proofs.inner.looked_up.Goals as goal

pub returns : goal.returns
returns c = table_turns _ c.requires _ (omega arith)
