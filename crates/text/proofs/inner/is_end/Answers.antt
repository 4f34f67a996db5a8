-- `is_end` meets its contract: by the two tests. Assumes nothing.
use borrow.Author.Tests.{eq-eqb, ne_eqb}
use Rattle.text.proofs.inner.is_end.Goals as goal

pub returns-then-b-sep : goal.returns-then-b-sep
returns-then-b-sep c = simp (eq-eqb _ _ c.if-b-sep.true)

pub returns : goal.returns
returns c = simp (ne_eqb _ _ c.if-b-sep.false)
