-- `first_short` meets its contract. Invariant: the first short string from string i on is the first of all. Assumes nothing.
use mathlib.Core.Path.{sym, ◌∙◌}
use native.Mathlib.Omega.{arith}
use Rattle.collection_faults.proofs.Finding.{short_here, short_next, short_end}
use Rattle.collection_faults.proofs.inner.first_short.Goals as goal

pub returns-then-e-before : goal.returns-then-e-before
returns-then-e-before c = sym (c.loop-i.invariant.first ∙ short_here _ _ _ _ c.loop-i-test.true c.if-e-before.true)

pub loop-i-preserved : goal.loop-i-preserved
loop-i-preserved c = record {
  first = c.loop-i.invariant.first ∙ short_next _ _ _ _ c.loop-i-test.true c.if-e-before.false;
  small = omega (arith, c.type_inv.ends c.loop-i.i);
}

pub returns : goal.returns
returns c = sym (c.loop-i.invariant.first ∙ short_end _ _ _ _ c.loop-i-test.false)
