-- `ended` meets its contract: by the test of the range. Assumes nothing.
use mathlib.Core.Path.{sym, ◌∙◌}
use Rattle.text.proofs.inner.ended.Goals as goal

pub returns-then-in_range : goal.returns-then-in_range
returns-then-in_range c = rw (sym c.in_range.ensures ∙ c.if-in_range.true)

pub returns : goal.returns
returns c = rw (sym c.in_range.ensures ∙ c.if-in_range.false)
