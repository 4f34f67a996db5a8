-- `number_end` meets its contract: by the test of the byte behind the digits. Assumes nothing.
use mathlib.Core.Path.{sym, ◌∙◌}
use Rattle.text.proofs.inner.number_end.Goals as goal

pub returns-then-is_end : goal.returns-then-is_end
returns-then-is_end c = c.ended.ensures ∙ rw (sym c.is_end.ensures ∙ c.if-is_end.true)

pub returns : goal.returns
returns c = rw (sym c.is_end.ensures ∙ c.if-is_end.false)
