-- `give_back` meets its contract: one half is copied within the stack.
use mathlib.Core.Path.{ap, ◌∙◌}
use Rattle.cover_tours.specs.Halves.{near}
use Rattle.cover_tours.proofs.Regions.{stack_at, tables-returned}
use Rattle.cover_tours.proofs.inner.give_back.Goals as goal

pub returns : goal.returns
returns c = let p = c.requires in record { written = tables-returned _ _ _ _ p.1 p.2; come_to = c.near-x.ensures ∙ ap (near _ _) (stack_at _ _ _ p.1) }
