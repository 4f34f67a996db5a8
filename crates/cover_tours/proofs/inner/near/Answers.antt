-- `near` meets its contract: its three cases are those of the definition.
use mathlib.Core.Path.{sym, ◌∙◌}
use Rattle.cover_tours.proofs.Regions.{vert_at}
use Rattle.cover_tours.proofs.Halves.{near-string, near_hub, near_spoke}
use Rattle.cover_tours.proofs.inner.near.Goals as goal

pub returns-then-c-m : goal.returns-then-c-m
returns-then-c-m c = vert_at _ _ _ c.if-c-m.true ∙ sym (near-string _ _ _ c.if-c-m.true)

pub returns-then-c-eq0 : goal.returns-then-c-eq0
returns-then-c-eq0 c = sym (near_hub _ _ _ c.if-c-m.false c.if-c-eq0.true)

pub returns : goal.returns
returns c = sym (near_spoke _ _ _ c.if-c-m.false c.if-c-eq0.false)
