-- `vertex_of` meets its contract: its two cases are those of the definition.
use mathlib.Core.Path.{refl}
use borrow.Author.Tests.{eq-eqb, ne_eqb}
use Rattle.cover_vertices.proofs.inner.vertex_of.Goals as goal

pub returns-then-x-before : goal.returns-then-x-before
returns-then-x-before c = rw (eq-eqb _ _ c.if-x-before.true) refl

pub returns : goal.returns
returns c = rw (ne_eqb _ _ c.if-x-before.false) refl
