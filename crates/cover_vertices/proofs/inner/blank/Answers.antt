-- `blank` meets its contract: equal numbers are a ladder of steps of 0.
use mathlib.Core.Path.{sym, ap, ◌∙◌}
use lib.ListN.{replicate}
use Rattle.cover_vertices.proofs.Ladder.{ladder_same}
use Rattle.cover_vertices.proofs.inner.blank.Goals as goal

pub returns-clause-strings : goal.returns-clause-strings
returns-clause-strings c = c.fill.ensures.after (λ y e. e) ∙ sym (ladder_same 0 _)

pub returns-clause-spokes : goal.returns-clause-spokes
returns-clause-spokes c = c.fill-2.ensures.after (λ y e. e) ∙ (ap (λ n. replicate n 1) c.requires.sizes.0 ∙ sym (ladder_same 1 _))
