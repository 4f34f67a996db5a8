-- `found` meets its contract: the pass with the two codes gives PLAIN's answer. Assumes nothing.
use mathlib.Core.Path.{sym, ap, ◌∙◌}
use native.Mathlib.Omega.{arith}
use Rattle.plain.proofs.Asked.{pass_answers}
use Rattle.plain.proofs.Scans.{answered, answered_at, answered_none, answered_turned}
use Rattle.plain.proofs.scanning.found.Goals as goal

pub word_code-asked-requires : goal.word_code-asked-requires
word_code-asked-requires c = omega (arith, c.requires.ready.ends_long.k_high, c.requires.word_len.0)

pub turned_code-turned-requires : goal.turned_code-turned-requires
turned_code-turned-requires c = c.requires.ready.ends_long.k_high

pub scan-requires : goal.scan-requires
scan-requires c = c.requires.ready

pub returns-in-At : goal.returns-in-At
returns-in-At c =
    let p = c.requires in
    sym (answered_at _ _ _)
    ∙ (ap (answered _ _) (sym c.in-At.is ∙ c.scan.ensures)
    ∙ pass_answers p.ready _ p.word_len.0 p.word_len.1 _ _ c.word_code-asked.ensures c.turned_code-turned.ensures)

pub returns-in-NotAsked-eq0 : goal.returns-in-NotAsked-eq0
returns-in-NotAsked-eq0 c =
    let p = c.requires in
    let n = c.in-NotAsked-eq0 in
    sym (answered_none _ _ _ n.field-0-test)
    ∙ (ap (answered _ _) (sym n.is ∙ c.scan.ensures)
    ∙ pass_answers p.ready _ p.word_len.0 p.word_len.1 _ _ c.word_code-asked.ensures c.turned_code-turned.ensures)

pub returns-in-NotAsked : goal.returns-in-NotAsked
returns-in-NotAsked c =
    let p = c.requires in
    let n = c.in-NotAsked in
    sym (answered_turned _ _ _ n.handle-test.1)
    ∙ (ap (answered _ _) (sym n.is ∙ c.scan.ensures)
    ∙ pass_answers p.ready _ p.word_len.0 p.word_len.1 _ _ c.word_code-asked.ensures c.turned_code-turned.ensures)
