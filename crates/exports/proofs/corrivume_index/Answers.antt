-- `corrivume_index` meets its contract: the answer table is judged, then the call is made and its answer told. Assumes nothing.
use mathlib.Core.Path.{ap, ◌∙◌}
use Rattle.index.specs.Indexing.{lent}
use Rattle.exports.specs.Calls.{index_exported}
use Rattle.exports_replies.specs.Replies.{index_told}
use Rattle.exports_replies.proofs.Telling.{too_short, shown}
use Rattle.exports.proofs.corrivume_index.Goals as goal

pub returns-then-answer-lt-ANSWER : goal.returns-then-answer-lt-ANSWER
returns-then-answer-lt-ANSWER c = let a = c.args in too_short a.answer.now _ _ c.if-answer-lt-ANSWER.true

pub returns : goal.returns
returns c =
    let a = c.args in
    shown a.answer.now (lent a.firsts.now a.positions.now a.numbers.now a.before.now a.work.now) c.if-answer-lt-ANSWER.false
    (c.index_reply-reply.ensures ∙ ap index_told c.as_told.ensures) c.tell.ensures
    ∙ ap (index_exported a.answer.now (lent a.firsts.now a.positions.now a.numbers.now a.before.now a.work.now))
    c.index-a.ensures
