-- `corrivume_read` meets its contract: the answer table is judged, then the call is made and its answer told. Assumes nothing.
use mathlib.Core.Path.{ap, ◌∙◌}
use Rattle.collection.specs.Tables.{tables}
use Rattle.exports.specs.Calls.{read_exported}
use Rattle.exports_replies.specs.Replies.{read_told}
use Rattle.exports_replies.proofs.Telling.{too_short, shown}
use Rattle.exports.proofs.corrivume_read.Goals as goal

pub returns-then-answer-lt-ANSWER : goal.returns-then-answer-lt-ANSWER
returns-then-answer-lt-ANSWER c = let a = c.args in too_short a.answer.now _ _ c.if-answer-lt-ANSWER.true

pub returns : goal.returns
returns c =
    let a = c.args in
    shown a.answer.now (tables a.letters.now a.ends.now a.weights.now) c.if-answer-lt-ANSWER.false (c.read_reply-reply.ensures ∙ ap read_told c.as_told.ensures)
    c.tell.ensures
    ∙ ap (read_exported a.answer.now (tables a.letters.now a.ends.now a.weights.now)) c.read-a.ensures
