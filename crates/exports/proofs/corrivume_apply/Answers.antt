-- `corrivume_apply` meets its contract: the answer table is judged, then the call is made and its answer told. Assumes nothing.
use mathlib.Core.Path.{ap, ◌∙◌}
use Rattle.exports.specs.Calls.{apply_exported}
use Rattle.collection.specs.Tables.{tables}
use Rattle.apply.specs.Apply.{lent}
use Rattle.exports_replies.specs.Replies.{apply_told}
use Rattle.exports_replies.proofs.Telling.{too_short, shown}
use Rattle.exports.proofs.corrivume_apply.Goals as goal

pub returns-then-answer-lt-ANSWER : goal.returns-then-answer-lt-ANSWER
returns-then-answer-lt-ANSWER c = let a = c.args in too_short a.answer.now _ _ c.if-answer-lt-ANSWER.true

pub returns : goal.returns
returns c =
    let a = c.args in
    shown a.answer.now (lent (tables a.new_letters.now a.new_ends.now a.new_weights.now) a.work.now) c.if-answer-lt-ANSWER.false
    (c.apply_reply-reply.ensures ∙ ap apply_told c.as_told.ensures) c.tell.ensures
    ∙ ap (apply_exported a.answer.now (lent (tables a.new_letters.now a.new_ends.now a.new_weights.now) a.work.now))
    c.apply-a.ensures
