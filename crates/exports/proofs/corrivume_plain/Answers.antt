-- `corrivume_plain` meets its contract: the answer table is judged, then the call is made and its answer told. Assumes nothing.
use mathlib.Core.Path.{ap, ◌∙◌}
use Rattle.exports_replies.specs.Replies.{plain_told, plain_reply}
use Rattle.exports_replies.specs.Exported.{none}
use Rattle.exports_replies.proofs.Telling.{too_short, shown}
use Rattle.exports.proofs.corrivume_plain.Goals as goal

pub returns-then-answer-lt-ANSWER : goal.returns-then-answer-lt-ANSWER
returns-then-answer-lt-ANSWER c = too_short c.args.answer.now _ none c.if-answer-lt-ANSWER.true

pub returns : goal.returns
returns c =
    shown c.args.answer.now none c.if-answer-lt-ANSWER.false
    (c.plain_reply-reply.ensures ∙ ap plain_told c.as_told.ensures ∙ ap plain_reply c.plain-a.ensures) c.tell.ensures
