-- `corrivume_quick` meets its contract: the answer table is judged, then the call is made and its answer told. Assumes nothing.
use mathlib.Core.Path.{ap, ◌∙◌}
use Rattle.exports_replies.specs.Replies.{quick_told, quick_reply}
use Rattle.exports_replies.specs.Exported.{none}
use Rattle.exports_replies.proofs.Telling.{too_short, shown}
use Rattle.exports.proofs.corrivume_quick.Goals as goal

pub returns-then-answer-lt-ANSWER : goal.returns-then-answer-lt-ANSWER
returns-then-answer-lt-ANSWER c = too_short c.args.answer.now _ none c.if-answer-lt-ANSWER.true

pub returns : goal.returns
returns c =
    shown c.args.answer.now none c.if-answer-lt-ANSWER.false
    (c.quick_reply-reply.ensures ∙ ap quick_told c.as_told.ensures ∙ ap quick_reply c.quick-a.ensures) c.tell.ensures
