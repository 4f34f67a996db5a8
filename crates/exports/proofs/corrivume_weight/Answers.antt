-- `corrivume_weight` meets its contract: the answer table is judged, then the call is made and its answer told. Assumes nothing.
use mathlib.Core.Path.{ap, ◌∙◌}
use Rattle.exports_replies.specs.Replies.{weight_told, weight_reply}
use Rattle.exports_replies.specs.Exported.{none}
use Rattle.exports_replies.proofs.Telling.{too_short, shown}
use Rattle.exports.proofs.corrivume_weight.Goals as goal

pub returns-then-answer-lt-ANSWER : goal.returns-then-answer-lt-ANSWER
returns-then-answer-lt-ANSWER c = too_short c.args.answer.now _ none c.if-answer-lt-ANSWER.true

pub returns : goal.returns
returns c =
    shown c.args.answer.now none c.if-answer-lt-ANSWER.false
    (c.weight_reply-reply.ensures ∙ ap weight_told c.as_told.ensures ∙ ap weight_reply c.weight-a.ensures) c.tell.ensures
