-- `corrivume_runs` meets its contract: the answer table is judged, then the call is made and its answer told. Assumes nothing.
use mathlib.Core.Path.{ap, ◌∙◌}
use Rattle.exports.specs.Calls.{runs_exported}
use Rattle.exports_replies.specs.Replies.{count_told}
use Rattle.exports_replies.proofs.Telling.{too_short, shown}
use Rattle.exports.proofs.corrivume_runs.Goals as goal

pub returns-then-answer-lt-ANSWER : goal.returns-then-answer-lt-ANSWER
returns-then-answer-lt-ANSWER c = let a = c.args in too_short a.answer.now _ _ c.if-answer-lt-ANSWER.true

pub returns : goal.returns
returns c =
    let a = c.args in
    shown a.answer.now (a.run_weights.now, a.run_firsts.now) c.if-answer-lt-ANSWER.false
    (c.count_reply-reply.ensures ∙ ap count_told c.as_told.ensures) c.tell.ensures
    ∙ ap (runs_exported a.answer.now (a.run_weights.now, a.run_firsts.now)) c.runs-a.ensures
