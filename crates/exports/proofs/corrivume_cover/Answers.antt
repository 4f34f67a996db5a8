-- `corrivume_cover` meets its contract: the answer table is judged, then the call is made, its promise kept and its answer told. Assumes nothing.
use Prim.{absurd}
use mathlib.Core.Path.{ap, ◌∙◌}
use native.Mathlib.Omega.{arith}
use Rattle.std.specs.Prelude.{Err}
use Rattle.collection.specs.declared.refusal.Refusal.TheVariants.{Room}
use Rattle.exports_replies.specs.Replies.{cover_told}
use Rattle.exports_replies.proofs.Telling.{too_short, shown}
use Rattle.exports.proofs.corrivume_cover.Goals as goal

pub returns-then-answer-lt-ANSWER : goal.returns-then-answer-lt-ANSWER
returns-then-answer-lt-ANSWER c =
    let a = c.args in
    record {
      given = Err Room;
      promised = λ h. absurd (omega (arith, h, c.if-answer-lt-ANSWER.true));
      shown = too_short a.answer.now _ _ c.if-answer-lt-ANSWER.true;
    }

pub returns : goal.returns
returns c =
    let a = c.args in
    record {
      given = c.cover-a.result;
      promised = λ h. c.cover-a.ensures;
      shown = shown a.answer.now (a.places.now, a.work.now) c.if-answer-lt-ANSWER.false
          (c.cover_reply-reply.ensures ∙ ap cover_told c.as_told.ensures) c.tell.ensures;
    }
