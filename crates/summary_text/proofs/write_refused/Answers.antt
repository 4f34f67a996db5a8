-- `write_refused` meets its contract: the length is judged, then the line is stored. Assumes nothing.
use native.Mathlib.Omega.{arith}
use Rattle.std.proofs.lemmas.Result.{err_from_is_err_and}
use Rattle.summary_text.specs.Text.{refused_text}
use Rattle.summary_text.proofs.Stored.{refused_length}
use Rattle.summary_text.proofs.Outcomes.{written_refused, written_room, written_done}
use Rattle.summary_text.proofs.write_refused.Goals as goal

pub returns-in_err-judge_room : goal.returns-in_err-judge_room
returns-in_err-judge_room c =
    let n = refused_length _ _ c.digit_count-a.ensures.0 c.digit_count-b.ensures.0 in
    let p = err_from_is_err_and c.from_residual.result c.from_residual.ensures.1 in
    rw (p.1, p.2)
    (record {
      text_after = written_refused _ _ n c.judge_room.ensures c.in_err-judge_room.was;
      place_len_bound = omega (arith, n, c.digit_count-a.ensures.1, c.digit_count-b.ensures.1);
    })

pub put_refused-requires : goal.put_refused-requires
put_refused-requires c =
    let a = c.args in
    let n = refused_length _ _ c.digit_count-a.ensures.0 c.digit_count-b.ensures.0 in
    written_room (refused_text a.number a.place) a.text.now n c.judge_room.ensures c.in_ok-judge_room.was

pub returns : goal.returns
returns c =
    let n = refused_length _ _ c.digit_count-a.ensures.0 c.digit_count-b.ensures.0 in
    record {
      text_after = written_done _ _ n c.judge_room.ensures c.in_ok-judge_room.was c.put_refused.ensures.0 c.put_refused.ensures.1;
      place_len_bound = omega (arith, n, c.digit_count-a.ensures.1, c.digit_count-b.ensures.1);
    }
