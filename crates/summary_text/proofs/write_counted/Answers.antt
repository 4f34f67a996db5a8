-- `write_counted` meets its contract: the length is judged, then the lines are stored. Assumes nothing.
use native.Mathlib.Omega.{arith}
use Rattle.std.proofs.lemmas.Result.{err_from_is_err_and}
use Rattle.summary_text.specs.Text.{counted_text}
use Rattle.summary_text.proofs.Stored.{counted-length}
use Rattle.summary_text.proofs.Outcomes.{written_refused, written_room, written_done}
use Rattle.summary_text.proofs.write_counted.Goals as goal

pub returns-in_err-judge_room : goal.returns-in_err-judge_room
returns-in_err-judge_room c =
    let n = counted-length c.args.n c.numbers_length-a.ensures.0 c.numbers_length-b.ensures.0 c.numbers_length-c.ensures.0 in
    let p = err_from_is_err_and c.from_residual.result c.from_residual.ensures.1 in
    rw (p.1, p.2)
    (record {
      text_after = written_refused _ _ n c.judge_room.ensures c.in_err-judge_room.was;
      n_len_bound = omega (arith, n, c.numbers_length-a.ensures.1, c.numbers_length-b.ensures.1, c.numbers_length-c.ensures.1);
    })

pub put_counted-requires : goal.put_counted-requires
put_counted-requires c =
    let a = c.args in
    let n = counted-length a.n c.numbers_length-a.ensures.0 c.numbers_length-b.ensures.0 c.numbers_length-c.ensures.0 in
    written_room (counted_text a.n) a.text.now n c.judge_room.ensures c.in_ok-judge_room.was

pub returns : goal.returns
returns c =
    let n = counted-length c.args.n c.numbers_length-a.ensures.0 c.numbers_length-b.ensures.0 c.numbers_length-c.ensures.0 in
    record {
      text_after = written_done _ _ n c.judge_room.ensures c.in_ok-judge_room.was c.put_counted.ensures.0 c.put_counted.ensures.1;
      n_len_bound = omega (arith, n, c.numbers_length-a.ensures.1, c.numbers_length-b.ensures.1, c.numbers_length-c.ensures.1);
    }
