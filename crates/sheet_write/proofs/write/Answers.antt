-- `write` meets its contract: judged, then stored. Assumes nothing.
use Rattle.std.proofs.lemmas.Result.{err_from_is_err_and}
use Rattle.sheet_write.proofs.Outcomes.{write_refused, write_ready, write_done}
use Rattle.collection.specs.Lent.{collection_in}
use Rattle.sheet_write.proofs.write.Goals as goal

pub returns-in_err-judge_write : goal.returns-in_err-judge_write
returns-in_err-judge_write c =
    let a = c.args in
    let p = err_from_is_err_and c.from_residual.result c.from_residual.ensures.1 in
    rw (p.1, p.2)
    (write_refused (collection_in a.given) a.sheet.now c.judge_write.ensures c.in_err-judge_write.was)

pub put_sheet-requires : goal.put_sheet-requires
put_sheet-requires c =
    let a = c.args in
    let r = write_ready (collection_in a.given) a.sheet.now c.judge_write.ensures c.in_ok-judge_write.was in
    record { passes = r.0; weights_in_bounds = r.1 }

pub returns : goal.returns
returns c =
    let a = c.args in
    write_done (collection_in a.given) a.sheet.now c.judge_write.ensures
    c.in_ok-judge_write.was c.put_sheet.ensures.counted c.put_sheet.ensures.filled
