-- `read` meets its contract: judged, then filled. Assumes nothing.
use Rattle.std.proofs.lemmas.Result.{err_from_is_err_and}
use Rattle.collection.specs.Tables.{tables}
use Rattle.sheet_read.proofs.Outcomes.{read_refused, read_fits, read_filled}
use Rattle.sheet_read.proofs.read.Goals as goal

pub returns-in_err-held : goal.returns-in_err-held
returns-in_err-held c =
    let p = err_from_is_err_and c.from_residual.result c.from_residual.ensures.1 in
    rw (p.1, p.2) (read_refused _ _ c.judge_read.ensures c.in_err-held.was)

pub fill_lines-requires : goal.fill_lines-requires
fill_lines-requires c =
    let a = c.args in read_fits a.sheet.now (tables a.letters.now a.ends.now a.weights.now) c.judge_read.ensures c.in_ok-held.was

pub returns : goal.returns
returns c =
    let a = c.args in
    read_filled _ (tables a.letters.now a.ends.now a.weights.now) c.judge_read.ensures c.in_ok-held.was c.fill_lines.ensures
