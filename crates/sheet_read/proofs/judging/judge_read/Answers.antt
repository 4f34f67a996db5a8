-- `judge_read` meets its contract: the lines, then the tables. Assumes nothing.
use Rattle.std.proofs.lemmas.Result.{err_from_is_err_and}
use Rattle.sheet_read.proofs.Outcomes.{lines_refused, tables_refused, tables_good}
use Rattle.sheet_read.proofs.judging.judge_read.Goals as goal

pub returns-in_err-held : goal.returns-in_err-held
returns-in_err-held c =
    let p = err_from_is_err_and c.from_residual.result c.from_residual.ensures.1 in
    rw (p.1, p.2) (lines_refused _ _ c.judge_sheet.ensures c.in_err-held.was)

pub returns-in_err-judge_tables : goal.returns-in_err-judge_tables
returns-in_err-judge_tables c =
    let r = c.from_residual-in_err-judge_tables in
    let p = err_from_is_err_and r.result r.ensures.1 in
    rw (p.1, p.2) (tables_refused _ _ c.judge_sheet.ensures c.in_ok-held.was c.judge_tables.ensures c.in_err-judge_tables.was)

pub returns : goal.returns
returns c = tables_good _ _ c.judge_sheet.ensures c.in_ok-held.was c.judge_tables.ensures c.in_ok-judge_tables.was
