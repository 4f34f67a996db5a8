-- `judge_sheet` meets its contract: line 1, k, then the lines. Assumes nothing.
use mathlib.Core.Path.{sym, ◌∙◌}
use Rattle.std.proofs.lemmas.Result.{err_from_is_err_and}
use Rattle.sheet_read.proofs.Refusals.{head_wrong, headed, k_bad, line_bad, all_lines}
use Rattle.sheet_read.proofs.judging.judge_sheet.Goals as goal

pub returns-in_default : goal.returns-in_default
returns-in_default c = head_wrong _ (sym c.head_at.ensures ∙ c.in_default.is)

pub returns-in_err-judge_k : goal.returns-in_err-judge_k
returns-in_err-judge_k c =
    let h = c.in-Some.h in
    let hd = headed _ h.k h.next (sym c.head_at.ensures ∙ c.in-Some.is) in
    let p = err_from_is_err_and c.from_residual.result c.from_residual.ensures.1 in
    rw (p.1, p.2) (k_bad _ _ _ hd _ (sym c.judge_k.ensures ∙ c.in_err-judge_k.was))

pub count_lines-requires : goal.count_lines-requires
count_lines-requires c =
    let h = c.in-Some.h in
    let hd = headed _ h.k h.next (sym c.head_at.ensures ∙ c.in-Some.is) in
    (hd.later_one, hd.inside)

pub returns-in-Ok : goal.returns-in-Ok
returns-in-Ok c =
    let h = c.in-Some.h in
    let hd = headed _ h.k h.next (sym c.head_at.ensures ∙ c.in-Some.is) in
    let g = sym c.judge_k.ensures ∙ c.in_ok-judge_k.was in
    let t = c.in-Ok.c in
    all_lines _ _ _ hd g t.letters t.strings t.weights (sym c.count_lines.ensures ∙ c.in-Ok.is)

pub returns-in-Err : goal.returns-in-Err
returns-in-Err c =
    let h = c.in-Some.h in
    let hd = headed _ h.k h.next (sym c.head_at.ensures ∙ c.in-Some.is) in
    let g = sym c.judge_k.ensures ∙ c.in_ok-judge_k.was in
    line_bad _ _ _ hd g _ (sym c.count_lines.ensures ∙ c.in-Err.is)
