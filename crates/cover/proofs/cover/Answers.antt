-- `cover` meets its contract: the verdict, then the strings covered in parts of the lent tables (proofs/Promised).
use mathlib.Core.Path.{sym, ◌∙◌}
use Rattle.std.proofs.lemmas.Result.{err_from_is_err_and}
use Rattle.collection.proofs.Strung.{judged_strung}
use Rattle.cover.proofs.Promised.{cover_good, work_fits, places_fit, cover_refused, cover_none, cover_all}
use Rattle.cover.proofs.cover.Goals as goal

pub returns-in_err-judge_cover : goal.returns-in_err-judge_cover
returns-in_err-judge_cover c =
    let p = err_from_is_err_and c.from_residual.result c.from_residual.ensures.1 in
    rw (p.1, p.2) (cover_refused (sym c.judge_cover.ensures ∙ c.in_err-judge_cover.was))

pub returns-then-m-eq0 : goal.returns-then-m-eq0
returns-then-m-eq0 c = cover_none _ _ _ _ (sym c.judge_cover.ensures ∙ c.in_ok-judge_cover.was) c.if-m-eq0.true

pub slice_bounds-cover_strings-end-2 : goal.slice_bounds-cover_strings-end-2
slice_bounds-cover_strings-end-2 c = sym (places_fit (cover_good _ _ _ (sym c.judge_cover.ensures ∙ c.in_ok-judge_cover.was)))

pub slice_bounds-cover_strings-end-4 : goal.slice_bounds-cover_strings-end-4
slice_bounds-cover_strings-end-4 c = sym (work_fits (cover_good _ _ _ (sym c.judge_cover.ensures ∙ c.in_ok-judge_cover.was)) c.if-m-eq0.false).size

pub cover_strings-paths-requires : goal.cover_strings-paths-requires
cover_strings-paths-requires c =
    let r = cover_good _ _ _ (sym c.judge_cover.ensures ∙ c.in_ok-judge_cover.was) in
    (judged_strung r.judged, work_fits r c.if-m-eq0.false, places_fit r)

pub returns : goal.returns
returns c = cover_all _ _ _ (sym c.judge_cover.ensures ∙ c.in_ok-judge_cover.was) c.cover_strings-paths.ensures
