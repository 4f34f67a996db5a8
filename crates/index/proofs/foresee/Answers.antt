-- `foresee` meets its contract: sizes, collection and rooms, one judgement after the other. Assumes nothing.
use mathlib.Core.Path.{sym, ap, subst, ◌∙◌}
use Prim.Native.Nat.{ℕ, ◌+◌}
use Rattle.std.proofs.lemmas.Result.{err_from_is_err_and}
use Rattle.collection.specs.Collection.{Spelling}
use Rattle.collection.specs.Lent.{collection_in}
use Rattle.collection.specs.Ready.{Ready}
use Rattle.collection.proofs.Judged.{collection_good}
use Rattle.collection.proofs.Ready.{judged_ready}
use Rattle.index.specs.Indexing.{stretch_count}
use Rattle.index.proofs.Ways.{sizes_refused, room_enough, room_refused}
use Rattle.index.proofs.foresee.Goals as goal

pub returns-in_err-judge_sizes : goal.returns-in_err-judge_sizes
returns-in_err-judge_sizes c =
    let p = err_from_is_err_and c.from_residual.result c.from_residual.ensures.1 in
    rw (p.1, p.2) (λ t s. sizes_refused _ _ (sym c.judge_sizes.ensures ∙ c.in_err-judge_sizes.was) t)

pub count_all-stretches-requires-clause-ready : goal.count_all-stretches-requires-clause-ready
count_all-stretches-requires-clause-ready c =
    subst Ready (sym c.spelling.ensures) (judged_ready (collection_good _ (sym c.judge.ensures ∙ c.in_ok-judge.was)))

pub returns-then-stretches-firsts : goal.returns-then-stretches-firsts
returns-then-stretches-firsts c =
    let a = c.args in
    room_enough (collection_in a.given) a.p (sym c.judge_sizes.ensures ∙ c.in_ok-judge_sizes.was) (sym c.judge.ensures ∙ c.in_ok-judge.was)
    (c.count_all-stretches.ensures ∙ ap (λ (x : Spelling). stretch_count x a.p) c.spelling.ensures) (ap (λ (d : ℕ). d + 1) c.word_count-starts.ensures)
    a.firsts a.positions a.numbers a.before a.work c.if-stretches-firsts.true

pub returns : goal.returns
returns c =
    let a = c.args in
    room_refused (collection_in a.given) a.p (sym c.judge_sizes.ensures ∙ c.in_ok-judge_sizes.was) (sym c.judge.ensures ∙ c.in_ok-judge.was)
    (c.count_all-stretches.ensures ∙ ap (λ (x : Spelling). stretch_count x a.p) c.spelling.ensures) (ap (λ (d : ℕ). d + 1) c.word_count-starts.ensures)
    a.firsts a.positions a.numbers a.before a.work c.if-stretches-firsts.false
