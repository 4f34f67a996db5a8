-- `judge_cover` meets its contract: a judged collection has few strings. Assumes nothing.
use mathlib.Core.Path.{sym, ◌∙◌}
use native.Mathlib.Omega.{arith}
use Rattle.collection.proofs.Judged.{collection_good}
use Rattle.cover.proofs.judge_cover.Goals as goal

pub overflow_mul-m : goal.overflow_mul-m
overflow_mul-m c =
    let j = collection_good _ (sym c.judge.ensures ∙ c.in_ok-judge.was) in
    omega (arith, j.shape.m_high)
