-- `check` meets its contract: the verdict, then the first repeat, then the zeros over all that was written. Assumes nothing.
use mathlib.Core.Path.{sym, ap, ap₂, ◌∙◌}
use Prim.Native.Nat.{ℕ, ◌*◌}
use native.Mathlib.Omega.{arith}
use lib.ListN.{length, replicate, length-replicate}
use Rattle.std.specs.Prelude.{Ok, Err}
use Rattle.lists.specs.Fill.{fill}
use Rattle.lists.proofs.Zeroed.{only_fill}
use Rattle.collection.specs.declared.refusal.Refusal.TheVariants.{Repeated}
use Rattle.collection.specs.Verdict.{at_place, settle}
use Rattle.collection.proofs.Verdicts.{settled}
use Rattle.repeats.specs.Check.{check_of, first_repeat, outcome}
use Rattle.repeats.proofs.Checked.{check_started}
use Rattle.repeats.proofs.check.Goals as goal

pub returns : goal.returns
unfolding check_of
returns c =
    let good = sym c.judge_check.ensures ∙ c.in_ok-judge_check.was in
    let s = check_started _ _ good in
    let a = c.args in
    let n = length a.given.weights.now in
    let f = c.first_repeat-repeat in
    settled _
    (ap₂ outcome
    (c.answer.ensures ∙ ap₂ (λ (p m : ℕ). settle (at_place Repeated p) Err (Ok m)) (f.ensures.0 ∙ ap first_repeat c.spelling.ensures) s.counted)
    (c.zero_first.ensures
    ∙ (only_fill (4 * n) (replicate (4 * n) 0) a.work.now f.new.work (length-replicate (4 * n) 0)
    (omega (arith, s.enough, s.counted)) f.ensures.1
    ∙ ap (λ (m : ℕ). fill (replicate (4 * m) 0) a.work.now) s.counted)))
    good
