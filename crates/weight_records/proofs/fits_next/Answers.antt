-- `fits_next` meets its contract: after a run it asks whether this one may follow, else whether it may be the first. Assumes nothing.
use mathlib.Core.Path.{sym, ap, ◌∙◌}
use mathlib.Core.Bool.{Bool}
use Rattle.lists.specs.Choose.{choose}
use Rattle.weight.specs.RunList.{follows, begins}
use Rattle.weight_records.specs.declared.Run.{Run}
use Rattle.weight_records.specs.declared.State.{State}
use Rattle.weight_records.proofs.fits_next.Goals as goal

-- the test that `fits` makes, where a run was read before or not
abbrev fits_as : State → Run → Bool → Bool
fits_as s r begun = choose begun (follows s.n s.weight s.first r.weight r.first) (begins s.n r.weight r.first)

pub returns-then-s : goal.returns-then-s
returns-then-s c = let a = c.args in c.may_follow.ensures ∙ sym (ap (fits_as a.s a.r) c.if-s.true)

pub returns : goal.returns
returns c = let a = c.args in c.may_begin.ensures ∙ sym (ap (fits_as a.s a.r) c.if-s.false)
