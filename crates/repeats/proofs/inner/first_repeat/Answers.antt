-- `first_repeat` meets its contract: the least second of the sorted k-mers is the first repeat, counted from 0. Assumes nothing.
use Rattle.std.proofs.Common.{sym, length, ◌++◌, ◌≡◌, ◌*◌, ◌∙◌, arith}
use Rattle.std.proofs.lemmas.List.{length-append}
use Rattle.lists.specs.Regions.{Only}
use Rattle.repeats.proofs.Arranged.{only_front}
use Rattle.repeats.proofs.Repeats.{repeat_none, repeat_found}
use Rattle.repeats.proofs.inner.first_repeat.Goals as goal
use Rattle.repeats.proofs.inner.first_repeat.Goals.{After-arrange-m}

module _ (c : After-arrange-m) where
  size : length c.arrange-m.new.hi ≡ c.args.n
  size = c.arrange-m.auto.hi ∙ c.split_at_mut-hi.ensures.front_len

  -- the four parts are all that was written
  written : let new = c.arrange-m.new in
      Only 0 (4 * c.args.n) c.args.work.now (((new.hi ++ new.lo) ++ (new.ids ++ new.buf)) ++ c.split_at_mut-used.result.1.now)
  written = let e = c.split_at_mut-used.ensures in only_front _ _ _ e.value e.front_len (simp length-append (omega arith))

pub returns-then-least-n : goal.returns-then-least-n
returns-then-least-n c =
    let a = (goal.at.returns-then-least-n c).After-arrange-m in (
      sym (repeat_none _ c.requires.ready _ (size a ∙ c.requires.n_value.0) _ _ _ c.arrange-m.ensures.ordered _ c.least_second-least.ensures
          (c.if-least-n.true ∙ sym (size a))),
      written a,
    )

pub returns-else-least-n : goal.returns-else-least-n
returns-else-least-n c =
    let a = (goal.at.returns-else-least-n c).After-arrange-m in (
      sym (repeat_found _ c.requires.ready _ (size a ∙ c.requires.n_value.0) _ _ _ c.arrange-m.ensures.ordered _ c.least_second-least.ensures
          (λ e. c.if-least-n.false (e ∙ size a))),
      written a,
    )
