-- `found_next` meets its contract: the test picks the weight. Assumes nothing.
use mathlib.Core.Path.{sym, ap}
use mathlib.Core.Bool.{Bool}
use Rattle.lists.specs.Choose.{choose}
use borrow.Author.Tests.{le-leb, lt-leb}
use Rattle.weight_records.proofs.found_next.Goals as goal

pub returns-then-r-s : goal.returns-then-r-s
returns-then-r-s c =
    let a = c.args in
    sym (ap (λ (t : Bool). choose t a.r.weight a.s.found) (le-leb a.r.first a.s.handle c.if-r-s.true))

pub returns : goal.returns
returns c =
    let a = c.args in
    sym (ap (λ (t : Bool). choose t a.r.weight a.s.found) (lt-leb a.r.first a.s.handle c.if-r-s.false))
