-- `first_turned` meets its contract: the test picks the case. Assumes nothing.
use mathlib.Core.Path.{sym, ap}
use mathlib.Core.Bool.{Bool}
use Rattle.lists.specs.Choose.{choose}
use Rattle.plain.proofs.scanning.first_turned.Goals as goal

pub returns-then-before-here : goal.returns-then-before-here
returns-then-before-here c = let a = c.args in sym (ap (λ (t : Bool). choose t a.handle a.before) c.if-before-here.true)

pub returns-else-before-here : goal.returns-else-before-here
returns-else-before-here c = let a = c.args in sym (ap (λ (t : Bool). choose t a.handle a.before) c.if-before-here.false)
