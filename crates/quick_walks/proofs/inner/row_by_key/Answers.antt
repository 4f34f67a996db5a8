-- `row_by_key` meets its contract. Invariant: the walk of the stretches that are left gives the answer. Assumes nothing.
use mathlib.Core.Path.{sym, ◌∙◌}
use native.Mathlib.Omega.{arith}
use lib.ListN.{length}
use Rattle.index_stretches.specs.Lent.{index_in}
use Rattle.quick_walks.proofs.RowWalks.{walking_begins, walking_room, walking_met, walking_on, walking_ends}
use Rattle.quick_walks.proofs.inner.row_by_key.Goals as goal

pub loop-i-init : goal.loop-i-init
loop-i-init c =
    let a = c.args in
    let p = c.requires in
    walking_begins _ a.k (length a.letters.now) (index_in a.index) a.v a.compared p.le_k.4 p.row.fits

pub stretch_by_key-met-requires-clause-k_in_bounds :
    goal.stretch_by_key-met-requires-clause-k_in_bounds
stretch_by_key-met-requires-clause-k_in_bounds c =
    let l = c.loop-i.invariant in
    let r = walking_room l c.loop-i-test.true in
    (r.letters, omega (arith, r.some, r.handles), omega (arith, l.few, l.inside, c.requires.row.alike.few))

pub returns-in_default : goal.returns-in_default
returns-in_default c =
    sym (walking_met c.loop-i.invariant c.loop-i-test.true _ _ (sym c.stretch_by_key-met.ensures ∙ c.in_default.is) ∙ sym c.in_default.is)

pub loop-i-preserved : goal.loop-i-preserved
loop-i-preserved c = walking_on c.loop-i.invariant c.loop-i-test.true _ (sym c.stretch_by_key-met.ensures ∙ c.in-Miss.is)

pub returns : goal.returns
returns c = sym (walking_ends c.loop-i.invariant c.loop-i-test.false)
