-- `number_at` meets its contract. Invariant: the walk from here on, with the value so far, finds the number; beyond the text no digit has been read. Assumes
-- nothing.
use mathlib.Core.Path.{sym, ap, refl, ◌∙◌}
use mathlib.Core.Bool.{not}
use native.Mathlib.Omega.{arith}
use Rattle.text.proofs.Tests.{told_no, told_yes}
use Rattle.text.proofs.OneNumber.{walk_field, walk_end, walk_bad, walk_next, walk_over, range_bounds}
use Rattle.text.proofs.inner.number_at.Goals as goal

pub loop-i-init : goal.loop-i-init
loop-i-init c = record { small = omega arith; finds = sym (walk_field c.args.most c.requires.1 _ _); unread = λ h. refl }

pub returns-then-not-is_digit : goal.returns-then-not-is_digit
returns-then-not-is_digit c =
    let a = c.args in
    let d = told_no c.is_digit.ensures (ap not c.if-not-is_digit.true) in
    c.number_end.ensures ∙ (walk_end a.sep _ _ c.loop-i-test.true a.most c.loop-i.v d ∙ sym c.loop-i.invariant.finds)

pub returns-then-not-in_range : goal.returns-then-not-in_range
returns-then-not-in_range c =
    let d = told_yes c.is_digit.ensures (ap not c.if-not-is_digit.false) in
    let out = told_no c.in_range.ensures (ap not c.if-not-in_range.true) in
    sym (c.loop-i.invariant.finds
    ∙ walk_bad c.args.sep _ _ c.loop-i-test.true c.args.most c.requires.0 d c.loop-i.v _ c.with_digit-v.ensures out)

pub loop-i-preserved : goal.loop-i-preserved
loop-i-preserved c =
    let d = told_yes c.is_digit.ensures (ap not c.if-not-is_digit.false) in
    let within = told_yes c.in_range.ensures (ap not c.if-not-in_range.false) in
    let next = walk_next c.args.sep _ _ c.loop-i-test.true c.args.most c.requires.0 d c.loop-i.v _ c.with_digit-v.ensures within in
    record { small = (range_bounds _ _ within).1; finds = c.loop-i.invariant.finds ∙ next; unread = λ h. omega arith }

pub returns : goal.returns
returns c =
    let i = c.loop-i.invariant in
    c.ended.ensures ∙ (sym (walk_over c.args.sep _ c.args.most _ _ c.loop-i-test.false i.unread) ∙ sym i.finds)
