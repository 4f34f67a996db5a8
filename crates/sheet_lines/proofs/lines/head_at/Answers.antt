-- `head_at` meets its contract: each test rules out a text of line 1, or finds it. Assumes nothing.
use mathlib.Core.Path.{sym, ap, ◌∙◌}
use mathlib.Core.Bool.{not}
use Rattle.text.proofs.Tests.{told_no, told_yes}
use Rattle.sheet_lines.proofs.Heads.{not_k, not_tab, zero_head, no_number, too_long, number_head}
use Rattle.sheet_lines.proofs.lines.head_at.Goals as goal

pub returns-then-not-byte_is : goal.returns-then-not-byte_is
returns-then-not-byte_is c = sym (not_k _ (told_no c.byte_is.ensures (ap not c.if-not-byte_is.true)))

pub returns-then-not-byte_is-2 : goal.returns-then-not-byte_is-2
returns-then-not-byte_is-2 c = sym (not_tab _ (told_no c.byte_is-2.ensures (ap not c.if-not-byte_is-2.true)))

pub returns-then-byte_is : goal.returns-then-byte_is
returns-then-byte_is c =
    let k-here = told_yes c.byte_is.ensures (ap not c.if-not-byte_is.false) in
    let tab-here = told_yes c.byte_is-2.ensures (ap not c.if-not-byte_is-2.false) in
    c.head_end.ensures ∙ zero_head _ k-here tab-here (sym c.byte_is-3.ensures ∙ c.if-byte_is.true)

pub returns-in_err-w : goal.returns-in_err-w
returns-in_err-w c =
    let k-here = told_yes c.byte_is.ensures (ap not c.if-not-byte_is.false) in
    let tab-here = told_yes c.byte_is-2.ensures (ap not c.if-not-byte_is-2.false) in
    let no_zero = sym c.byte_is-3.ensures ∙ c.if-byte_is.false in
    rw c.from_residual.ensures (sym (no_number _ k-here tab-here no_zero (sym c.weight_at.ensures ∙ c.in_err-w.was)))

pub returns-then-w-gt4 : goal.returns-then-w-gt4
returns-then-w-gt4 c =
    let k-here = told_yes c.byte_is.ensures (ap not c.if-not-byte_is.false) in
    let tab-here = told_yes c.byte_is-2.ensures (ap not c.if-not-byte_is-2.false) in
    let no_zero = sym c.byte_is-3.ensures ∙ c.if-byte_is.false in
    let w = c.in_ok-w.w in
    sym (too_long _ k-here tab-here no_zero w.value w.next (sym c.weight_at.ensures ∙ c.in_ok-w.was) c.if-w-gt4.true)

pub returns : goal.returns
returns c =
    let k-here = told_yes c.byte_is.ensures (ap not c.if-not-byte_is.false) in
    let tab-here = told_yes c.byte_is-2.ensures (ap not c.if-not-byte_is-2.false) in
    let no_zero = sym c.byte_is-3.ensures ∙ c.if-byte_is.false in
    let w = c.in_ok-w.w in
    c.head_end-2.ensures ∙ number_head _ k-here tab-here no_zero w.value w.next (sym c.weight_at.ensures ∙ c.in_ok-w.was) c.if-w-gt4.false
