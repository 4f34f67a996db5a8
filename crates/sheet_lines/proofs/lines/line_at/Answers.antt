-- `line_at` meets its contract: each step is a part of the line. Assumes nothing.
use mathlib.Core.Path.{refl, sym, ap, ◌∙◌}
use mathlib.Core.Bool.{not}
use Rattle.text.proofs.Tests.{told_no, told_yes}
use Rattle.sheet_lines.proofs.OneLine.{marked_room, line_few, line_bad, line_good, line_unmarked}
use Rattle.sheet_lines.proofs.lines.line_at.Goals as goal

pub returns-then-not-is_marked : goal.returns-then-not-is_marked
returns-then-not-is_marked c = sym (line_unmarked _ _ c.args.k (told_no c.is_marked.ensures (ap not c.if-not-is_marked.true)))

pub letters_end-e-requires : goal.letters_end-e-requires
letters_end-e-requires c = marked_room _ _ (told_yes c.is_marked.ensures (ap not c.if-not-is_marked.false))

pub returns-then-n-k : goal.returns-then-n-k
returns-then-n-k c =
    let h = told_yes c.is_marked.ensures (ap not c.if-not-is_marked.false) in
    sym (line_few _ _ c.args.k _ c.letters_end-e.result _ h c.letters_end-e.ensures.0 refl refl
    c.if-n-k.true)

pub returns-in_err-next : goal.returns-in_err-next
returns-in_err-next c =
    let h = told_yes c.is_marked.ensures (ap not c.if-not-is_marked.false) in
    rw c.from_residual.ensures
    (sym (line_bad _ _ c.args.k _ c.letters_end-e.result _ h c.letters_end-e.ensures.0 refl refl
    c.if-n-k.false (sym c.tail_at.ensures ∙ c.in_err-next.was)))

pub returns : goal.returns
returns c =
    let h = told_yes c.is_marked.ensures (ap not c.if-not-is_marked.false) in
    sym (line_good _ _ c.args.k _ c.letters_end-e.result _ h c.letters_end-e.ensures.0 refl refl _
    c.if-n-k.false (sym c.tail_at.ensures ∙ c.in_ok-next.was))
