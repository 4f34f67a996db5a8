-- `tail_end` meets its contract: by the byte at the place. Assumes nothing.
use mathlib.Core.Path.{sym, ◌∙◌}
use native.Mathlib.Omega.{arith}
use Rattle.text.proofs.Bytes.{byte_here}
use Rattle.sheet_lines.proofs.Tails.{tail_ended, tail_unended}
use Rattle.sheet_lines.proofs.lines.tail_end.Goals as goal

pub overflow_add-result : goal.overflow_add-result
overflow_add-result c =
    let b = byte_here c.args.s.now c.args.i 10 (sym c.byte_is.ensures ∙ c.if-byte_is.true) in
    omega (arith, b.0)

pub returns-then-byte_is : goal.returns-then-byte_is
returns-then-byte_is c = sym (tail_ended _ _ (sym c.byte_is.ensures ∙ c.if-byte_is.true))

pub returns : goal.returns
returns c = sym (tail_unended _ _ (sym c.byte_is.ensures ∙ c.if-byte_is.false))
