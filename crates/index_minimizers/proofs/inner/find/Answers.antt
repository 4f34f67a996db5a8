-- `find` meets its contract: the last piece alone is the least, and one piece more is compared with the least of those behind it. Assumes nothing.
use Rattle.std.proofs.Common.{◌+◌, refl, sym, ◌∙◌, arith}
use Rattle.index_minimizers.proofs.Sliding.{least_end, least_step, last_piece}
use Rattle.index_minimizers.proofs.inner.find.Goals as goal

pub loop-j-init : goal.loop-j-init
loop-j-init c = c.piece-best.ensures ∙ (last_piece c.args.p c.args.c ∙ sym (least_end c.args.p c.args.c))

pub loop-j-preserved : goal.loop-j-preserved
loop-j-preserved c = omega (arith, c.min-best.ensures, c.piece.ensures, least_step c.args.p c.loop-j.j (c.loop-j.j + 1) c.args.c refl)
