-- `judge_write` meets its contract: the length is that of a judged collection's sheet. Assumes nothing.
use mathlib.Core.Path.{sym, ◌∙◌}
use Rattle.sheet_write.proofs.judge_write.Goals as goal

pub sheet_length-n-requires : goal.sheet_length-n-requires
sheet_length-n-requires c = sym c.judge.ensures ∙ c.in_ok-judge.was
