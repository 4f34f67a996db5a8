-- `quick` meets its contract where the index is refused: by less than the other goals want, so that the search ends. Assumes nothing.
use Rattle.std.proofs.Common.{arith}
use Rattle.std.proofs.lemmas.Grind.{common_steps}
use Rattle.collection.proofs.Verdicts.{then_good, refused}
use Rattle.quick.specs.Quick.{quick_of, quick_verdict}
use Rattle.quick.proofs.quick.Goals as goal

pub returns-in_err-judge_index : goal.returns-in_err-judge_index
unfolding quick_of quick_verdict
returns-in_err-judge_index c = grind (arith, common_steps, then_good, refused)
