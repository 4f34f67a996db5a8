-- `runs` meets its contract: what was judged good has room for the run list. Assumes nothing.
use mathlib.Core.Path.{sym, ◌∙◌}
use native.Mathlib.Omega.{arith}
use Rattle.collection.proofs.Judged.{collection_good}
use Rattle.collection.proofs.Verdicts.{room_good}
use Rattle.runs.proofs.runs.Goals as goal

pub fill_runs-requires : goal.fill_runs-requires
fill_runs-requires c =
    let g = collection_good _ (sym c.judge.ensures ∙ c.in_ok-judge.was) in
    let weights_room = room_good _ _ (sym c.judge_room.ensures ∙ c.in_ok-judge_room.was) in
    let firsts_room = room_good _ _ (sym c.judge_room-2.ensures ∙ c.in_ok-judge_room-2.was) in
    record {
      weights_len_bound = omega (arith, g.counted, g.shape.letters_high);
      weights_in_bounds = (omega (arith, weights_room, c.count_runs-n.ensures), omega (arith, firsts_room, c.count_runs-n.ensures));
    }
