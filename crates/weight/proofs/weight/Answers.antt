-- `weight` meets its contract: the lookup is asked of a judged list and a handle of it. Assumes nothing.
use mathlib.Core.Path.{sym, ◌∙◌}
use Rattle.collection.proofs.Judged.{handle_good}
use Rattle.weight.proofs.RunLists.{list_verdict_good}
use Rattle.weight.proofs.weight.Goals as goal

pub weight_at-requires : goal.weight_at-requires
weight_at-requires c =
    let h = handle_good _ _ (sym c.judge_handle.ensures ∙ c.in_ok-judge_handle.was) in
    record {
      list = (list_verdict_good _ _ _ (sym c.judge_run_list.ensures ∙ c.in_ok-judge_run_list.was)).1;
      low = h.0;
      high = h.1;
    }
