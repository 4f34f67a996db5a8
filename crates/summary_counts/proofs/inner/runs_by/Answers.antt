-- `runs_by` meets its contract: the ids are replaced, and their runs counted. Assumes nothing.
use mathlib.Core.Path.{ap, ◌∙◌}
use Rattle.runs.specs.Runs.{run_count}
use Rattle.summary_counts.proofs.inner.runs_by.Goals as goal

pub weigh_ids-requires : goal.weigh_ids-requires
weigh_ids-requires c = c.requires

pub returns : goal.returns
returns c = c.count_runs.ensures ∙ ap run_count c.weigh_ids.ensures
