-- `largest` meets its contract: `max` gives the largest, or none where there is no weight. Assumes nothing.
use mathlib.Core.Path.{◌≡◌, sym, ap, ◌∙◌}
use Prim.Native.Nat.{ℕ, max}
use Rattle.std.proofs.Common.{Option}
use Rattle.std.proofs.lemmas.Iterator.{YieldsList-from_slice}
use Rattle.std.proofs.lemmas.Iterator.Consumers.{YieldsList-at, YieldsList-from_copied, max_from_yields_List}
use Rattle.std.proofs.lemmas.Iterator.Adapters.{option_map_id}
use Rattle.std.specs.List.{reduce}
use Rattle.std.specs.Option.{unwrap_or}
use Rattle.summary_counts.proofs.Sums.{largest_reduced}
use Rattle.summary_counts.proofs.inner.largest.Goals as goal

pub returns : goal.returns
returns c =
    let ws = c.args.weights.now in
    let e : c.max.result ≡ reduce max ws =
    sym (option_map_id c.max.result)
    ∙ max_from_yields_List c.copied.result _ c.max.ensures.ran
    (YieldsList-from_copied (YieldsList-at c.copied.ensures.source (YieldsList-from_slice ws c.iter.ensures.rest))) in
    c.unwrap_or.ensures ∙ (ap (λ (o : Option ℕ). unwrap_or o 0) e ∙ largest_reduced ws)
