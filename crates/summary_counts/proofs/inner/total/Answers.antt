-- `total` meets its contract: `sum` folds over the weights. Assumes nothing.
use mathlib.Core.Path.{◌∙◌}
use native.Mathlib.Omega.{arith}
use borrow.Author.Tests.{tests}
use Rattle.std.proofs.Common.{rules}
use Rattle.std.proofs.lemmas.Iterator.{YieldsList-from_slice, YieldsList-from_map}
use Rattle.std.proofs.lemmas.Iterator.Consumers.{YieldsList-at, sum_by_from_yields_List}
use Rattle.summary_counts.proofs.Sums.{sum_folded}
use Rattle.summary_counts.proofs.inner.total.Goals as goal

pub returns : goal.returns
returns c =
    let s = sum_by_from_yields_List (λ x. x) c.args.weights.now c.map.result _ c.sum.ensures.ran
    (YieldsList-from_map _ (λ x. x) (YieldsList-at c.map.ensures.source (YieldsList-from_slice c.args.weights.now c.iter.ensures.rest)) c.map.ensures.closure
    (λ x r q k. search (rules, tests))) in
    omega (arith, s ∙ sum_folded c.args.weights.now)
