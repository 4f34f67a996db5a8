-- `first_weight` meets its contract: what `position` finds is the first. Assumes nothing.
use mathlib.Core.Path.{◌≡◌, sym, ◌∙◌}
use mathlib.Core.Bool.{true, false, not}
use borrow.Author.Tests.{tests}
use Rattle.std.proofs.Common.{rules}
use Rattle.std.proofs.lemmas.Iterator.{IsFirst-from_position, YieldsList-from_slice}
use Rattle.lists.proofs.Every.{every-all}
use Rattle.collection_faults.specs.Faults.{is_weight}
use Rattle.collection_faults.proofs.Finding.{every_first, first_found, first_missing}
use Rattle.collection_faults.proofs.inner.first_weight.Goals as goal

pub returns-then-all_weights : goal.returns-then-all_weights
returns-then-all_weights c = sym (every_first is_weight _ (every-all is_weight _ (sym c.all_weights.ensures ∙ c.if-all_weights.true)))

pub returns-in-Some : goal.returns-in-Some
returns-in-Some c =
    first_found (λ w. not (is_weight w)) _ _
    (IsFirst-from_position _ _ _ (λ w. not (is_weight w) ≡ true) (λ w. not (is_weight w) ≡ false) c.in-Some.ensures.ran
    (YieldsList-from_slice _ c.iter.ensures.rest) (λ x q k. search (rules, tests)) (λ x q k. search (rules, tests)))

pub returns-in-None : goal.returns-in-None
returns-in-None c =
    first_missing (λ w. not (is_weight w)) _
    (IsFirst-from_position _ _ _ (λ w. not (is_weight w) ≡ true) (λ w. not (is_weight w) ≡ false) c.in-None.ensures.ran
    (YieldsList-from_slice _ c.iter.ensures.rest) (λ x q k. search (rules, tests)) (λ x q k. search (rules, tests)))
