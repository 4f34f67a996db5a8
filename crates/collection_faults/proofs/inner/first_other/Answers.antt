-- `first_other` meets its contract: what `position` finds is the first. Assumes nothing.
use mathlib.Core.Path.{◌≡◌, sym, ◌∙◌}
use mathlib.Core.Bool.{true, false, not}
use borrow.Author.Tests.{tests}
use Rattle.std.proofs.Common.{rules}
use Rattle.std.proofs.lemmas.Iterator.{IsFirst-from_position, YieldsList-from_slice}
use Rattle.lists.proofs.Every.{every-all}
use Rattle.alphabet.specs.Letter.{is_letter}
use Rattle.collection_faults.proofs.Finding.{every_first, first_found, first_missing}
use Rattle.collection_faults.proofs.inner.first_other.Goals as goal

pub returns-then-all_letters : goal.returns-then-all_letters
returns-then-all_letters c = sym (every_first is_letter _ (every-all is_letter _ (sym c.all_letters.ensures ∙ c.if-all_letters.true)))

pub returns-in-Some : goal.returns-in-Some
returns-in-Some c =
    first_found (λ b. not (is_letter b)) _ _
    (IsFirst-from_position _ _ _ (λ b. not (is_letter b) ≡ true) (λ b. not (is_letter b) ≡ false) c.in-Some.ensures.ran
    (YieldsList-from_slice _ c.iter.ensures.rest) (λ x q k. search (rules, tests)) (λ x q k. search (rules, tests)))

pub returns-in-None : goal.returns-in-None
returns-in-None c =
    first_missing (λ b. not (is_letter b)) _
    (IsFirst-from_position _ _ _ (λ b. not (is_letter b) ≡ true) (λ b. not (is_letter b) ≡ false) c.in-None.ensures.ran
    (YieldsList-from_slice _ c.iter.ensures.rest) (λ x q k. search (rules, tests)) (λ x q k. search (rules, tests)))
