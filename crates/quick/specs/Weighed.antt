-- The weight of an asked word: QUICK, and then WEIGHT of the handle that it found.
-- Specification: 9.9.
use Rattle.std.specs.Prelude.{List, ℕ, Result, Ok, Err, Option, Some, None}
use Rattle.collection.specs.declared.refusal.Refusal.{Refusal}
use Rattle.weight.specs.Weight.{weight_answer}
use Rattle.quick.specs.declared.QuickAnswer.{QuickAnswer}
use Rattle.quick.specs.declared.QuickAnswer.TheVariants.{Found, Absent}

-- what WEIGHT answered, of a word that was found
unfoldable pub weighs : Result ℕ Refusal → Result (Option ℕ) Refusal
weighs (Ok w) = Ok (Some w)
weighs (Err r) = Err r

-- QUICK's refusals come first, then WEIGHT's, 12 and 9, of the handle found; an absent word has no weight
unfoldable pub weighed_of : Result QuickAnswer Refusal → List ℕ → List ℕ → ℕ → Result (Option ℕ) Refusal
weighed_of (Ok (Found handle side compared)) weights_of_runs firsts_of_runs n = weighs (weight_answer weights_of_runs firsts_of_runs n handle)
weighed_of (Ok (Absent compared)) weights_of_runs firsts_of_runs n = Ok None
weighed_of (Err r) weights_of_runs firsts_of_runs n = Err r
