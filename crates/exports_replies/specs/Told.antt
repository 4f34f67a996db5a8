-- A reply: the number that is returned, and what the first entries of the answer table hold.
-- Specification: 11.
use Rattle.std.specs.Prelude.{List, [], ◌∷◌, ℕ, Result, Ok, Err}
use Rattle.lists.specs.Fill.{fill}
use Rattle.collection.specs.declared.refusal.Told as refusal
use Rattle.exports_replies.specs.declared.Reply.{Reply}
use Rattle.exports_replies.specs.declared.Reply.TheVariants.{One, Two, Three, Four}

-- the values of a reply
abbrev pub values_of : Reply → List ℕ
values_of (One a) = a ∷ []
values_of (Two a b) = a ∷ (b ∷ [])
values_of (Three a b c) = a ∷ (b ∷ (c ∷ []))
values_of (Four a b c d) = a ∷ (b ∷ (c ∷ (d ∷ [])))

-- what is returned, and the answer table afterwards
pub record Told : Type 0 where
  pub number : ℕ
  pub answer : List ℕ

abbrev pub told : ℕ → List ℕ → Told
told number answer = record { number = number; answer = answer }

-- A reply told through the table `old`: 0 and its values in the first entries. A refusal, of any number and place: its number, and its place alone. The rest
-- of the table is as it was.
unfoldable pub told_of : Result Reply refusal.Told → List ℕ → Told
told_of (Ok reply) old = told 0 (fill (values_of reply) old)
told_of (Err t) old = told t.number (fill (t.place ∷ []) old)
