-- Verdicts: a call finds nothing to refuse, or refuses with a number and a place.
-- Specification: 8.1, 8.3, 8.4.
use Rattle.std.specs.Prelude.{List, ℕ, zero, suc, ◌++◌, ltb, codes, decimal, Result, Ok, Err}
use Rattle.lists.specs.Choose.{choose}
use Rattle.collection.specs.declared.refusal.Told.{Told}
use Rattle.collection.specs.declared.refusal.Refusal.{Refusal}
use Rattle.collection.specs.declared.refusal.Refusal.TheVariants.{
  Room,
  Sizes,
  Limits,
  Ends,
  Letters,
  Weights,
  Repeated,
  Places,
  Question,
  Index,
  Line,
  RunList,
}

-- the number of a refusal
abbrev pub number_of : Refusal → ℕ
number_of Room = 1
number_of Sizes = 2
number_of Limits = 3
number_of (Ends place) = 4
number_of (Letters place) = 5
number_of (Weights place) = 6
number_of (Repeated place) = 7
number_of (Places place) = 8
number_of Question = 9
number_of Index = 10
number_of (Line place) = 11
number_of RunList = 12

-- its place; 0 where the table of refusals gives it none
abbrev pub place_of : Refusal → ℕ
place_of Room = 0
place_of Sizes = 0
place_of Limits = 0
place_of (Ends place) = place
place_of (Letters place) = place
place_of (Weights place) = place
place_of (Repeated place) = place
place_of (Places place) = place
place_of Question = 0
place_of Index = 0
place_of (Line place) = place
place_of RunList = 0

-- how a refusal is printed: `refused`, its number and its place, parted by tabs
abbrev pub refusal_text : Refusal → List ℕ
refusal_text r = codes "refused\t" ++ decimal (number_of r) ++ codes "\t" ++ decimal (place_of r)

-- nothing to refuse, or the first refusal
abbrev pub Verdict : Type 0
Verdict = Result (Unit {0}) Refusal

-- nothing is refused
abbrev pub good : Verdict
good = Ok tt

-- the number and the place of a refusal; 0 and 0 where nothing is refused
unfoldable pub told : Verdict → Told
told (Ok u) = record { number = 0; place = 0 }
told (Err r) = record { number = number_of r; place = place_of r }

-- a refusal at the place of the first that is wrong; none where that place is 0
unfoldable pub at_place : (ℕ → Refusal) → ℕ → Verdict
at_place refusal zero = good
at_place refusal (suc place) = Err (refusal (suc place))

-- the order of refusals: the second verdict counts where the first is good
unfoldable pub and_then : Verdict → Verdict → Verdict
and_then (Ok u) next = next
and_then (Err r) next = Err r

-- what a call comes to: what it answers to a refusal, or what it does where nothing is refused
unfoldable pub settle : {Out : Type 0} → Verdict → (Refusal → Out) → Out → Out
settle (Ok u) refuse done = done
settle (Err r) refuse done = refuse r

-- 1: a lent table of `have` entries where `need` are needed
unfoldable pub room_verdict : ℕ → ℕ → Verdict
room_verdict have need = choose (ltb have need) (Err Room) good
