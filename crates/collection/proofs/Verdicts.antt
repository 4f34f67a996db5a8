-- Laws of verdicts, for every call that judges. Assumes nothing.
use mathlib.Core.Path.{◌≡◌, refl, sym, ap, ◌∙◌}
use mathlib.Core.Bool.{Bool, true, false}
use Prim.Native.Nat.{ℕ, zero, suc, ◌≤◌}
use borrow.Author.Tests.{ltb-false, le-ltb}
use lib.Dec.{ltb}
use Rattle.lists.specs.Choose.{choose}
use Rattle.lists.proofs.Refuted.{refuted}
use Rattle.std.specs.Prelude.{Ok, Err}
use Rattle.collection.specs.declared.refusal.Refusal.{Refusal}
use Rattle.collection.specs.declared.refusal.Refusal.TheVariants.{Room}
use Rattle.collection.specs.Verdict.{Verdict, good, at_place, and_then, settle, room_verdict}

pub bad_good : {r : Refusal} → Err r ≡ good → ⊥
bad_good h = refuted (cc)

-- ─── a row of judgements, as a call goes through it ──────────────────────────

-- a refusal ends the row
pub then_bad : {first : Verdict} {r : Refusal} (next : Verdict) → first ≡ Err r → and_then first next ≡ Err r
unfolding and_then
then_bad next e = ap (λ (v : Verdict). and_then v next) e

-- a good verdict hands on to the next
pub then_good : {first answer : Verdict} (next : Verdict) → first ≡ good → next ≡ answer → and_then first next ≡ answer
unfolding and_then
then_good next e f = ap (λ (v : Verdict). and_then v next) e ∙ f

-- where a row is good, each judgement of it is
pub both_good : (first next : Verdict) → and_then first next ≡ good → (first ≡ good) × (next ≡ good)
unfolding and_then
both_good (Ok u) next h = (refl, h)
both_good (Err r) next h = absurd (bad_good h)

-- ─── a judgement by a test ───────────────────────────────────────────────────

-- a test that passed
pub test_good : (test : Bool) (r : Refusal) (next : Verdict) → choose test next (Err r) ≡ good → (test ≡ true) × (next ≡ good)
test_good true r next h = (refl, h)
test_good false r next h = absurd (bad_good h)

-- no first fault
pub place_good : (refusal : ℕ → Refusal) (place : ℕ) → at_place refusal place ≡ good → place ≡ 0
unfolding at_place
place_good refusal zero h = refl
place_good refusal (suc place) h = absurd (bad_good h)

-- the verdict where there is none
pub place_none : (refusal : ℕ → Refusal) {place : ℕ} → place ≡ 0 → good ≡ at_place refusal place
unfolding at_place
place_none refusal e = sym (ap (at_place refusal) e)

-- and where there is one
pub place_some : (refusal : ℕ → Refusal) (place : ℕ) → (place ≡ 0 → ⊥) → Err (refusal place) ≡ at_place refusal place
unfolding at_place
place_some refusal zero h = absurd (h refl)
place_some refusal (suc place) h = refl

-- a table that is long enough
pub room_good : (have need : ℕ) → room_verdict have need ≡ good → need ≤ have
unfolding room_verdict
room_good have need h = go (ltb have need) refl h
  where
    go : (t : Bool) → ltb have need ≡ t → choose t (Err Room) good ≡ good → need ≤ have
    go true e g = absurd (bad_good g)
    go false e g = ltb-false have need e

-- a table that is long enough is not refused by 1
pub good_room : {have need : ℕ} → need ≤ have → room_verdict have need ≡ good
unfolding room_verdict
good_room {have} {need} h = ap (λ t. choose t (Err Room) good) (le-ltb have need h)

-- ─── what a call comes to ────────────────────────────────────────────────────

module _ {Out : Type 0} {verdict : Verdict} (refuse : Refusal → Out) where
  pub refused : {r : Refusal} (done : Out) → verdict ≡ Err r → refuse r ≡ settle verdict refuse done
  unfolding settle
  refused done e = sym (ap (λ (v : Verdict). settle v refuse done) e)

  -- a call that was not refused
  pub settled : {done answer : Out} → answer ≡ done → verdict ≡ good → answer ≡ settle verdict refuse done
  unfolding settle
  settled {done = done} d e = d ∙ sym (ap (λ (v : Verdict). settle v refuse done) e)

-- ─── what an answer tells of the call ────────────────────────────────────────

-- `answer` is the part of an outcome that is told. An answer r that no refusal gives: the call was not refused
pub done_by : {Out Answer : Type 0} (answer : Out → Answer) (v : Verdict) (refuse : Refusal → Out) (done : Out) (r : Answer)
    → ((refusal : Refusal) → answer (refuse refusal) ≡ r → ⊥)
    → answer (settle v refuse done) ≡ r → (v ≡ good) × (settle v refuse done ≡ done) × (answer done ≡ r)
unfolding settle
done_by answer (Ok u) refuse done r not e = (refl, refl, e)
done_by answer (Err refusal) refuse done r not e = absurd (not refusal e)

-- an answer r that a call gives only where it is refused
pub refused_by : {Out Answer : Type 0} (answer : Out → Answer) (v : Verdict) (refuse : Refusal → Out) (done : Out) (r : Answer) → (answer done ≡ r → ⊥)
    → answer (settle v refuse done) ≡ r
    → (refusal : Refusal) × (settle v refuse done ≡ refuse refusal) × (answer (refuse refusal) ≡ r)
unfolding settle
refused_by answer (Ok u) refuse done r not e = absurd (not e)
refused_by answer (Err refusal) refuse done r not e = (refusal, refl, e)
