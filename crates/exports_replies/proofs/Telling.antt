-- Laws of what is told to a host. Assumes nothing.
use mathlib.Core.Bool.{Bool}
use mathlib.Core.List.{List}
use mathlib.Core.Path.{◌≡◌, sym, ap, ◌∙◌}
use Prim.Native.Nat.{ℕ, ◌<◌, ◌≤◌}
use borrow.Author.Tests.{lt-ltb, le-ltb}
use lib.ListN.{length}
use Rattle.collection.specs.declared.refusal.Told as refusal
use Rattle.std.specs.Prelude.{Result}
use Rattle.lists.specs.Choose.{choose}
use Rattle.exports_replies.specs.declared.Reply.{Reply}
use Rattle.exports_replies.specs.Told.{Told, told, told_of}
use Rattle.exports_replies.specs.Exported.{Exported, exported, exported_of}

-- an answer table that is too short: 1, and nothing is written
pub too_short : {Tables : Type 0} {before : Tables} (old : List ℕ) (reply : Result Reply refusal.Told) (after : Tables) → length old < 4
    → exported 1 old before ≡ exported_of old before reply after
unfolding exported_of
too_short {before = before} old reply after h =
    sym (ap (λ (t : Bool). choose t (exported 1 old before) (record { telling = told_of reply old; tables = after })) (lt-ltb _ _ h))

-- the reply of a call told through a table that is long enough
pub shown :
    {Tables : Type 0} {answer : List ℕ} {reply known : Result Reply refusal.Told} {number : ℕ} {after : Tables} (old : List ℕ) (before : Tables)
    → 4 ≤ length old → reply ≡ known
    → told number answer ≡ told_of reply old → exported number answer after ≡ exported_of old before known after
unfolding exported_of
shown {known = known} {after = after} old before h e q =
    let whole : Told → Exported _ = λ (t : Told). record { telling = t; tables = after } in
    (ap whole q ∙ ap (λ (r : Result Reply refusal.Told). whole (told_of r old)) e)
    ∙ sym (ap (λ (t : Bool). choose t (exported 1 old before) (whole (told_of known old))) (le-ltb _ _ h))
