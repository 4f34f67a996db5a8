-- What WRITE comes to. Assumes nothing.
use mathlib.Core.Path.{◌≡◌, sym, ◌∙◌}
use mathlib.Core.List.{List}
use Prim.Native.Nat.{ℕ, ◌≤◌}
use lib.ListN.{length}
use Rattle.std.specs.Prelude.{Ok, Err}
use Rattle.collection.specs.Verdict.{Verdict, good}
use Rattle.collection.specs.declared.refusal.Refusal.{Refusal}
use Rattle.lists.specs.Fill.{fill}
use Rattle.collection.specs.Collection.{Collection}
use Rattle.collection.specs.Judge.{collection_verdict, Passes}
use Rattle.collection.proofs.Verdicts.{both_good, room_good, refused, settled}
use Rattle.sheet.specs.Text.{write_text}
use Rattle.sheet.specs.Write.{write_verdict, write_outcome, write_of}

module _ (c : Collection) (sheet : List ℕ) {v : Verdict} (e : v ≡ write_verdict c (length sheet)) where
  -- a refusal leaves the table
  pub write_refused : {r : Refusal} → v ≡ Err r → write_outcome (Err r) sheet ≡ write_of c sheet
  unfolding write_of
  write_refused q = refused (λ r. write_outcome (Err r) sheet) _ (sym e ∙ q)

  module _ (q : v ≡ good) where
    -- a judged collection passes 2 to 6, and its sheet has room
    pub write_ready : Passes c × (length (write_text c) ≤ length sheet)
    unfolding write_verdict
    write_ready =
        let b = both_good (collection_verdict c) _ (sym e ∙ q) in
        (b.0, room_good _ _ b.1)

    -- the stored sheet is what WRITE leaves
    pub write_done : {n : ℕ} {sheet' : List ℕ} → n ≡ length (write_text c) → sheet' ≡ fill (write_text c) sheet
        → write_outcome (Ok n) sheet' ≡ write_of c sheet
    unfolding write_of
    write_done x y = settled (λ r. write_outcome (Err r) sheet) (λ i. write_outcome (Ok (x i)) (y i)) (sym e ∙ q)
