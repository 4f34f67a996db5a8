-- What a write comes to. Assumes nothing.
use mathlib.Core.Path.{◌≡◌, sym, ap, ◌∙◌}
use mathlib.Core.List.{List}
use Prim.Native.Nat.{ℕ, ◌≤◌}
use lib.ListN.{length}
use Rattle.std.specs.Prelude.{Ok, Err}
use Rattle.collection.specs.declared.refusal.Refusal.{Refusal}
use Rattle.lists.specs.Fill.{fill}
use Rattle.collection.specs.Verdict.{room_verdict, Verdict, good}
use Rattle.collection.proofs.Verdicts.{room_good, refused, settled}
use Rattle.summary_text.specs.Written.{outcome, written_of}

-- n is the length of the bytes, and v judges the room for them
module _ (bytes text : List ℕ) {n : ℕ} (e : n ≡ length bytes) {v : Verdict} (judged : v ≡ room_verdict (length text) n) where
  verdict : v ≡ room_verdict (length text) (length bytes)
  verdict = judged ∙ ap (room_verdict (length text)) e

  -- no room: the table stays
  pub written_refused : {r : Refusal} → v ≡ Err r → outcome (Err r) text ≡ written_of bytes text
  unfolding written_of
  written_refused q = refused (λ r. outcome (Err r) text) _ (sym verdict ∙ q)

  -- room
  pub written_room : v ≡ good → length bytes ≤ length text
  written_room q = room_good _ _ (sym verdict ∙ q)

  -- the stored bytes are what writing leaves
  pub written_done : v ≡ good → {p : ℕ} {text' : List ℕ} → p ≡ length bytes → text' ≡ fill bytes text → outcome (Ok p) text' ≡ written_of bytes text
  unfolding written_of
  written_done q x y = settled (λ r. outcome (Err r) text) (λ i. outcome (Ok (x i)) (y i)) (sym verdict ∙ q)
