-- What a report's answer says. Assumes nothing.
use mathlib.Core.Path.{◌≡◌, refl, sym, ap, ◌∙◌}
use mathlib.Core.List.{List}
use Prim.Native.Nat.{ℕ, ◌≤◌}
use native.Mathlib.Omega.{arith}
use lib.ListN.{length, take}
use Rattle.std.specs.Prelude.{Ok, Err, Result}
use Rattle.collection.specs.declared.refusal.Refusal.{Refusal}
use Rattle.lists.specs.Fill.{fill}
use Rattle.lists.proofs.Storing.{length_fill, take_fill}
use Rattle.lists.proofs.Refuted.{refuted}
use Rattle.collection.specs.Verdict.{settle, room_verdict, Verdict}
use Rattle.collection.proofs.Verdicts.{room_good, settled}
use Rattle.collection.proofs.Verdicts.{good_room}
use Rattle.summary_text.specs.Written.{Outcome, outcome, written_of}
use Rattle.summary.specs.Report.{text_of, report_of}

-- where it is written, the table starts with the text of the sheet
pub report_writes : (bs text : List ℕ) {answer : Result ℕ Refusal} {n : ℕ} {text' : List ℕ} → outcome answer text' ≡ report_of bs text → answer ≡ Ok n
    → (n ≤ length text') × (take n text' ≡ text_of bs)
unfolding report_of written_of settle
report_writes bs text {n = n} {text' = text'} e f =
    go (room_verdict (length text) (length (text_of bs))) refl (sym (ap (λ (a : Result ℕ Refusal). outcome a text') f) ∙ e)
  where
    go : (v : Verdict) → room_verdict (length text) (length (text_of bs)) ≡ v
        → outcome (Ok n) text'
        ≡ settle v (λ r. outcome (Err r) text) (outcome (Ok (length (text_of bs))) (fill (text_of bs) text))
        → (n ≤ length text') × (take n text' ≡ text_of bs)
    go (Ok u) h q =
        let r = room_good (length text) (length (text_of bs)) h in
        let a : ◌≡◌ {A = Result ℕ Refusal} (Ok n) (Ok (length (text_of bs))) = ap (λ (o : Outcome). o.answer) q in
        let x : n ≡ length (text_of bs) = cc in
        let y : text' ≡ fill (text_of bs) text = ap (λ (o : Outcome). o.text) q in
        (omega (arith, ap length y, length_fill (text_of bs) text r), ap (take n) y ∙ take_fill (text_of bs) text n (sym x))
    go (Err r) h q =
        let a : ◌≡◌ {A = Result ℕ Refusal} (Ok n) (Err r) = ap (λ (o : Outcome). o.answer) q in
        refuted (cc)

-- where the text has room, it is written
pub report_enough : (bs text : List ℕ) {answer : Result ℕ Refusal} {text' : List ℕ} → outcome answer text' ≡ report_of bs text
    → length (text_of bs) ≤ length text
    → answer ≡ Ok (length (text_of bs))
unfolding report_of written_of
report_enough bs text e h = ap (λ (o : Outcome). o.answer) (e ∙ sym (settled _ refl (good_room h)))
