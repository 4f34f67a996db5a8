-- What `corrivume_cover` tells is determined, as is its work. Assumes nothing.
use mathlib.Core.List.{List}
use mathlib.Core.Logic.{⊎_elim}
use mathlib.Core.Path.{◌≡◌, refl, sym, ap, ◌∙◌}
use Prim.Native.Nat.{ℕ, ◌<◌, ◌≤◌}
use lib.IntN.{ℤ}
use lib.ListN.{length}
use Rattle.std.specs.Prelude.{Result}
use Rattle.collection.specs.declared.refusal.Refusal.{Refusal}
use Rattle.cover.specs.declared.Covered.{Covered}
use Rattle.lists.proofs.Compare.{lt_or_le}
use Rattle.cover.proofs.Laws.{cover_only}
use Rattle.exports_replies.specs.Told.{told, told_of}
use Rattle.exports_replies.specs.Exported.{Exported}
use Rattle.exports_replies.specs.Replies.{cover_reply}
use Rattle.exports_replies.proofs.Telling.{too_short, shown}
use Rattle.exports.specs.Calls.{CoverExported}
use Rattle.collection.specs.Collection.{Collection}

module _ (c : Collection) (places : List ℤ) (work answer : List ℕ) where
  -- what is told, where the table is too short and where it is not
  told_short : {number : ℕ} {places' : List ℤ} {work' answer' : List ℕ} → CoverExported c places work answer number places' work' answer'
      → length answer < 4 → (told number answer' ≡ told 1 answer) × (work' ≡ work)
  told_short x h =
      let e = x.shown ∙ sym (too_short answer (cover_reply x.given) _ h) in
      (ap (λ (s : Exported (List ℤ × List ℕ)). s.telling) e, ap (λ (s : Exported (List ℤ × List ℕ)). s.tables.1) e)

  told_long : {number : ℕ} {places' : List ℤ} {work' answer' : List ℕ} → (x : CoverExported c places work answer number places' work' answer')
      → 4 ≤ length answer → told number answer' ≡ told_of (cover_reply x.given) answer
  told_long {places' = places'} {work' = work'} x h =
      ap (λ (s : Exported (List ℤ × List ℕ)). s.telling) (x.shown ∙ sym (shown {after = (places', work')} answer (places, work) h refl refl))

  -- no second number, answer table or table of work meets the promise
  pub cover_told-once : {n n₂ : ℕ} {p p₂ : List ℤ} {w w₂ a a₂ : List ℕ} → CoverExported c places work answer n p w a
      → CoverExported c places work answer n₂ p₂ w₂ a₂ → (told n a ≡ told n₂ a₂) × (w ≡ w₂)
  cover_told-once {n} {n₂} {p} {p₂} {w} {w₂} {a} {a₂} x y = ⊎_elim short long (lt_or_le (length answer) 4)
    where
      short : length answer < 4 → (told n a ≡ told n₂ a₂) × (w ≡ w₂)
      short h = let u = told_short x h in let v = told_short y h in (u.0 ∙ sym v.0, u.1 ∙ sym v.1)

      long : 4 ≤ length answer → (told n a ≡ told n₂ a₂) × (w ≡ w₂)
      long h =
          let o = cover_only c places work (x.promised h) (y.promised h) in
          (told_long x h ∙ (ap (λ (r : Result Covered Refusal). told_of (cover_reply r) answer) o.0 ∙ sym (told_long y h)), o.1)
