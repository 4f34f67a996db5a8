-- A number's digits stored from the last to the first. Assumes nothing.
use mathlib.Core.Path.{◌≡◌, sym, ap, ◌∙◌}
use mathlib.Core.List.{List, [], ◌∷◌, ◌++◌, append_assoc}
use Prim.Native.Nat.{ℕ, suc, ◌+◌, ◌-◌, ◌/◌, ◌%◌, ◌<◌, ◌≤◌}
use native.Mathlib.Omega.{arith}
use lib.ListN.{length, set, length-set, drop, get_or, take, length-append}
use lib.Seq.{take-set-le, set_split, drop-set-lt, get_or-set_same, drop-cons}
use Rattle.lists.specs.Fill.{put}
use Rattle.text.specs.Numbers.{digits}
use Rattle.text.proofs.Digits.{digits_one, digits_more, count_one, count_more}

here : (j : ℕ) (d : List ℕ) (x : ℕ) → j < length d → get_or (set d j x) j 0 ∷ drop (suc j) (set d j x) ≡ x ∷ drop (suc j) d
here j d x h = rw (get_or-set_same, drop-set-lt (suc j) d j x (omega arith))

-- one entry stored, and what stands in front of it
put_back : (o : ℕ) (d ys : List ℕ) (x : ℕ) → o + length ys < length d → put o ys (set d (o + length ys) x) ≡ put o (ys ++ (x ∷ [])) d
put_back o d ys x h =
    let j : ℕ = o + length ys in
    let a : take o (set d j x) ≡ take o d = take-set-le o d j x (omega arith) in
    let b : drop j (set d j x) ≡ x ∷ drop (suc j) d = drop-cons (set d j x) j 0 (rw length-set h) ∙ here j d x h in
    let n : suc j ≡ o + length (ys ++ (x ∷ [])) = omega (arith, length-append ys (x ∷ [])) in
    (λ i. a i ++ (ys ++ b i))
    ∙ ap (λ (r : List ℕ). take o d ++ r) (sym (append_assoc ys (x ∷ []) (drop (suc j) d)) ∙ ap (λ (m : ℕ). (ys ++ (x ∷ [])) ++ drop m d) n)

-- v is what is left of the number, j where its digits end; stored, they bring the table to `target`
pub record Backing (size : ℕ) (d target : List ℕ) (at v j : ℕ) : Type 0 where
  pub size_kept : length d ≡ size
  pub place : at + length (digits v) ≡ j
  pub room : j ≤ length d
  pub ends : put at (digits v) d ≡ target

-- the last digit is stored
pub back_step : {size at v j : ℕ} {d target : List ℕ} → Backing size d target at v j → 10 ≤ v
    → Backing size (set d (j - 1) (48 + v % 10)) target at (v / 10) (j - 1)
back_step {size} {at} {v} {j} {d} {target} b h =
    let c = count_more v h in
    let p : at + length (digits (v / 10)) ≡ j - 1 = omega (arith, b.place) in
    record {
      size_kept = length-set d (j - 1) (48 + v % 10) ∙ b.size_kept;
      place = p;
      room = rw length-set (omega (arith, b.room));
      ends = ap (λ (k : ℕ). put at (digits (v / 10)) (set d k (48 + v % 10))) (sym p)
          ∙ (put_back at d (digits (v / 10)) (48 + v % 10) (omega (arith, b.room, b.place))
          ∙ (ap (λ (x : List ℕ). put at x d) (sym (digits_more v h)) ∙ b.ends));
    }

-- the first one is
pub back_end : {size at v j : ℕ} {d target : List ℕ} → Backing size d target at v j → v < 10 → set d at (48 + v) ≡ target
back_end {at = at} {v} {d = d} b h =
    let c = count_one v h in
    let l : at < length d = omega (arith, b.room, b.place) in
    let n : suc at ≡ at + 1 = omega arith in
    set_split d at (48 + v) l ∙ (ap (λ (m : ℕ). take at d ++ ((48 + v) ∷ drop m d)) n ∙ (ap (λ (x : List ℕ). put at x d) (sym (digits_one v h)) ∙ b.ends))
