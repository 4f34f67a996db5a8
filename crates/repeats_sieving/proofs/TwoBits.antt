-- A counter of two bits grows, and the other bits of the number stay: below it a multiple of 4 is added, and above it nothing is carried. By arithmetic of
-- powers. Assumes nothing.
use mathlib.Core.Path.{◌≡◌, sym, ap, ◌∙◌}
use Prim.Native.Nat.{ℕ, ◌+◌, ◌-◌, ◌*◌, ◌/◌, ◌%◌, ◌^◌, ◌<◌, ◌≤◌}
use native.Mathlib.Nat.{add-div_right, add-mul-div_right, add-mul-mod_self_right}
use native.Mathlib.Omega.{arith}
use lib.Pow.{pow_pos, pow-add, shr-shr}
use Rattle.repeats_sieving.specs.Slots.{two_bits}

next_mod : (q : ℕ) → q % 4 < 3 → (q + 1) % 4 ≡ q % 4 + 1
next_mod q h = omega arith

next_div : (q : ℕ) → q % 4 < 3 → (q + 1) / 4 ≡ q / 4
next_div q h = omega arith

module _ (v e : ℕ) (h : two_bits v e < 3) where
  one_more : (v + 2 ^ e) / 2 ^ e ≡ v / 2 ^ e + 1
  one_more = add-div_right v (pow_pos e)

  -- the counter itself
  pub grow_here : two_bits (v + 2 ^ e) e ≡ two_bits v e + 1
  grow_here = ap (λ (q : ℕ). q % 4) one_more ∙ next_mod (v / 2 ^ e) h

  -- what stands above it
  pub grow_above : (g : ℕ) → e + 2 ≤ g → (v + 2 ^ e) / 2 ^ g ≡ v / 2 ^ g
  grow_above g l =
      let q : g ≡ e + 2 + (g - (e + 2)) = omega arith in
      let k : ℕ = g - (e + 2) in
      let cut : (n : ℕ) → n / 2 ^ (e + 2 + k) ≡ n / 2 ^ e / 4 / 2 ^ k = λ n. sym (ap (λ (t : ℕ). t / 2 ^ k) (shr-shr n e 2) ∙ shr-shr n (e + 2) k) in
      rw q
      (cut (v + 2 ^ e)
      ∙ (ap (λ (t : ℕ). t / 2 ^ k) (ap (λ (t : ℕ). t / 4) one_more ∙ next_div (v / 2 ^ e) h)
      ∙ sym (cut v)))

  -- a number of 32 bits stays one
  pub grow_fits : v < 2 ^ 32 → e + 2 ≤ 32 → v + 2 ^ e < 2 ^ 32
  grow_fits l b = omega (arith, grow_above 32 b)

-- what stands below it
pub grow_below : (v e g : ℕ) → g + 2 ≤ e → two_bits (v + 2 ^ e) g ≡ two_bits v g
grow_below v e g l =
    let k : ℕ = e - (g + 2) in
    let q : e ≡ k + 2 + g = omega arith in
    let p : 2 ^ e ≡ 2 ^ k * 4 * 2 ^ g = ap (λ (t : ℕ). 2 ^ t) q ∙ (pow-add 2 (k + 2) g ∙ ap (λ (t : ℕ). t * 2 ^ g) (pow-add 2 k 2)) in
    ap (λ (t : ℕ). (v + t) / 2 ^ g % 4) p
    ∙ (ap (λ (t : ℕ). t % 4) (add-mul-div_right v (2 ^ k * 4) (pow_pos g)) ∙ add-mul-mod_self_right (v / 2 ^ g) (2 ^ k) 4)
