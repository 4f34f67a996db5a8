-- Laws of ACCESS. Assumes nothing.
use mathlib.Core.Path.{◌≡◌, refl, sym, ap, ◌∙◌}
use mathlib.Core.List.{List}
use Prim.Native.Nat.{ℕ, ◌+◌, ◌-◌, ◌≤◌}
use native.Mathlib.Nat.{add-sub_cancel_left, add-zero, add_comm}
use native.Mathlib.Omega.{arith}
use lib.ListN.{length, take, drop}
use Rattle.std.specs.Prelude.{Err}
use Rattle.collection.specs.declared.refusal.Refusal.{Refusal}
use Rattle.words.specs.Word.{spell}
use Rattle.collection.specs.Collection.{Spelling}
use Rattle.access.specs.Access.{access_verdict, access_part}
use Rattle.collection.specs.Judge.{shape_verdict, kmers_in}
use Rattle.collection.specs.Kmers.{kmers, word_of}
use Rattle.collection.specs.Verdict.{settle, Verdict, good}
use Rattle.collection.specs.Ready.{Long}
use Rattle.collection.proofs.Judged.{Shape, shape_good, shape_long, handle_good}
use Rattle.collection.proofs.Kmers.{kmers-counted}
use Rattle.collection.proofs.Verdicts.{both_good, settled}

-- what a call of ACCESS that is not refused may rely on
pub record Accessed (t : Spelling) (handle : ℕ) : Type 0 where
  pub shape : Shape t
  pub low : 1 ≤ handle
  pub high : handle ≤ length (kmers t.k t.ends)

-- what passes the verdict of ACCESS
pub access_good : (t : Spelling) (handle : ℕ) → access_verdict t handle ≡ good → Accessed t handle
unfolding access_verdict
access_good t handle h =
    let a = both_good (shape_verdict t) _ h in
    let s = shape_good t a.0 in
    let b = handle_good (kmers_in t) handle a.1 in
    record { shape = s; low = b.0; high = omega (arith, kmers-counted s) }

-- and what the search for its position asks for
pub access_inside : (t : Spelling) (handle : ℕ) → access_verdict t handle ≡ good → Long t.k t.ends × ((1 ≤ handle) × (handle ≤ length (kmers t.k t.ends)))
access_inside t handle h = let a = access_good t handle h in (shape_long a.shape, (a.low, a.high))

-- each handle's ACCESS is its word
pub access_word : (t : Spelling) (handle : ℕ) → access_verdict t handle ≡ good → spell (access_part t handle) ≡ word_of t handle
unfolding access_part
access_word t handle h = ap spell (sym (settled (λ r. _) refl h))

-- ─── the part as the code lends it ───────────────────────────────────────────

-- the part as the code cuts it
pub part_from : {p q : ℕ} (k : ℕ) (letters : List ℕ) → p ≡ q → take (p + k - p) (drop p letters) ≡ take k (drop q letters)
part_from {p} k letters e = ap (λ (n : ℕ). take n (drop p letters)) (add-sub_cancel_left p k) ∙ ap (λ (j : ℕ). take k (drop j letters)) e

-- refused, it starts where the letters do
pub start_refused : (base : ℕ) {verdict : Verdict} {r : Refusal} (p : ℕ) → verdict ≡ Err r → base ≡ base + settle verdict (λ r. 0) p
unfolding settle
start_refused base p e = sym (add-zero base) ∙ sym (ap (λ (v : Verdict). base + settle v (λ r. 0) p) e)

-- else at the position of the k-mer
pub start_found : (base : ℕ) {verdict : Verdict} {p q : ℕ} → verdict ≡ good → p ≡ q → p + base ≡ base + settle verdict (λ r. 0) q
unfolding settle
start_found base {p = p} {q = q} e f = add_comm p base ∙ (ap (λ (n : ℕ). base + n) f ∙ sym (ap (λ (v : Verdict). base + settle v (λ r. 0) q) e))
