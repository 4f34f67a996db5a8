-- Where each string of a judged collection stands in its tables, by induction over the ends. Assumes nothing.
use mathlib.Core.Path.{◌≡◌, ap, ◌∙◌}
use mathlib.Core.List.{List, [], ◌∷◌}
use Prim.Native.Nat.{ℕ, zero, suc, ◌+◌, ◌-◌, ◌*◌, ◌<◌, ◌≤◌}
use native.Mathlib.Nat.{zero-mul, suc-mul}
use native.Mathlib.Omega.{arith}
use lib.ListN.{length, take, drop, get_or}
use lib.Seq.{drop-drop}
use Rattle.collection_faults.specs.Faults.{first_short, last_end}
use Rattle.collection.specs.Collection.{Collection}
use Rattle.collection.specs.Kmers.{within}
use Rattle.collection.specs.Ready.{Long}
use Rattle.collection.specs.Strings.{Str, strings_from, strings}
use Rattle.collection.proofs.Judged.{long_cons, ends_room}
use Rattle.apply_strings.specs.Parts.{start_of, first_of}

-- ─── starts and ends ─────────────────────────────────────────────────────────

less_mul : (n k : ℕ) → n * (k - 1) ≤ n * k
less_mul zero k = omega (arith, zero-mul k, zero-mul (k - 1))
less_mul (suc n) k = omega (arith, suc-mul n k, suc-mul n (k - 1), less_mul n k)

-- a string has at least k letters, and each string k - 1 letters more than weights
record Standing (k before i : ℕ) (ends : List ℕ) : Type 0 where
  long : last_end before (take i ends) + k ≤ get_or ends i 0
  room : before + i * (k - 1) ≤ last_end before (take i ends)
  inside : get_or ends i 0 ≤ last_end before ends
  after : get_or ends i 0 + length ends * (k - 1) ≤ last_end before ends + suc i * (k - 1)

standing : (k n before i : ℕ) (ends : List ℕ) → first_short k n before ends ≡ 0 → i < length ends → Standing k before i ends
unfolding last_end
standing k n before i [] h l = absurd (omega arith)
standing k n before zero (e ∷ ends) h l =
    let a = long_cons k n before e ends h in
    let b = ends_room k (suc n) e ends a.1 in
    record {
      long =
          a.0;
      room = omega (arith, zero-mul (k - 1));
      inside = omega arith;
      after = omega (arith, suc-mul (length ends) (k - 1), suc-mul 0 (k - 1), zero-mul (k - 1), less_mul (length ends) k);
    }
standing k n before (suc i) (e ∷ ends) h l =
    let a = long_cons k n before e ends h in
    let s = standing k (suc n) e i ends a.1 (omega arith) in
    record {
      long =
          s.long;
      room = omega (arith, s.room, suc-mul i (k - 1), a.0);
      inside = s.inside;
      after = omega (arith, s.after, suc-mul (length ends) (k - 1), suc-mul (suc i) (k - 1));
    }

module _ {k : ℕ} {ends : List ℕ} (g : Long k ends) (i : ℕ) (l : i < length ends) where
  pub string_long : start_of ends i + k ≤ get_or ends i 0
  string_long = (standing k 0 0 i ends g.long l).long

  pub weights_before : i * (k - 1) ≤ start_of ends i
  weights_before = omega (arith, (standing k 0 0 i ends g.long l).room)

  -- the string lies within the letters, its weights within the weights
  pub end_inside : get_or ends i 0 ≤ last_end 0 ends
  end_inside = (standing k 0 0 i ends g.long l).inside

  -- its weights lie within the weights
  pub last_inside : first_of k ends i + within k (start_of ends i) (get_or ends i 0) ≤ last_end 0 ends - length ends * (k - 1)
  last_inside = omega (arith, (standing k 0 0 i ends g.long l).after, string_long, weights_before, suc-mul i (k - 1), g.k_low)

-- ─── what a string is cut from ───────────────────────────────────────────────

drop_on : (a b n : ℕ) (xs : List ℕ) → b + a ≡ n → drop a (drop b xs) ≡ drop n xs
drop_on a b n xs e = drop-drop a b xs ∙ ap (λ (m : ℕ). drop m xs) e

string_from : (k n before i : ℕ) (letters ends weights : List ℕ) (d : Str) → 1 ≤ k → first_short k n before ends ≡ 0 → i < length ends
    → get_or (strings_from k before letters ends weights) i d
    ≡ record {
      letters = take (get_or ends i 0 - last_end before (take i ends)) (drop (last_end before (take i ends) - before) letters);
      weights = take (within k (last_end before (take i ends)) (get_or ends i 0)) (drop (last_end before (take i ends) - i * (k - 1) - before) weights);
    }
unfolding strings_from last_end
string_from k n before i letters [] weights d low h l = absurd (omega arith)
string_from k n before zero letters (e ∷ ends) weights d low h l =
    let p : 0 ≡ before - before = omega arith in
    let q : 0 ≡ before - 0 * (k - 1) - before = omega (arith, zero-mul (k - 1)) in
    λ t. record { letters = take (e - before) (drop (p t) letters); weights = take (within k before e) (drop (q t) weights) }
string_from k n before (suc i) letters (e ∷ ends) weights d low h l =
    let a = long_cons k n before e ends h in
    let b = a.0 in
    let s = standing k (suc n) e i ends a.1 (omega arith) in
    let r = s.room in
    let z : ℕ = last_end e (take i ends) in
    let p = drop_on (z - e) (e - before) (z - before) letters (omega arith) in
    let q = drop_on (z - i * (k - 1) - e) (within k before e) (z - suc i * (k - 1) - before) weights (omega (arith, suc-mul i (k - 1))) in
    string_from k (suc n) e i (drop (e - before) letters) ends (drop (within k before e) weights) d low a.1 (omega arith)
    ∙ (λ t. record { letters = take (get_or ends i 0 - z) (p t); weights = take (within k z (get_or ends i 0)) (q t) })

-- string i by its parts of the tables
pub string_at : (c : Collection) (d : Str) → Long c.k c.ends → (i : ℕ) → i < length c.ends
    → get_or (strings c) i d
    ≡ record {
      letters =
          take (get_or c.ends i 0 - start_of c.ends i) (drop (start_of c.ends i) c.letters);
      weights = take (within c.k (start_of c.ends i) (get_or c.ends i 0)) (drop (first_of c.k c.ends i) c.weights);
    }
string_at c d g i l =
    let p : start_of c.ends i - 0 ≡ start_of c.ends i = omega arith in
    let q : first_of c.k c.ends i - 0 ≡ first_of c.k c.ends i = omega arith in
    string_from c.k 0 0 i c.letters c.ends c.weights d g.k_low g.long l
    ∙ (λ t. record {
      letters =
          take (get_or c.ends i 0 - start_of c.ends i) (drop (p t) c.letters);
      weights = take (within c.k (start_of c.ends i) (get_or c.ends i 0)) (drop (q t) c.weights);
    })
