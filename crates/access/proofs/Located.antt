-- Where the k-mer of a handle stands: its string is found by halving, and its position from there. Assumes nothing.
use mathlib.Core.Path.{◌≡◌, sym, ap, ap₂, ◌∙◌, subst}
use mathlib.Core.List.{List, [], ◌∷◌, ◌++◌}
use Prim.Native.Nat.{ℕ, suc, ◌+◌, ◌-◌, ◌*◌, ◌<◌, ◌≤◌}
use native.Mathlib.Nat.{suc-mul}
use native.Mathlib.Numerals.{add-one}
use native.Mathlib.Omega.{arith}
use lib.ListN.{length, take, drop, get_or, length-append, get_or-append, take-append-drop}
use lib.Seq.{get_or-append-add, drop-cons, take-suc, take-length}
use Rattle.lists.specs.Count.{count_from}
use Rattle.lists.proofs.Count.{length_count, count_at}
use Rattle.collection_faults.specs.Faults.{last_end}
use Rattle.collection.specs.Kmers.{within, kmers_from, kmers, position_of}
use Rattle.collection.specs.Ready.{Long}
use Rattle.collection.proofs.Kmers.{kmers_split, up_to_count, start_count}
use Rattle.access.specs.Located.{Holds}

-- where the k-mer of a handle stands
pub position_in : {k : ℕ} {ends : List ℕ} → Long k ends → (handle i : ℕ) → Holds k ends handle i → handle - 1 + i * (k - 1) ≡ position_of k ends handle
unfolding kmers_from
position_in {k} {ends} g handle i w =
    let e : ℕ = get_or ends i 0 in
    let a : ℕ = last_end 0 (take i ends) in
    let b : ℕ = length (kmers k (take i ends)) in
    let j : ℕ = handle - 1 - b in
    let s = start_count g i (omega (arith, w.inside)) in
    let cut : ends ≡ take i ends ++ (e ∷ drop (suc i) ends) =
    sym (take-append-drop i ends) ∙ ap (λ (l : List ℕ). take i ends ++ l) (drop-cons ends i 0 w.inside) in
    let all : kmers k ends ≡ kmers k (take i ends) ++ (count_from a (within k a e) ++ kmers_from k e (drop (suc i) ends)) =
    ap (kmers k) cut ∙ kmers_split k 0 (take i ends) (e ∷ drop (suc i) ends) in
    let one : take (i + 1) ends ≡ take i ends ++ (e ∷ []) = ap (λ (n : ℕ). take n ends) (add-one i) ∙ take-suc ends i 0 w.inside in
    let count : length (kmers k (take (i + 1) ends)) ≡ b + within k a e =
    ap (λ (l : List ℕ). length (kmers k l)) one
    ∙ (ap length (kmers_split k 0 (take i ends) (e ∷ [])) ∙ (length-append (kmers k (take i ends)) (count_from a (within k a e) ++ [])
    ∙ (omega (arith, length-append (count_from a (within k a e)) [], length_count a (within k a e))))) in
    let inside : j < within k a e = omega (arith, w.before, w.up_to) in
    let at : handle - 1 ≡ b + j = omega (arith, w.before) in
    sym
    (ap₂ (λ (l : List ℕ) (n : ℕ). get_or l n 0) all at
    ∙ (get_or-append-add (kmers k (take i ends)) (count_from a (within k a e) ++ kmers_from k e (drop (suc i) ends)) j 0
    ∙ (get_or-append (count_from a (within k a e)) (kmers_from k e (drop (suc i) ends)) 0 j (omega (arith, length_count a (within k a e)))
    ∙ (count_at a (within k a e) j inside ∙ (omega (arith, w.before, w.up_to))))))

-- the k-mer of a handle ends within its string
pub position_small : {k : ℕ} {ends : List ℕ} → Long k ends → (handle i : ℕ) → Holds k ends handle i → handle + i * (k - 1) + (k - 1) ≤ get_or ends i 0
position_small {k} {ends} g handle i w =
    let u = up_to_count g i w.inside in
    let m : (i + 1) * (k - 1) ≡ i * (k - 1) + (k - 1) = ap (λ (n : ℕ). n * (k - 1)) (add-one i) ∙ suc-mul i (k - 1) in
    omega (arith, w.up_to)

-- ─── the string of a handle, by halving ──────────────────────────────────────

-- the string that has the handle's k-mer is one of low to high
pub record Halving (k : ℕ) (ends : List ℕ) (handle low high : ℕ) : Type 0 where
  pub order : low ≤ high
  pub inside : high < length ends
  pub before : length (kmers k (take low ends)) < handle
  pub up_to : handle ≤ length (kmers k (take (high + 1) ends))

-- where there is a handle there is a string
pub some-string : (k handle : ℕ) (ends : List ℕ) → 1 ≤ handle → handle ≤ length (kmers k ends) → 1 ≤ length ends
unfolding kmers_from
some-string k handle [] h l = absurd (omega arith)
some-string k handle (e ∷ ends) h l = omega arith

-- all strings are open
pub halving_begins : (k handle : ℕ) (ends : List ℕ) → 1 ≤ handle → handle ≤ length (kmers k ends) → Halving k ends handle 0 (length ends - 1)
unfolding kmers_from
halving_begins k handle ends h l =
    let m = some-string k handle ends h l in
    let q : length ends - 1 + 1 ≡ length ends = omega arith in
    record {
      order = omega arith;
      inside = omega arith;
      before = h;
      up_to = rw (q, take-length ends) l;
    }

-- one string is left
pub halving_ends : {k handle low high : ℕ} {ends : List ℕ} → Halving k ends handle low high → high ≤ low → Holds k ends handle low
halving_ends {k} {handle} {low} {high} {ends} w h =
    let q : high ≡ low = omega (arith, w.order) in
    record {
      inside =
          omega (arith, w.order, w.inside);
      before = w.before;
      up_to = subst (λ (n : ℕ). handle ≤ length (kmers k (take (n + 1) ends))) q w.up_to;
    }
