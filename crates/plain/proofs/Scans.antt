-- Laws of the pass that PLAIN makes: string by string it is the pass over all k-mers, and it finds the lowest handles. Assumes nothing.
use mathlib.Core.Path.{◌≡◌, refl, sym, ap, ap₂, ◌∙◌}
use mathlib.Core.Bool.{Bool, true, false, ◌&&◌}
use mathlib.Core.List.{List, [], ◌∷◌, ◌++◌}
use Prim.Native.Nat.{ℕ, zero, suc, ◌+◌, ◌-◌, ◌<◌, ◌≤◌}
use native.Mathlib.Nat.{add-zero}
use native.Mathlib.Omega.{arith}
use borrow.Author.Tests.{ne_eqb}
use lib.Dec.{eqb}
use lib.ListN.{length}
use Rattle.plain.specs.declared.Standing.{Standing}
use Rattle.std.specs.Prelude.{Option, None}
use Rattle.lists.specs.Choose.{choose}
use Rattle.lists.specs.Count.{count_from}
use Rattle.lists.specs.First.{first_from, first_that}
use Rattle.lists.proofs.Count.{count_next, count_end, count_start, length_count}
use Rattle.lists.proofs.Refuted.{refuted}
use Rattle.plain.specs.declared.Seen.{Seen}
use Rattle.plain.specs.declared.Seen.TheVariants.{At, NotAsked}
use Rattle.collection.specs.declared.Side.TheVariants.{Asked, Turned}
use Rattle.plain.specs.Scan.{scan_from}
use Rattle.plain.specs.Plain.{found_or, found_at}

module _ (is_asked is_turned : ℕ → Bool) where
  -- ─── one k-mer further ─────────────────────────────────────────────────────

  module _ (h turned a : ℕ) (rest : List ℕ) where
    scan_asked : is_asked a ≡ true → scan_from is_asked is_turned h turned (a ∷ rest) ≡ At (suc h)
    unfolding scan_from
    scan_asked e = rw e

    scan_other : is_asked a ≡ false
        → scan_from is_asked is_turned h turned (a ∷ rest) ≡ scan_from is_asked is_turned (suc h) (choose (eqb turned 0 && is_turned a) (suc h) turned) rest
    unfolding scan_from
    scan_other e = rw e

  pub scan_none : (h turned : ℕ) → scan_from is_asked is_turned h turned [] ≡ NotAsked turned
  unfolding scan_from
  scan_none h turned = refl

  -- as a loop goes over `number` k-mers from position `at` on, where `passed` have passed before and i of these
  module _ (passed turned at number i : ℕ) (l : i < number) where
    pub string-asked : is_asked (at + i) ≡ true → scan_from is_asked is_turned (passed + i) turned (count_from (at + i) (number - i)) ≡ At (passed + i + 1)
    string-asked e =
        let q : suc (passed + i) ≡ passed + i + 1 = omega arith in
        ap (scan_from is_asked is_turned (passed + i) turned) (count_next at number i l) ∙ (scan_asked (passed + i) turned (at + i) _ e ∙ ap At q)

    -- another word: the pass goes on, and remembers the first turned one
    pub string-other : is_asked (at + i) ≡ false → (here : Bool) → here ≡ is_turned (at + i) → (turned' : ℕ)
        → turned' ≡ choose (eqb turned 0 && here) (passed + i + 1) turned
        → scan_from is_asked is_turned (passed + i) turned (count_from (at + i) (number - i))
        ≡ scan_from is_asked is_turned (passed + (i + 1)) turned' (count_from (at + (i + 1)) (number - (i + 1)))
    string-other e here b turned' t =
        let q : suc (passed + i) ≡ passed + (i + 1) = omega arith in
        let r : passed + i + 1 ≡ passed + (i + 1) = omega arith in
        ap (scan_from is_asked is_turned (passed + i) turned) (count_next at number i l)
        ∙ (scan_other (passed + i) turned (at + i) _ e
        ∙ (ap (λ (n : ℕ). scan_from is_asked is_turned n (choose (eqb turned 0 && is_turned (at + i)) n turned)
        (count_from (at + (i + 1)) (number - (i + 1)))) q
        ∙ ap (λ (n : ℕ). scan_from is_asked is_turned (passed + (i + 1)) n (count_from (at + (i + 1)) (number - (i + 1))))
        (sym (t ∙ ap₂ (λ (s : Bool) (n : ℕ). choose (eqb turned 0 && s) n turned) b r))))

  -- before the first k-mer of the string
  pub string-start : (passed turned at number : ℕ)
      → scan_from is_asked is_turned passed turned (count_from at number) ≡ scan_from is_asked is_turned (passed + 0) turned (count_from (at + 0) (number - 0))
  string-start passed turned at number = ap₂ (λ (n : ℕ) (l : List ℕ). scan_from is_asked is_turned n turned l) (sym (add-zero passed)) (count_start at number)

  -- after its last
  pub string_end : (passed turned at number i : ℕ) → number ≤ i
      → scan_from is_asked is_turned (passed + i) turned (count_from (at + i) (number - i)) ≡ NotAsked turned
  string_end passed turned at number i l = ap (scan_from is_asked is_turned (passed + i) turned) (count_end at number i l) ∙ scan_none (passed + i) turned

  -- ─── one string after the other ────────────────────────────────────────────

  -- what is found in the first k-mers is found
  pub scan_found : (h turned handle : ℕ) (xs ys : List ℕ) → scan_from is_asked is_turned h turned xs ≡ At handle
      → scan_from is_asked is_turned h turned (xs ++ ys) ≡ At handle
  scan_found h turned handle [] ys e = refuted (cc (scan_none h turned))
  scan_found h turned handle (x ∷ xs) ys e = go (is_asked x) refl (scan_found (suc h) (choose (eqb turned 0 && is_turned x) (suc h) turned) handle xs ys)
    where
      go : (t : Bool) → is_asked x ≡ t
          → (scan_from is_asked is_turned (suc h) (choose (eqb turned 0 && is_turned x) (suc h) turned) xs ≡ At handle
          → scan_from is_asked is_turned (suc h) (choose (eqb turned 0 && is_turned x) (suc h) turned) (xs ++ ys) ≡ At handle)
          → scan_from is_asked is_turned h turned ((x ∷ xs) ++ ys) ≡ At handle
      go true q ih = scan_asked h turned x (xs ++ ys) q ∙ (sym (scan_asked h turned x xs q) ∙ e)
      go false q ih = scan_other h turned x (xs ++ ys) q ∙ ih (sym (scan_other h turned x xs q) ∙ e)

  -- what is not found there is looked for in the rest
  scan_on : (h turned turned' : ℕ) (xs ys : List ℕ) → scan_from is_asked is_turned h turned xs ≡ NotAsked turned'
      → scan_from is_asked is_turned h turned (xs ++ ys) ≡ scan_from is_asked is_turned (h + length xs) turned' ys
  scan_on h turned turned' [] ys e = ap₂ (λ (n t : ℕ). scan_from is_asked is_turned n t ys) (sym (add-zero h)) (ap place (sym (scan_none h turned) ∙ e))
    where
      place : Seen → ℕ
      place (At n) = n
      place (NotAsked n) = n
  scan_on h turned turned' (x ∷ xs) ys e = go (is_asked x) refl (scan_on (suc h) (choose (eqb turned 0 && is_turned x) (suc h) turned) turned' xs ys)
    where
      count : Seen → ℕ
      count (At n) = 1
      count (NotAsked n) = 0

      go : (t : Bool) → is_asked x ≡ t
          → (scan_from is_asked is_turned (suc h) (choose (eqb turned 0 && is_turned x) (suc h) turned) xs ≡ NotAsked turned'
          → scan_from is_asked is_turned (suc h) (choose (eqb turned 0 && is_turned x) (suc h) turned) (xs ++ ys)
          ≡ scan_from is_asked is_turned (suc h + length xs) turned' ys)
          → scan_from is_asked is_turned h turned ((x ∷ xs) ++ ys) ≡ scan_from is_asked is_turned (h + suc (length xs)) turned' ys
      go true q ih = absurd (let z : ◌≡◌ {A = ℕ} 1 0 = ap count (sym (scan_asked h turned x xs q) ∙ e) in let w : ⊥ = omega arith in w)
      go false q ih =
          let n : suc h + length xs ≡ h + suc (length xs) = omega arith in
          scan_other h turned x (xs ++ ys) q ∙ (ih (sym (scan_other h turned x xs q) ∙ e) ∙ ap (λ (m : ℕ). scan_from is_asked is_turned m turned' ys) n)

  -- the same after `number` k-mers from position `at` on
  pub scan_row_on : (h turned turned' at number : ℕ) (ys : List ℕ) → scan_from is_asked is_turned h turned (count_from at number) ≡ NotAsked turned'
      → scan_from is_asked is_turned h turned (count_from at number ++ ys) ≡ scan_from is_asked is_turned (h + number) turned' ys
  scan_row_on h turned turned' at number ys e =
      scan_on h turned turned' (count_from at number) ys e ∙ ap (λ (n : ℕ). scan_from is_asked is_turned (h + n) turned' ys) (length_count at number)

  -- ─── what the pass finds ───────────────────────────────────────────────────

  -- the first asked word, else what was seen of the turned word before, else the first turned word
  or_else : ℕ → ℕ → ℕ
  or_else turned next = choose (eqb turned 0) next turned

  pub answered : Seen → Option Standing
  answered (At handle) = found_at handle Asked
  answered (NotAsked turned) = found_or Turned turned None

  scan_first : (h turned : ℕ) (xs : List ℕ)
      → answered (scan_from is_asked is_turned h turned xs)
      ≡ found_or Asked (first_from is_asked h xs) (found_or Turned (or_else turned (first_from is_turned h xs)) None)
  unfolding scan_from first_from found_or answered or_else
  scan_first h turned [] = go turned
    where
      go : (t : ℕ) → found_or Turned t None ≡ found_or Turned (choose (eqb t 0) 0 t) None
      go zero = refl
      go (suc t) = rw (ne_eqb (suc t) 0 (λ q. omega arith))
  scan_first h turned (x ∷ xs) = go (is_asked x) (is_turned x) (λ t. scan_first (suc h) t xs)
    where
      settle-turned : (b : Bool) (t : ℕ)
          → or_else (choose (eqb t 0 && b) (suc h) t) (first_from is_turned (suc h) xs) ≡ or_else t (choose b (suc h) (first_from is_turned (suc h) xs))
      settle-turned true zero = rw (ne_eqb (suc h) 0 (λ q. omega arith))
      settle-turned false zero = refl
      settle-turned b (suc t) =
          let e : eqb (suc t) 0 ≡ false = ne_eqb (suc t) 0 (λ q. omega arith) in
          let x : ℕ = first_from is_turned (suc h) xs in
          ap (λ (s : Bool). or_else (choose (s && b) (suc h) (suc t)) x) e
          ∙ (ap (λ (s : Bool). choose s x (suc t)) e ∙ sym (ap (λ (s : Bool). choose s (choose b (suc h) x) (suc t)) e))

      go : (a b : Bool)
          → ((t : ℕ) → answered (scan_from is_asked is_turned (suc h) t xs)
          ≡ found_or Asked (first_from is_asked (suc h) xs) (found_or Turned (or_else t (first_from is_turned (suc h) xs)) None))
          → answered (choose a (At (suc h)) (scan_from is_asked is_turned (suc h) (choose (eqb turned 0 && b) (suc h) turned) xs))
          ≡ found_or Asked (choose a (suc h) (first_from is_asked (suc h) xs))
          (found_or Turned (or_else turned (choose b (suc h) (first_from is_turned (suc h) xs))) None)
      go true b ih = refl
      go false b ih =
          ih (choose (eqb turned 0 && b) (suc h) turned)
          ∙ ap (λ (n : ℕ). found_or Asked (first_from is_asked (suc h) xs) (found_or Turned n None)) (settle-turned b turned)

  -- the whole pass: the lowest handle as asked, else turned
  pub scan_lowest : (xs : List ℕ)
      → answered (scan_from is_asked is_turned 0 0 xs) ≡ found_or Asked (first_that is_asked xs) (found_or Turned (first_that is_turned xs) None)
  unfolding or_else
  scan_lowest xs = scan_first 0 0 xs

-- what the pass tells, as an answer
pub answered_at : (is_asked is_turned : ℕ → Bool) (handle : ℕ) → answered is_asked is_turned (At handle) ≡ found_at handle Asked
unfolding answered
answered_at is_asked is_turned handle = refl

pub answered_none : (is_asked is_turned : ℕ → Bool) (turned : ℕ) → turned ≡ 0 → answered is_asked is_turned (NotAsked turned) ≡ None
unfolding answered found_or
answered_none is_asked is_turned turned e = ap (λ (n : ℕ). found_or Turned n None) e

pub answered_turned : (is_asked is_turned : ℕ → Bool) (turned : ℕ) → (turned ≡ 0 → ⊥) → answered is_asked is_turned (NotAsked turned) ≡ found_at turned Turned
unfolding answered found_or
answered_turned is_asked is_turned zero h = absurd (h refl)
answered_turned is_asked is_turned (suc n) h = refl
