-- What a judged run list keeps to, and the lookup in it. Assumes nothing.
use denote.Param.Members.{Mut}
use denote.Ref.{Bor}
use mathlib.Core.Path.{◌≡◌, refl, sym, ap, ◌∙◌}
use mathlib.Core.Bool.{Bool, true, false, not, ◌&&◌}
use mathlib.Core.List.{List, [], ◌∷◌}
use Prim.Native.Nat.{ℕ, zero, suc, ◌-◌, ◌<◌, ◌≤◌}
use native.Mathlib.Nat.{not-suc-le-zero}
use native.Mathlib.Decide.{ℕ_discrete}
use native.Mathlib.Omega.{arith}
use borrow.Author.Tests.{leb-true, ltb-true, eqb-true, le-leb, lt-leb}
use Rattle.std.specs.List.Sorted.{IsPartitionedBy, IsPartitionPoint}
use Rattle.std.specs.Fn.{ComputesKey, Called}
use Rattle.std.proofs.lemmas.Bool.{leb-false}
use Rattle.std.proofs.lemmas.List.Sorted.{IsPartitionPoint-from_clause, IsPartitionedBy-leb}
use lib.Dec.{leb, ltb, eqb}
use lib.ListN.{length, get_or}
use Rattle.collection.specs.Verdict.{good}
use Rattle.collection.specs.declared.refusal.Refusal.TheVariants.{RunList}
use Rattle.lists.specs.Choose.{choose}
use Rattle.lists.specs.Every.{All}
use Rattle.lists.specs.Pairs.{Pairs}
use Rattle.lists.specs.Limits.{most_letters}
use Rattle.lists.proofs.Every.{and_left, and_right, all_map, at_all}
use Rattle.lists.proofs.Pairs.{pairs_at}
use Rattle.lists.proofs.Refuted.{never}
use Rattle.collection_faults.specs.Faults.{is_weight}
use Rattle.collection.proofs.Verdicts.{test_good}
use Rattle.weight.specs.RunList.{follows, all_follow, is_run_list, run_list_verdict, last_at, weight_at, Listed}

-- the runs after (w, f)
pub record Later (n w f : ℕ) (weights firsts : List ℕ) : Type 0 where
  pub same_length : length weights ≡ length firsts
  pub above : All (λ g. f < g) firsts
  pub rise : Pairs (λ g h. g < h) firsts
  pub within : All (λ g. g ≤ n) firsts

-- what runs keep to that follow one another
pub follow_good : (n w f : ℕ) (weights firsts : List ℕ) → all_follow n w f weights firsts ≡ true → Later n w f weights firsts
unfolding all_follow
follow_good n w f [] [] e = record { same_length = refl; above = tt; rise = tt; within = tt }
follow_good n w f [] (g ∷ firsts) e = never e
follow_good n w f (v ∷ weights) [] e = never e
follow_good n w f (v ∷ weights) (g ∷ firsts) e =
    let a = and_left (follows n w f v g) (all_follow n v g weights firsts) e in
    let b = and_right (is_weight v && not (eqb v w)) (ltb f g && leb g n) a in
    let l = ltb-true f g (and_left (ltb f g) (leb g n) b) in
    let m = leb-true g n (and_right (ltb f g) (leb g n) b) in
    let r = follow_good n v g weights firsts (and_right (follows n w f v g) (all_follow n v g weights firsts) e) in
    record {
      same_length = ap suc r.same_length;
      above = (l, all_map (λ h k. let z : f < h = omega arith in z) firsts r.above);
      rise = (r.above, r.rise);
      within = (m, r.within);
    }

-- a run list of n k-mers: as many weights as first handles, which begin at 1, rise and are at most n
pub record RunListed (n : ℕ) (weights firsts : List ℕ) : Type 0 where
  pub same_length : length weights ≡ length firsts
  pub some : 1 ≤ n → 1 ≤ length firsts
  pub from_one : 1 ≤ length firsts → get_or firsts 0 0 ≡ 1
  pub rise : Pairs (λ g h. g < h) firsts
  pub within : All (λ g. g ≤ n) firsts

-- what a run list keeps to
pub list_good : (n : ℕ) (weights firsts : List ℕ) → is_run_list n weights firsts ≡ true → RunListed n weights firsts
unfolding is_run_list
list_good n [] [] e =
    record {
      same_length =
          refl;
      some = λ l. absurd (let z = eqb-true n 0 e in let y : ⊥ = omega arith in y);
      from_one = λ l. absurd (not-suc-le-zero l);
      rise = tt;
      within = tt;
    }
list_good n [] (f ∷ firsts) e = never e
list_good n (w ∷ weights) [] e = never e
list_good n (w ∷ weights) (f ∷ firsts) e =
    let a = and_left (is_weight w && (eqb f 1 && leb f n)) (all_follow n w f weights firsts) e in
    let b = and_right (is_weight w) (eqb f 1 && leb f n) a in
    let r = follow_good n w f weights firsts (and_right (is_weight w && (eqb f 1 && leb f n)) (all_follow n w f weights firsts) e) in
    record {
      same_length = ap suc r.same_length;
      some = λ l. omega arith;
      from_one = λ l. eqb-true f 1 (and_left (eqb f 1) (leb f n) b);
      rise = (r.above, r.rise);
      within = (leb-true f n (and_right (eqb f 1) (leb f n) b), r.within);
    }

-- what passes 12
pub list_verdict_good : (n : ℕ) (weights firsts : List ℕ) → run_list_verdict n weights firsts ≡ good → (n ≤ most_letters)
    × (is_run_list n weights firsts ≡ true)
unfolding run_list_verdict
list_verdict_good n weights firsts h =
    let t = (test_good (leb n most_letters && is_run_list n weights firsts) RunList good h).0 in
    (leb-true n most_letters (and_left (leb n most_letters) (is_run_list n weights firsts) t), and_right (leb n most_letters) (is_run_list n weights firsts) t)

-- ─── the last run at or before a handle ──────────────────────────────────────

-- every run left starts after the handle
pub last_none : (handle so_far : ℕ) (weights firsts : List ℕ) → All (λ g. handle < g) firsts → last_at handle so_far weights firsts ≡ so_far
unfolding last_at
last_none handle so_far [] firsts h = refl
last_none handle so_far (w ∷ weights) [] h = refl
last_none handle so_far (w ∷ weights) (f ∷ firsts) h = rw (lt-leb f handle h.0) (last_none handle so_far weights firsts h.1)

-- run i starts at or before the handle, and no later run does
pub last_is : (handle so_far : ℕ) (weights firsts : List ℕ) (i : ℕ) → i < length weights → i < length firsts → get_or firsts i 0 ≤ handle
    → ((j : ℕ) → i < j → j < length firsts → handle < get_or firsts j 0) → last_at handle so_far weights firsts ≡ get_or weights i 0
unfolding last_at
last_is handle so_far [] firsts i l m h k = absurd (not-suc-le-zero l)
last_is handle so_far (w ∷ weights) [] i l m h k = absurd (not-suc-le-zero m)
last_is handle so_far (w ∷ weights) (f ∷ firsts) zero l m h k =
    rw (le-leb f handle h) (last_none handle w weights firsts (at_all (λ g. handle < g) 0 firsts (λ j q. k (suc j) (omega arith) (omega arith))))
last_is handle so_far (w ∷ weights) (f ∷ firsts) (suc i) l m h k =
    last_is handle (choose (leb f handle) w so_far) weights firsts i (omega arith) (omega arith) h (λ j p q. k (suc j) (omega arith) (omega arith))

-- ─── by halving ──────────────────────────────────────────────────────────────

module _ {n : ℕ} {weights firsts : List ℕ} {handle : ℕ} (s : Listed n weights firsts handle) where
  -- first handles rise, so those at or below the handle come first
  pub rising : IsPartitionedBy (λ f. leb f handle) firsts
  rising =
      let r = (list_good n weights firsts s.list).rise in
      IsPartitionedBy-leb (λ f. f) firsts handle (λ i j d l m. go i j d m (ℕ_discrete i j) (λ q. pairs_at (λ a b. a < b) firsts r i j d q m) l)
    where
      go : (i j d : ℕ) → j < length firsts → Dec (i ≡ j) → (i < j → get_or firsts i d < get_or firsts j d) → i ≤ j → get_or firsts i d ≤ get_or firsts j d
      go i j d m (yes e) up l = let z = ap (λ (x : ℕ). get_or firsts x d) e in omega arith
      go i j d m (no e) up l = let z = up (omega arith) in omega arith

  -- `partition_point` finds the first run after the handle, and the one before it has the handle's weight
  pub found_at : {F : Type 0} {g : Mut F (Bor ℕ × Unit {0}) Bool} {f : F} (after : ℕ) → after ≤ length firsts
      → ((q : ℕ → Bool) → ComputesKey g q f → IsPartitionedBy q firsts → IsPartitionPoint (λ y. q y ≡ true) (λ y. q y ≡ false) firsts after)
      → ((a : Bor ℕ × Unit {0}) (r : Bool) (f' : F) → Called g f a r f' → (r ≡ leb a.0.now handle) × (f' ≡ f))
      → (1 ≤ after) × (after - 1 < length weights) × (get_or weights (after - 1) 0 ≡ weight_at handle weights firsts)
  found_at after b clause test =
      let p = IsPartitionPoint-from_clause (λ y. leb y handle) firsts after clause rising test in
      let g = list_good n weights firsts s.list in
      let m = g.some (omega (arith, s.low, s.high)) in
      let l = some (ℕ_discrete after 0) (le-leb (get_or firsts 0 0) handle (omega (arith, g.from_one m, s.low))) (λ e. p.1 0 0 (omega arith) m) in (
        l,
        omega (arith, g.same_length),
        sym
            (last_is handle 0 weights firsts (after - 1) (omega (arith, g.same_length)) (omega arith)
            (leb-true (get_or firsts (after - 1) 0) handle (p.0 (after - 1) 0 (omega arith) (omega arith)))
            (λ j q r. leb-false (get_or firsts j 0) handle (p.1 j 0 (omega arith) r))),
      )
    where
      some : Dec (after ≡ 0) → leb (get_or firsts 0 0) handle ≡ true → (after ≡ 0 → leb (get_or firsts 0 0) handle ≡ false) → 1 ≤ after
      some (yes e) t above = never (sym (above e) ∙ t)
      some (no e) t above = omega (arith, e)
