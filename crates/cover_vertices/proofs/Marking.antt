-- The loop that marks the spokes: with each end at a vertex its flag turns, so that flag and number of ends stay odd together.
use mathlib.Core.Path.{◌≡◌, refl, ap, ◌∙◌}
use mathlib.Core.List.{List, [], append-nil}
use Prim.Native.Nat.{ℕ, ◌+◌, ◌-◌, ◌%◌, ◌<◌, ◌≤◌}
use native.Mathlib.Omega.{arith}
use native.Mathlib.Decide.{ℕ_discrete}
use native.Mathlib.Numerals.{add-one}
use lib.ListN.{length, get_or, set, take, length-set}
use lib.Seq.{get_or-set_same, get_or-set_other, take-suc, take_all}
use Rattle.lists.specs.Count.{agree}
use Rattle.cover_trails.specs.Counting.{occurs}
use Rattle.lists.proofs.Agree.{agree_same, agree-other}
use Rattle.cover_trails.proofs.Counting.{occurs_between}
use Rattle.cover_vertices.specs.Ladder.{ladder}
use Rattle.cover_vertices.specs.Promises.{Marked}
use Rattle.cover_vertices.proofs.Ladder.{ladder_at}

-- one end more
occurs_more : (x : ℕ) (vs : List ℕ) (i : ℕ) → i < length vs → occurs x (take (i + 1) vs) ≡ agree x (get_or vs i 0) + occurs x (take i vs)
occurs_more x vs i l =
    ap (λ (n : ℕ). occurs x (take n vs)) (add-one i)
    ∙ (ap (occurs x) (take-suc vs i 0 l)
    ∙ (occurs_between x (get_or vs i 0) (take i vs) [] ∙ ap (λ (L : List ℕ). agree x (get_or vs i 0) + occurs x L) (append-nil (take i vs))))

-- i ends have turned flags
pub record Marking (verts spokes : List ℕ) (i : ℕ) : Type 0 where
  pub odd : (x : ℕ) → x < length spokes → (get_or spokes x 0 + occurs x (take i verts)) % 2 ≡ 1
  pub flags : (x : ℕ) → x < length spokes → get_or spokes x 0 ≤ 1

-- no end has turned a flag yet
pub marking_start : (verts spokes : List ℕ) → spokes ≡ ladder 1 0 (length spokes) → Marking verts spokes 0
marking_start verts spokes e = record { odd = λ x l. unfold occurs in (omega (arith, one x l)); flags = λ x l. omega (arith, one x l) }
  where
    one : (x : ℕ) → x < length spokes → get_or spokes x 0 ≡ 1
    one x l = ap (λ (L : List ℕ). get_or L x 0) e ∙ ladder_at 1 0 (length spokes) x l ∙ omega arith

module _ {verts spokes : List ℕ} {i : ℕ} (g : Marking verts spokes i) (l : i < length verts) (v_low : get_or verts i 0 < length spokes) where
  abbrev v : ℕ
  v = get_or verts i 0

  flag_turned : (x : ℕ) → x < length spokes → Dec (x ≡ v)
      → ((get_or (set spokes v (1 - get_or spokes v 0)) x 0 + occurs x (take (i + 1) verts)) % 2 ≡ 1)
      × (get_or (set spokes v (1 - get_or spokes v 0)) x 0 ≤ 1)
  flag_turned x b (yes e) =
      rw (e, get_or-set_same spokes v (1 - get_or spokes v 0) 0 v_low) (
        omega (arith, g.odd v v_low, g.flags v v_low, occurs_more v verts i l, agree_same v v refl),
        omega arith,
      )
  flag_turned x b (no e) =
      rw (get_or-set_other spokes v x (1 - get_or spokes v 0) 0 e) (omega (arith, g.odd x b, occurs_more x verts i l, agree-other x v e), g.flags x b)

  -- the next end turns it
  pub marking_on : Marking verts (set spokes v (1 - get_or spokes v 0)) (i + 1)
  marking_on = record {
    odd = λ x b. (flag_turned x (rw length-set at b) (ℕ_discrete x v)).0;
    flags = λ x b. (flag_turned x (rw length-set at b) (ℕ_discrete x v)).1;
  }

-- all ends have turned their flags
pub marking_end : {verts spokes : List ℕ} {i : ℕ} → Marking verts spokes i → length verts ≤ i → Marked verts spokes
marking_end {verts} {spokes} {i} g h = record { odd = λ x l. rw (take_all i verts h) at (g.odd x l); flags = g.flags }
