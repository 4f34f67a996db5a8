-- The loop that gives each end its vertex. An end that stands twice in the order would get the same vertex again, so that no place needs to be its only one.
use mathlib.Core.Path.{◌≡◌, refl, ap, sym, ◌∙◌}
use mathlib.Core.Bool.{Bool, true, false}
use mathlib.Core.List.{List}
use Prim.Native.Nat.{ℕ, zero, suc, ◌+◌, ◌<◌, ◌≤◌}
use native.Mathlib.Omega.{arith}
use native.Mathlib.Decide.{ℕ_discrete}
use lib.Dec.{eqb}
use lib.ListN.{length, get_or, set}
use lib.Seq.{get_or-set_same, get_or-set_other}
use Rattle.lists.specs.Choose.{choose}
use Rattle.cover_vertices.specs.Firsts.{first_of, keyed}
use Rattle.cover_vertices.specs.Promises.{Rising}
use Rattle.cover_vertices.proofs.Firsts.{first_le, first_same}

-- the vertex of the place before q, 0 where there is none
abbrev last_first : (ℕ → ℕ) → ℕ → ℕ
last_first ks zero = 0
last_first ks (suc p) = first_of ks p

-- q places are done; v and `before` are the vertex and the weight of the last of them
pub record Naming (keys order verts : List ℕ) (v before q : ℕ) : Type 0 where
  pub done : (p : ℕ) → p < q → get_or verts (get_or order p 0) 0 ≡ first_of (keyed keys order) p
  pub vertex : v ≡ last_first (keyed keys order) q
  pub key : (p : ℕ) → q ≡ suc p → before ≡ keyed keys order p

-- no place is done yet
pub naming_start : (keys order verts : List ℕ) → Naming keys order verts 0 0 0
naming_start keys order verts = record { done = λ p l. absurd (omega arith); vertex = refl; key = λ p e. absurd (omega arith) }

first_is : (ks : ℕ → ℕ) (q v before : ℕ) → v ≡ last_first ks q → ((p : ℕ) → q ≡ suc p → before ≡ ks p) → choose (eqb (ks q) before) v q ≡ first_of ks q
unfolding first_of
first_is ks zero v before a b = go (eqb (ks 0) before)
  where
    go : (t : Bool) → choose t v 0 ≡ 0
    go true = a
    go false = refl
first_is ks (suc q) v before a b = rw (a, b q refl)

module _ {n : ℕ} {keys order verts : List ℕ} {v before q : ℕ} (r : Rising n keys order) (g : Naming keys order verts v before q) (l : q < n)
    {u : ℕ} (named : u ≡ choose (eqb (keyed keys order q) before) v q) where
  now_first : u ≡ first_of (keyed keys order) q
  now_first = named ∙ first_is (keyed keys order) q v before g.vertex g.key

  -- the vertex is not behind the place
  pub named_low : u ≤ q
  named_low = rw now_first (first_le (keyed keys order) q)

  module _ (size : length verts ≡ n) where
    in_part : get_or order q 0 < length verts
    in_part = omega (arith, r.low q l)

    done_now : (p : ℕ) → p < q + 1 → Dec (get_or order p 0 ≡ get_or order q 0) → Dec (p ≡ q)
        → get_or (set verts (get_or order q 0) u) (get_or order p 0) 0 ≡ first_of (keyed keys order) p
    done_now p b (yes e) d =
        rw (e, get_or-set_same verts (get_or order q 0) u 0 in_part)
        (now_first ∙ first_same (keyed keys order) n r.rises q p l (omega arith) (ap (λ (x : ℕ). get_or keys x 0) (sym e)))
    done_now p b (no e) (yes i) = absurd (e (ap (λ (x : ℕ). get_or order x 0) i))
    done_now p b (no e) (no i) = rw (get_or-set_other verts (get_or order q 0) (get_or order p 0) u 0 e) (g.done p (omega arith))

    -- the end at place q gets its vertex
    pub naming_on : Naming keys order (set verts (get_or order q 0) u) u (keyed keys order q) (q + 1)
    naming_on = record {
      done = λ p b. done_now p b (ℕ_discrete (get_or order p 0) (get_or order q 0)) (ℕ_discrete p q);
      vertex = let e : q + 1 ≡ suc q = omega arith in rw e now_first;
      key = λ p e. let i : q ≡ p = omega arith in ap (keyed keys order) i;
    }
