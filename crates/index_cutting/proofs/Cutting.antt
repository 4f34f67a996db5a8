-- The loops that store the stretches of a string and of all strings. By the laws of `Opened` and `Filling`. Assumes nothing.
use mathlib.Core.Path.{◌≡◌, sym, subst, ◌∙◌}
use mathlib.Core.List.{List, [], ◌∷◌, ◌++◌}
use Prim.Native.Nat.{ℕ, ◌+◌, ◌-◌, ◌≤◌, ◌<◌}
use native.Mathlib.Omega.{arith}
use lib.ListN.{length, set, get_or, drop}
use Rattle.collection.specs.Kmers.{within}
use Rattle.collection.proofs.Kmers.{StringsLeft, strings_on}
use Rattle.index_stretches.specs.Stretches.{Stretch, stretch, of_string, stretches_from, stretches}
use Rattle.index_stretches.proofs.Even.{string_few}
use Rattle.index_cutting.specs.Cut.{Room4, Cut}
use Rattle.index_cutting.proofs.Opened.{Open, open_start, open_on, open_cut, open_last, stretches_next, stretches_end}
use Rattle.index_cutting.proofs.Filling.{Filling, filling_begin, filling_restated, filling_store, filling_room, filling_many, filling_end}

-- i of n k-mers have been looked at; the open stretch began with k-mer s (from 0) and has the minimizer v; those before it are stored
pub record Cutting (q : ℕ → ℕ) (h a n o : ℕ) (fs₀ fs ps₀ ps ns₀ ns ks₀ ks : List ℕ) (v s to i : ℕ) : Type 0 where
  pub behind : s < i
  pub near : to ≤ o + s
  pub key : v ≡ q (a + s)
  pub filling : Filling q o (of_string q h a n) fs₀ fs ps₀ ps ns₀ ns ks₀ ks (Open q h a n s i) to

module _ {q : ℕ → ℕ} {h a n o : ℕ} where
  -- the first k-mer begins a stretch
  pub cutting_begin : {fs ps ns ks : List ℕ} {v : ℕ} → 1 ≤ n → v ≡ q (a + 0) → Room4 o (length (of_string q h a n)) fs ps ns ks
      → Cutting q h a n o fs fs ps ps ns ns ks ks v 0 o 1
  cutting_begin l e r =
      record {
        behind = omega arith;
        near = omega arith;
        key = e;
        filling = filling_restated (open_start q h a n l) (filling_begin q (of_string q h a n) r);
      }

  module _ {fs₀ fs ps₀ ps ns₀ ns ks₀ ks : List ℕ} {v s to i : ℕ} (r : Cutting q h a n o fs₀ fs ps₀ ps ns₀ ns ks₀ ks v s to i) where
    -- w is the minimizer of the next k-mer
    module _ {w : ℕ} (l : i < n) (e : w ≡ q (a + i)) where
      -- it belongs to the open stretch
      pub cutting_on : w ≡ v → Cutting q h a n o fs₀ fs ps₀ ps ns₀ ns ks₀ ks v s to (i + 1)
      cutting_on f =
          record {
            behind = omega (arith, r.behind);
            near = r.near;
            key = r.key;
            filling = filling_restated (open_on q h a n s i r.behind l (sym e ∙ (f ∙ r.key))) r.filling;
          }

      -- the open stretch ends before it
      pub cutting_ended : (w ≡ v → ⊥) → Filling q o (of_string q h a n) fs₀ fs ps₀ ps ns₀ ns ks₀ ks
          (stretch (h + s) (a + s) (i - s) ∷ Open q h a n i (i + 1)) to
      cutting_ended f = filling_restated (open_cut q h a n s i r.behind l (λ z. f (e ∙ (z ∙ sym r.key)))) r.filling

      -- that one is stored, and the k-mer begins another
      pub cutting_cut : (w ≡ v → ⊥)
          → Cutting q h a n o fs₀ (set fs to (h + s)) ps₀ (set ps to (a + s)) ns₀ (set ns to (i - s)) ks₀ (set ks to v) w i (to + 1) (i + 1)
      cutting_cut f = record { behind = omega arith; near = omega (arith, r.near, r.behind); key = e; filling = filling_store (cutting_ended f) r.key }

    -- the open stretch ends with the string
    pub cutting_last : i ≡ n → Filling q o (of_string q h a n) fs₀ fs ps₀ ps ns₀ ns ks₀ ks (stretch (h + s) (a + s) (n - s) ∷ []) to
    cutting_last e = filling_restated (open_last q h a n s i e) r.filling

-- ─── all strings ─────────────────────────────────────────────────────────────

-- i strings have passed, the last of which ends at `before`, and their stretches are stored in the first o entries; h is the handle of the next k-mer
pub record Passed (q : ℕ → ℕ) (k N : ℕ) (ends fs₀ fs ps₀ ps ns₀ ns ks₀ ks : List ℕ) (before h o i : ℕ) : Type 0 where
  pub strings : StringsLeft k N ends i before (h - 1)
  pub few : o < h
  pub filling : Filling q 0 (stretches q k ends) fs₀ fs ps₀ ps ns₀ ns ks₀ ks (stretches_from q k h before (drop i ends)) o

module _ {q : ℕ → ℕ} {k N : ℕ} {ends fs₀ fs ps₀ ps ns₀ ns ks₀ ks : List ℕ} {before h o i : ℕ}
    (r : Passed q k N ends fs₀ fs ps₀ ps ns₀ ns ks₀ ks before h o i)
  where
    -- no string is left
    pub passed_end : length ends ≤ i → Cut q 0 (stretches q k ends) fs₀ fs ps₀ ps ns₀ ns ks₀ ks
    passed_end l = filling_end (filling_restated (stretches_end q k h before ends i l) r.filling)

    -- the next string
    module _ (l : i < length ends) where
      abbrev number : ℕ
      number = within k before (get_or ends i 0)

      abbrev rest : List Stretch
      rest = stretches_from q k (h + number) (get_or ends i 0) (drop (i + 1) ends)

      split : Filling q 0 (stretches q k ends) fs₀ fs ps₀ ps ns₀ ns ks₀ ks (of_string q h before number ++ rest) o
      split = filling_restated (stretches_next q k h before ends i l) r.filling

      -- the tables have room for its stretches
      pub passed_room : Room4 o (length (of_string q h before number)) fs ps ns ks
      passed_room = filling_room (of_string q h before number) rest split

      -- they are stored
      pub passed_on : 1 ≤ k → (o' : ℕ) {fs' ps' ns' ks' : List ℕ} → o' ≡ o + length (of_string q h before number)
          → Cut q o (of_string q h before number) fs fs' ps ps' ns ns' ks ks'
          → Passed q k N ends fs₀ fs' ps₀ ps' ns₀ ns' ks₀ ks' (get_or ends i 0) (h + number) o' (i + 1)
      passed_on k1 o' {fs'} {ps'} {ns'} {ks'} e c =
          record {
            strings = strings_on r.strings l k1 (h + number - 1) (omega (arith, r.few));
            few = omega (arith, r.few, string_few q h before number);
            filling =
                subst (λ (m : ℕ). Filling q 0 (stretches q k ends) fs₀ fs' ps₀ ps' ns₀ ns' ks₀ ks' rest m) (sym e)
                (filling_many (of_string q h before number) rest split c);
          }
