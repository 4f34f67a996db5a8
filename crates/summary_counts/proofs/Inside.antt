-- The runs inside strings, one string after the other as a loop meets them. Assumes nothing.
use mathlib.Core.Path.{◌≡◌, refl, sym, ap, ap₂, ◌∙◌}
use mathlib.Core.List.{List, [], ◌∷◌, map}
use Prim.Native.Nat.{ℕ, ◌+◌, ◌-◌, ◌<◌, ◌≤◌}
use native.Mathlib.Omega.{arith}
use lib.ListN.{length, take, drop, get_or, drop_of_length-le, length-drop}
use lib.Seq.{drop-drop, length-take-le}
use Rattle.lists.specs.Count.{sum}
use Rattle.lists.proofs.Storing.{drop_next}
use Rattle.collection.specs.Collection.{Collection}
use Rattle.collection.specs.Kmers.{within}
use Rattle.collection.specs.Strings.{strings_from}
use Rattle.collection.specs.Ready.{Strung}
use Rattle.collection.proofs.Strung.{WeightsLeft, weights_begin, string_here, weights_inside, weights_on}
use Rattle.runs.specs.Runs.{run_count, inner_runs}
use Rattle.runs.proofs.Joined.{count_none, count_one, count_cons, runs-some}
use Rattle.summary_counts.specs.Inner.{inner_from}

-- ─── from ends and weights alone ─────────────────────────────────────────────

inner_from_lem : (k before : ℕ) (letters ends weights : List ℕ)
    → sum (map (λ s. run_count s.weights) (strings_from k before letters ends weights)) ≡ inner_from k before ends weights
unfolding inner_from strings_from sum
inner_from_lem k before letters [] weights = refl
inner_from_lem k before letters (e ∷ ends) weights =
    ap (λ (x : ℕ). run_count (take (within k before e) weights) + x) (inner_from_lem k e (drop (e - before) letters) ends (drop (within k before e) weights))

-- it is R
pub inner_runs_lem : (c : Collection) → inner_runs c ≡ inner_from c.k 0 c.ends c.weights
unfolding inner_runs
inner_runs_lem c = inner_from_lem c.k 0 c.letters c.ends c.weights

-- there are no more runs than weights, and one where there are weights
runs_few : (ws : List ℕ) → run_count ws ≤ length ws
runs_few [] = omega (arith, count_none)
runs_few (w ∷ []) = omega (arith, count_one w)
runs_few (w ∷ (v ∷ ws)) = omega (arith, count_cons w v ws, runs_few (v ∷ ws))

-- ─── the loop ────────────────────────────────────────────────────────────────

-- r runs are inside i strings, the last of which ends at `before`; they have `passed` weights
pub record Adding (k : ℕ) (ends ws : List ℕ) (before passed r i : ℕ) : Type 0 where
  pub walk : WeightsLeft k ends ws i before passed
  pub few : r ≤ passed
  pub some : i ≤ r
  pub sums : r + inner_from k before (drop i ends) (drop passed ws) ≡ inner_from k 0 ends ws

-- at the start no string is passed
pub adding : {k : ℕ} {ends ws : List ℕ} → Strung k ends ws → Adding k ends ws 0 0 0 0
adding s = record { walk = weights_begin s; few = omega arith; some = omega arith; sums = omega arith }

module _ {k : ℕ} {ends ws : List ℕ} {before passed r i : ℕ} (g : Adding k ends ws before passed r i) where
  module _ (l : i < length ends) {e : ℕ} (is : e ≡ get_or ends i 0) where
    abbrev here : List ℕ
    here = take (passed + within k before e - passed) (drop passed ws)

    here_size : length here ≡ within k before e
    here_size =
        let n : passed + within k before e - passed ≡ within k before e = omega arith in
        length-take-le (passed + within k before e - passed) (drop passed ws) (simp length-drop (omega (arith, weights_inside g.walk l is))) ∙ n

    here_few : run_count (take (passed + within k before e - passed) (drop passed ws)) ≤ within k before e
    here_few = omega (arith, runs_few here, here_size)

    -- the runs counted, with its own, are no more than the weights
    pub runs_inside : {x : ℕ} → x ≡ run_count (take (passed + within k before e - passed) (drop passed ws)) → r + x ≤ length ws
    runs_inside q = omega (arith, q, here_few, g.few, weights_inside g.walk l is)

    inner_next : inner_from k before (drop i ends) (drop passed ws) ≡ run_count here + inner_from k e (drop (i + 1) ends) (drop (passed + within k before e) ws)
    unfolding inner_from
    inner_next =
        let n : passed + within k before e - passed ≡ within k before e = omega arith in
        ap (λ (x : List ℕ). inner_from k before x (drop passed ws)) (drop_next ends i 0 l ∙ ap (λ (x : ℕ). x ∷ drop (i + 1) ends) (sym is))
        ∙ ap₂ (λ (x : ℕ) (y : List ℕ). run_count (take x (drop passed ws)) + inner_from k e (drop (i + 1) ends) y) (sym n)
        (drop-drop (within k before e) passed ws)

    -- its runs are added too
    pub added : 1 ≤ k → {x : ℕ} → x ≡ run_count (take (passed + within k before e - passed) (drop passed ws))
        → Adding k ends ws e (passed + within k before e) (r + x) (i + 1)
    added k1 q =
        record {
          walk = weights_on g.walk l is k1;
          few = omega (arith, q, here_few, g.few);
          some = omega (arith, q, runs-some here (omega (arith, here_size, (string_here g.walk l is).long)), g.some);
          sums = omega (arith, q, inner_next, g.sums);
        }

  -- at the end it is R of all strings, at most the number of weights and at least that of strings
  pub added_all : length ends ≤ i → (r ≡ inner_from k 0 ends ws) × (r ≤ length ws) × (length ends ≤ r)
  unfolding inner_from
  added_all h = (
    omega (arith, g.sums, ap (λ (x : List ℕ). inner_from k before x (drop passed ws)) (drop_of_length-le ends h)),
    omega (arith, g.few, g.walk.left),
    omega (arith, g.some),
  )
