-- Counting the stretches of a string, and of all strings. By the laws of `Opened`. Assumes nothing.
use mathlib.Core.Path.{◌≡◌, sym, ap, ◌∙◌}
use mathlib.Core.List.{List}
use Prim.Native.Nat.{ℕ, ◌+◌, ◌-◌, ◌≤◌, ◌<◌}
use native.Mathlib.Omega.{arith}
use lib.ListN.{length, get_or, drop, length-append}
use Rattle.collection.specs.Kmers.{within}
use Rattle.collection.proofs.Kmers.{StringsLeft, strings_on}
use Rattle.index_stretches.specs.Stretches.{Stretch, of_string, stretches_from, stretches}
use Rattle.index_stretches.proofs.Even.{string_few}
use Rattle.index_cutting.proofs.Opened.{Open, open_start, open_on, open_cut, open_last, stretches_next, stretches_end}

-- i k-mers of a string have been looked at and `count` stretches have begun; v is the minimizer of the open one
pub record Counting (q : ℕ → ℕ) (a n count v i : ℕ) : Type 0 where
  pub from : ℕ
  pub behind : from < i
  pub small : count ≤ i
  pub key : v ≡ q (a + from)
  pub whole : (h : ℕ) → length (of_string q h a n) + 1 ≡ count + length (Open q h a n from i)

module _ (q : ℕ → ℕ) (a n : ℕ) where
  -- the first k-mer begins a stretch
  pub counting_begin : (v : ℕ) → 1 ≤ n → v ≡ q (a + 0) → Counting q a n 1 v 1
  counting_begin v l e =
      record {
        from = 0;
        behind = omega arith;
        small = omega arith;
        key = e;
        whole = λ h. omega (arith, ap length (open_start q h a n l));
      }

  module _ (count v i : ℕ) (r : Counting q a n count v i) where
    -- w is the minimizer of the next k-mer
    module _ (w : ℕ) (l : i < n) (e : w ≡ q (a + i)) where
      -- it belongs to the open stretch
      pub counting_on : w ≡ v → Counting q a n count v (i + 1)
      counting_on f =
          record {
            from = r.from;
            behind = omega (arith, r.behind);
            small = omega (arith, r.small);
            key = r.key;
            whole = λ h. r.whole h ∙ ap (λ (ss : List Stretch). count + length ss) (open_on q h a n r.from i r.behind l (sym e ∙ (f ∙ r.key)));
          }

      -- it begins another
      pub counting_cut : (w ≡ v → ⊥) → Counting q a n (count + 1) w (i + 1)
      counting_cut f =
          record {
            from = i;
            behind = omega arith;
            small = omega (arith, r.small);
            key = e;
            whole = λ h. omega (arith, r.whole h, ap length (open_cut q h a n r.from i r.behind l (λ z. f (e ∙ (z ∙ sym r.key)))));
          }

    -- no k-mer is left
    pub counting_end : i ≡ n → (h : ℕ) → count ≡ length (of_string q h a n)
    counting_end e h = omega (arith, r.whole h, ap length (open_last q h a n r.from i e))

-- ─── all strings ─────────────────────────────────────────────────────────────

-- i strings with `count` stretches have passed, the last of which ends at `before`
pub record Tallied (q : ℕ → ℕ) (k N : ℕ) (ends : List ℕ) (i before count : ℕ) : Type 0 where
  pub next : ℕ
  pub strings : StringsLeft k N ends i before (next - 1)
  pub small : count < next
  pub whole : length (stretches q k ends) ≡ count + length (stretches_from q k next before (drop i ends))

module _ (q : ℕ → ℕ) (k N : ℕ) (ends : List ℕ) (i before count : ℕ) (r : Tallied q k N ends i before count) where
  -- the next string, which has m stretches
  pub tallied_on : i < length ends → 1 ≤ k → (m : ℕ) → ((h : ℕ) → m ≡ length (of_string q h before (within k before (get_or ends i 0))))
      → Tallied q k N ends (i + 1) (get_or ends i 0) (count + m)
  tallied_on l k1 m e =
      let n = within k before (get_or ends i 0) in
      let h = r.next in
      record {
        next = h + n;
        strings = strings_on r.strings l k1 (h + n - 1) (omega (arith, r.small));
        small = omega (arith, r.small, e h, string_few q h before n);
        whole =
            omega (
              arith,
              r.whole,
              e h,
              ap length (stretches_next q k h before ends i l),
              length-append (of_string q h before n) (stretches_from q k (h + n) (get_or ends i 0) (drop (i + 1) ends)),
            );
      }

  -- no string is left
  pub tallied_end : length ends ≤ i → count ≡ length (stretches q k ends)
  tallied_end l = omega (arith, r.whole, ap length (stretches_end q k r.next before ends i l))
