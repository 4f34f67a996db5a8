-- The halves of codes in two tables: none yet, one more, and those of two rows one after the other. By what `map` makes of rows. Assumes nothing.
use mathlib.Core.Path.{◌≡◌, refl, sym, ap, ap₂, ◌∙◌}
use mathlib.Core.List.{List, [], ◌∷◌, ◌++◌, map-append}
use Prim.Native.Nat.{ℕ, ◌+◌, ◌/◌, ◌%◌, ◌^◌, ◌<◌}
use lib.ListN.{length, take, set}
use Rattle.std.proofs.lemmas.List.{take_more_set}
use Rattle.lists.specs.Count.{count_from}
use Rattle.lists.proofs.Count.{count_append}
use Rattle.words.specs.Word.{word_at}
use Rattle.repeats_canonical.specs.Codes.{canonical, codes, Halved}

-- two rows one after the other
pub halved_append : (xs ys : List ℕ) {hi lo high low : List ℕ} → Halved xs hi lo → Halved ys high low → Halved (xs ++ ys) (hi ++ high) (lo ++ low)
halved_append xs ys s t =
    record {
      upper = ap₂ (◌++◌) s.upper t.upper ∙ sym (map-append (λ (c : ℕ). c / 2 ^ 32) xs ys);
      lower = ap₂ (◌++◌) s.lower t.lower ∙ sym (map-append (λ (c : ℕ). c % 2 ^ 32) xs ys);
    }

module _ (k : ℕ) (letters : List ℕ) where
  -- no k-mer of a string yet
  pub halved_begin : (at : ℕ) (hi lo : List ℕ) → Halved (codes k letters (count_from at 0)) (take 0 hi) (take 0 lo)
  unfolding count_from
  halved_begin at hi lo = record { upper = refl; lower = refl }

  -- one k-mer more of a string, as a loop's index counts
  pub halved_next : (at i c h l : ℕ) (hi lo : List ℕ) → i < length hi → i < length lo → c ≡ canonical (word_at k letters (at + i)) → h ≡ c / 2 ^ 32
      → l ≡ c % 2 ^ 32
      → Halved (codes k letters (count_from at i)) (take i hi) (take i lo)
      → Halved (codes k letters (count_from at (i + 1))) (take (i + 1) (set hi i h)) (take (i + 1) (set lo i l))
  unfolding count_from
  halved_next at i c h l hi lo f g e x y s =
      let one : Halved (codes k letters ((at + i) ∷ [])) (h ∷ []) (l ∷ []) =
      record {
        upper = ap (λ (z : ℕ). z ∷ []) (x ∙ ap (λ (z : ℕ). z / 2 ^ 32) e);
        lower = ap (λ (z : ℕ). z ∷ []) (y ∙ ap (λ (z : ℕ). z % 2 ^ 32) e);
      } in
      rw (take_more_set hi i h f, take_more_set lo i l g, count_append at i 1, map-append)
      (halved_append (codes k letters (count_from at i)) (codes k letters ((at + i) ∷ [])) s one)
