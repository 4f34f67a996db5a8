-- PLAIN finds exactly the words that stand in the collection, as asked or turned, with their lowest handles. Assumes nothing.
use mathlib.Core.Path.{◌≡◌, refl, sym, ap, ◌∙◌}
use mathlib.Core.Bool.{true≢false}
use mathlib.Core.List.{List}
use mathlib.Core.Logic.{inl}
use Prim.Native.Nat.{ℕ, zero, suc, ◌+◌, ◌-◌, ◌≤◌}
use native.Mathlib.Omega.{arith}
use lib.ListN.{length}
use Rattle.plain.specs.declared.Standing.{Standing}
use Rattle.std.specs.Prelude.{Option, None}
use Rattle.lists.specs.Every.{same}
use Rattle.lists.proofs.Every.{same_is, is_same, all_at}
use Rattle.lists.proofs.First.{first_found_from, first_none}
use Rattle.words.specs.Word.{word_at, turn}
use Rattle.collection.specs.Collection.{Spelling}
use Rattle.collection.specs.declared.Side.TheVariants.{Asked, Turned}
use Rattle.collection.specs.Kmers.{kmers, word_of, Distinct}
use Rattle.plain.specs.Plain.{lowest, found_or, plain_found, found_at}
use Rattle.plain.specs.Says.{Stands, Nowhere, Lowest, Says, as_asked, as_turned, absent}

module _ (t : Spelling) where
  lowest_found : (w : List ℕ) (h : ℕ) → lowest t w ≡ suc h → Lowest t w (suc h)
  unfolding lowest
  lowest_found w h e =
      let f = first_found_from (λ a. same (word_at t.k t.letters a) w) 0 (kmers t.k t.ends) h e in
      record {
        here = record { low = omega arith; high = omega (arith, f.high); word = same_is (word_of t (suc h)) w (f.meets 0) };
        none_below = λ other l s. true≢false (sym (is_same s.word) ∙ f.none_before 0 (other - 1) (omega (arith, s.low)));
      }

  lowest-none : (w : List ℕ) → lowest t w ≡ 0 → Nowhere t w
  unfolding lowest
  lowest-none w e handle s =
      true≢false
      (sym (is_same s.word)
      ∙ all_at (λ a. same (word_at t.k t.letters a) w ≡ mathlib.Core.Bool.false) (kmers t.k t.ends)
      (first_none (λ a. same (word_at t.k t.letters a) w) (kmers t.k t.ends) e) (handle - 1) 0 (omega (arith, s.low, s.high)))

  -- PLAIN's answer says what is so
  pub plain_says : (w : List ℕ) → Says t w (plain_found t w)
  unfolding plain_found found_or
  plain_says w = go (lowest t w) refl (lowest t (turn w)) refl
    where
      go : (a : ℕ) → lowest t w ≡ a → (b : ℕ) → lowest t (turn w) ≡ b → Says t w (found_or Asked a (found_or Turned b None))
      go zero e zero f = absent (lowest-none w e) (lowest-none (turn w) f)
      go zero e (suc b) f = as_turned (suc b) (lowest-none w e) (lowest_found (turn w) b f)
      go (suc a) e b f = as_asked (suc a) (lowest_found w a e)

  -- with no repeated words, asking for the word of a handle gives that handle
  pub plain_own : Distinct t → (handle : ℕ) → 1 ≤ handle → handle ≤ length (kmers t.k t.ends) → plain_found t (word_of t handle) ≡ found_at handle Asked
  plain_own d handle l h = go (plain_says (word_of t handle))
    where
      own : Stands t (word_of t handle) handle
      own = record { low = l; high = h; word = refl }

      go : {answer : Option Standing} → Says t (word_of t handle) answer → answer ≡ found_at handle Asked
      go (as_asked other s) =
          let w = s.here in
          let p : suc (other - 1) ≡ other = omega (arith, w.low) in
          let q : suc (handle - 1) ≡ handle = omega arith in
          let a : other - 1 + 1 ≡ other = omega (arith, w.low) in
          let b : handle - 1 + 1 ≡ handle = omega arith in
          let e : other - 1 ≡ handle - 1 =
          d (other - 1) (handle - 1) (omega (arith, w.low, w.high)) (omega arith) (inl (ap (word_of t) a ∙ (w.word ∙ ap (word_of t) (sym b)))) in
          ap (λ (n : ℕ). found_at n Asked) (sym a ∙ (ap (λ (n : ℕ). n + 1) e ∙ b))
      go (as_turned other none s) = absurd (none handle own)
      go (absent none none') = absurd (none handle own)
