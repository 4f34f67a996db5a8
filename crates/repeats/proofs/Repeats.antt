-- What 7's place is: the test of a handle says that its word equals an earlier one, turned or not; so the least k-mer that shares its canonical code with an
-- earlier one is the first repeat, and there is none exactly if no k-mer equals another's word or reverse complement. Assumes nothing.
use mathlib.Core.Path.{◌≡◌, refl, sym, ap, ap₂, ◌∙◌}
use mathlib.Core.Bool.{Bool, true, false, ◌||◌, true≢false}
use mathlib.Core.Logic.{inl, inr, ⊎_elim}
use mathlib.Core.List.{List, [], ◌∷◌}
use Prim.Native.Nat.{ℕ, zero, suc, ◌+◌, ◌-◌, ◌<◌, ◌≤◌}
use native.Mathlib.Nat.{not-suc-le-zero}
use native.Mathlib.Omega.{arith}
use lib.ListN.{length, get_or}
use Rattle.lists.specs.Count.{count_from}
use Rattle.lists.specs.Every.{All, same}
use Rattle.lists.proofs.Compare.{lt_or_le, eq_or_ne}
use Rattle.lists.proofs.Count.{count_at, length_count}
use Rattle.lists.proofs.Every.{all_at, at_all, is_same, not_same}
use Rattle.lists.proofs.First.{first_none, none_first}
use Rattle.lists.proofs.FirstAt.{first_at}
use Rattle.words.specs.Word.{Letters, turn, word_at}
use Rattle.collection_faults.specs.Faults.{last_end}
use Rattle.collection.specs.Collection.{Spelling}
use Rattle.collection.specs.Kmers.{kmers, word_of, Distinct}
use Rattle.collection.proofs.Kmers.{kmers_fit}
use Rattle.collection.specs.Ready.{Ready}
use Rattle.collection.proofs.Ready.{word_length, word_letters}
use Rattle.repeats.specs.Check.{any_that, alike, repeated, first_repeat}
use Rattle.sorting.specs.Keys.{code_at}
use Rattle.repeats_canonical.specs.Codes.{canonical}
use Rattle.repeats_sieving.specs.Kept.{Stands, Twin}
use Rattle.repeats.specs.Order.{Ordered, Least}
use Rattle.repeats_canonical.proofs.Alike.{Alike, alike-swap, alike-canonical, canonical-alike}
use Rattle.repeats.proofs.Neighbours.{least_twin, twin_least}

-- ─── tests ───────────────────────────────────────────────────────────────────

module _ {A : Type 0} (test : A → Bool) (d : A) where
  any_at : (xs : List A) (i : ℕ) → i < length xs → test (get_or xs i d) ≡ true → any_that test xs ≡ true
  unfolding any_that
  any_at [] i l e = absurd (not-suc-le-zero l)
  any_at (x ∷ xs) zero l e = rw e
  any_at (x ∷ xs) (suc i) l e = go (test x) (any_at xs i (omega arith) e)
    where
      go : (b : Bool) → any_that test xs ≡ true → (b || any_that test xs) ≡ true
      go true h = refl
      go false h = h

  none_any : (xs : List A) → All (λ x. test x ≡ false) xs → any_that test xs ≡ false
  unfolding any_that
  none_any [] h = refl
  none_any (x ∷ xs) h = rw h.0 (none_any xs h.1)

alike_test : (u v : List ℕ) → Alike u v → alike u v ≡ true
unfolding alike
alike_test u v a = ⊎_elim (λ (e : u ≡ v). rw (is_same e)) (λ (e : u ≡ turn v). go (same u v) (is_same e)) a
  where
    go : (b : Bool) → same u (turn v) ≡ true → (b || same u (turn v)) ≡ true
    go true h = refl
    go false h = h

unlike_test : (u v : List ℕ) → (Alike u v → ⊥) → alike u v ≡ false
unfolding alike
unlike_test u v h = rw (not_same u v (λ e. h (inl e)), not_same u (turn v) (λ e. h (inr e)))

-- ─── handles ─────────────────────────────────────────────────────────────────

module _ (t : Spelling) where
  -- the word of k-mer x, from 0
  abbrev pub word : ℕ → List ℕ
  word x = word_at t.k t.letters (get_or (kmers t.k t.ends) x 0)

  -- k-mer x equals an earlier one, turned or not
  abbrev pub Again : ℕ → Type 0
  Again x = (y : ℕ) × (y < x) × Alike (word x) (word y)

  word_of_lem : (x : ℕ) → word_of t (1 + x) ≡ word x
  word_of_lem x = let q : 1 + x - 1 ≡ x = omega arith in ap word q

  earlier : ℕ → ℕ → Bool
  earlier x h = alike (word_of t (1 + x)) (word_of t h)

  again_repeated : (x : ℕ) → Again x → repeated t (1 + x) ≡ true
  unfolding repeated earlier
  again_repeated x a =
      any_at (earlier x) 0 (count_from 1 (1 + x - 1)) a.0 (omega (arith, length_count 1 (1 + x - 1), a.1))
      (ap (earlier x) (count_at 1 (1 + x - 1) a.0 (omega (arith, a.1)))
      ∙ (ap₂ alike (word_of_lem x) (word_of_lem a.0) ∙ alike_test (word x) (word a.0) a.2))

  not_again : (x : ℕ) → (Again x → ⊥) → repeated t (1 + x) ≡ false
  unfolding repeated earlier
  not_again x h =
      none_any (earlier x) 0 (count_from 1 (1 + x - 1))
      (at_all (λ j. earlier x j ≡ false) 0 (count_from 1 (1 + x - 1))
      (λ y l.
      let g : y < 1 + x - 1 = omega (arith, length_count 1 (1 + x - 1)) in
      ap (earlier x) (count_at 1 (1 + x - 1) y g)
      ∙ (ap₂ alike (word_of_lem x) (word_of_lem y) ∙ unlike_test (word x) (word y) (λ a. h (y, omega arith, a)))))

  abbrev n : ℕ
  n = length (kmers t.k t.ends)

  -- ─── the first repeat ──────────────────────────────────────────────────────

  -- the first k-mer that equals an earlier one is the first repeat
  pub first_again : (x : ℕ) → x < n → Again x → ((y : ℕ) → y < x → Again y → ⊥) → first_repeat t ≡ suc x
  unfolding first_repeat
  first_again x l a h =
      first_at (repeated t) 0 (count_from 1 n) x (omega (arith, length_count 1 n)) (ap (repeated t) (count_at 1 n x l) ∙ again_repeated x a)
      (λ y g. ap (repeated t) (count_at 1 n y (omega arith)) ∙ not_again y (h y g))

  -- where none does, there is no repeat
  pub none_again : ((x : ℕ) → x < n → Again x → ⊥) → first_repeat t ≡ 0
  unfolding first_repeat
  none_again h =
      none_first (repeated t) (count_from 1 n)
      (at_all (λ j. repeated t j ≡ false) 0 (count_from 1 n)
      (λ x l. let g : x < n = omega (arith, length_count 1 n) in ap (repeated t) (count_at 1 n x g) ∙ not_again x (h x g)))

  -- and where there is no repeat, none does
  again_none : first_repeat t ≡ 0 → (x : ℕ) → x < n → Again x → ⊥
  unfolding first_repeat
  again_none e x l a =
      true≢false
      (sym (ap (repeated t) (count_at 1 n x l) ∙ again_repeated x a)
      ∙ all_at (λ j. repeated t j ≡ false) (count_from 1 n) (first_none (repeated t) (count_from 1 n) e) x 0 (omega (arith, length_count 1 n)))

  module _ (r : Ready t) where
    fits : (x : ℕ) → x < n → get_or (kmers t.k t.ends) x 0 + t.k ≤ length t.letters
    fits x l = omega (arith, all_at (λ a. a + t.k ≤ last_end 0 t.ends) (kmers t.k t.ends) (kmers_fit t.k 0 0 t.ends r.ends_long.long) x 0 l, r.ends_last)

    spelt : (x : ℕ) → Letters (word x)
    spelt x = word_letters r (get_or (kmers t.k t.ends) x 0)

    -- equal words, turned or not, are equal canonical codes
    again_twin : (key : ℕ → ℕ) → ((x : ℕ) → x < n → key x ≡ canonical (word x)) → (x : ℕ) → x < n → Again x → Twin key x
    again_twin key h x l a =
        (a.0, a.1, h a.0 (omega (arith, a.1)) ∙ (sym (alike-canonical (word x) (word a.0) (spelt a.0) a.2) ∙ sym (h x l)))

    -- and equal canonical codes are equal words, turned or not
    twin_again : (key : ℕ → ℕ) → ((x : ℕ) → x < n → key x ≡ canonical (word x)) → (x : ℕ) → x < n → Twin key x → Again x
    twin_again key h x l twin =
        let g : twin.0 < n = omega (arith, twin.1) in (
          twin.0,
          twin.1,
          canonical-alike (word x) (word twin.0) (word_length r _ (fits x l) ∙ sym (word_length r _ (fits twin.0 g))) (spelt x) (spelt twin.0)
              (sym (h x l) ∙ (sym twin.2 ∙ h twin.0 g)),
        )

    -- The least that stands behind a neighbour of its own code, in the order of codes, is the first repeat.
    module _ (m : ℕ) (all : m ≡ n) (hi lo ids : List ℕ) (o : Ordered t.k t.letters (kmers t.k t.ends) hi lo ids) (least : ℕ)
        (s : Least (code_at hi lo) m ids (length ids) least) where
      twins : (x y : ℕ) → y < x → x < m → code_at hi lo y ≡ code_at hi lo x → Stands x ids × Stands y ids
      twins x y l h = o.twins x y l (omega arith)

      lowest : (x : ℕ) → x < n → Again x → least ≤ x
      lowest x l a = twin_least (code_at hi lo) m ids least o.order o.rise twins s x (omega arith) (again_twin (code_at hi lo) o.held x l a)

      -- none stands behind such a neighbour
      pub repeat_none : least ≡ m → first_repeat t ≡ 0
      repeat_none e = none_again (λ x l a. let z : least ≤ x = lowest x l a in omega arith)

      -- else it is a k-mer
      pub repeat_inside : (least ≡ m → ⊥) → least < m
      repeat_inside h = ⊎_elim (λ (e : least ≡ m). absurd (h e)) (λ f. omega (arith, f.3, all_at (λ x. x < n) ids o.inside (f.0 + 1) 0 f.1)) s.found

      -- and its handle is the first repeat
      pub repeat_found : (least ≡ m → ⊥) → first_repeat t ≡ least + 1
      repeat_found h =
          let l : least < n = omega (arith, repeat_inside h) in
          first_again least l (twin_again (code_at hi lo) o.held least l (least_twin (code_at hi lo) m ids least o.order o.rise twins s h))
          (λ y g a. let z : least ≤ y = lowest y (omega arith) a in omega arith)
          ∙ (omega arith)

    -- ─── no word repeats ─────────────────────────────────────────────────────

    unshifted : (x : ℕ) → word_of t (x + 1) ≡ word x
    unshifted x = let q : x + 1 - 1 ≡ x = omega arith in ap word q

    -- no repeat means that no two handles have equal words, turned or not
    pub none-distinct : first_repeat t ≡ 0 → Distinct t
    none-distinct e i j l g a =
        ⊎_elim (λ (h : i < j). absurd (again_none e j g (i, h, alike-swap (word i) (word j) (spelt j) b)))
        (λ (h : j ≤ i). ⊎_elim (λ (q : i ≡ j). q) (λ (q : i ≡ j → ⊥). absurd (again_none e i l (j, omega arith, b))) (eq_or_ne i j))
        (lt_or_le i j)
      where
        b : Alike (word i) (word j)
        b = ⊎_elim (λ p. inl (sym (unshifted i) ∙ (p ∙ unshifted j))) (λ p. inr (sym (unshifted i) ∙ (p ∙ ap turn (unshifted j)))) a

    -- and the other way round
    pub distinct_none : Distinct t → first_repeat t ≡ 0
    distinct_none d =
        none_again
        (λ x l a.
        let z : x ≡ a.0 =
        d x a.0 l (omega (arith, a.1))
        (⊎_elim (λ (p : word x ≡ word a.0). inl (unshifted x ∙ (p ∙ sym (unshifted a.0))))
        (λ (p : word x ≡ turn (word a.0)). inr (unshifted x ∙ (p ∙ sym (ap turn (unshifted a.0)))))
        a.2) in
        omega (arith, a.1))
