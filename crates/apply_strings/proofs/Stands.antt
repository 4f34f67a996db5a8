-- Every word stands in the reordered collection as often as before, as asked or turned. Assumes nothing.
use mathlib.Core.Path.{◌≡◌, refl, sym, ap, ap₂, ◌∙◌}
use mathlib.Core.Bool.{Bool, true, false, ◌||◌}
use mathlib.Core.List.{List, [], ◌∷◌, ◌++◌, map, map-append}
use Prim.Native.Nat.{ℕ, zero, suc, ◌+◌, ◌-◌, ◌≤◌, ◌<◌}
use native.Mathlib.Omega.{arith}
use lib.IntN.{ℤ}
use lib.ListN.{length, take, drop, length-drop}
use lib.Seq.{drop-drop, length-take-le}
use Rattle.lists.specs.Choose.{choose}
use Rattle.lists.specs.Count.{count_from, sum}
use Rattle.lists.specs.Every.{All, same}
use Rattle.lists.proofs.Count.{count_append, sum-append}
use Rattle.lists.proofs.Cuts.{cut_inside}
use Rattle.lists.proofs.Every.{all_take, all_drop}
use Rattle.alphabet.specs.Letter.{is_letter}
use Rattle.words.specs.Word.{Letters, spell, word_at, turn}
use Rattle.words.proofs.Spelled.{spell-letters}
use Rattle.words.proofs.Turning.{turn-turn}
use Rattle.collection.specs.Collection.{Collection, spelling_of}
use Rattle.collection.specs.Judge.{Passes}
use Rattle.collection_faults.specs.Faults.{last_end, first_short}
use Rattle.collection.specs.Kmers.{within, kmers_from}
use Rattle.collection.specs.Strings.{Str, strings, strings_from, joined}
use Rattle.collection.proofs.Judged.{collection_good, long_cons, ends_room}
use Rattle.collection.proofs.Strings.{strings_count, each_letters}
use Rattle.cover_trails.specs.Places.{SignedPermutation, arranged}
use Rattle.cover_trails.proofs.Arranged.{map-arranged}
use Rattle.cover_trails.proofs.Kept.{total_arranged}
use Rattle.apply_strings.specs.Reordered.{reordered}
use Rattle.apply_strings.specs.Stands.{once, times_at}
use Rattle.apply_strings.specs.Turned.{turn_letters, turn_str}
use Rattle.apply_strings.proofs.Reordered.{reordered_passes, reordered-strings}
use Rattle.apply_strings.proofs.TurnedStrings.{turned-letters, turned_word}
use Rattle.apply_strings.proofs.Turning.{length-turned}

-- ─── sums over numbers in a row ──────────────────────────────────────────────

alone : (i : ℕ) → i ≡ i + 0
alone i = omega arith

behind : (a : ℕ) → a ≡ 0 + a
behind a = omega arith

shift : (i a : ℕ) → suc i + a ≡ i + suc a
shift i a = omega arith

sum_same : (f g : ℕ → ℕ) (i j n : ℕ) → ((a : ℕ) → a < n → f (i + a) ≡ g (j + a)) → sum (map f (count_from i n)) ≡ sum (map g (count_from j n))
unfolding count_from sum
sum_same f g i j zero h = refl
sum_same f g i j (suc n) h =
    let first : f i ≡ g j = ap f (alone i) ∙ (h 0 (omega arith) ∙ ap g (sym (alone j))) in
    let rest = sum_same f g (suc i) (suc j) n (λ a l. ap f (shift i a) ∙ (h (suc a) (omega arith) ∙ ap g (sym (shift j a)))) in
    omega (arith, first, rest)

-- from behind
sum_back : (f g : ℕ → ℕ) (i j n : ℕ) → ((a b : ℕ) → a + b + 1 ≡ n → f (i + b) ≡ g (j + a)) → sum (map f (count_from i n)) ≡ sum (map g (count_from j n))
unfolding count_from sum
sum_back f g i j zero h = refl
sum_back f g i j (suc n) h =
    let first : f i ≡ g (j + n) = ap f (alone i) ∙ h n 0 (omega arith) in
    let rest = sum_back f g (suc i) j n (λ a b e. ap f (shift i b) ∙ h a (suc b) (omega arith)) in
    let split : count_from j (n + 1) ≡ count_from j n ++ ((j + n) ∷ []) = count_append j n 1 in
    let apart = ap (λ (l : List ℕ). sum (map g l)) split
    ∙ (ap sum (map-append g (count_from j n) ((j + n) ∷ [])) ∙ sum-append (map g (count_from j n)) (g (j + n) ∷ [])) in
    let next : suc n ≡ n + 1 = omega arith in
    let whole : sum (map g (count_from j (suc n))) ≡ sum (map g (count_from j (n + 1))) = ap (λ (m : ℕ). sum (map g (count_from j m))) next in
    omega (arith, first, rest, apart, whole)

-- ─── a word in one string ────────────────────────────────────────────────────

or_swap : (s t : Bool) → (s || t) ≡ (t || s)
or_swap true true = refl
or_swap true false = refl
or_swap false true = refl
or_swap false false = refl

module _ (word : List ℕ) where
  -- read either way, a k-mer and the k-mer turned count alike
  once-turned : (kmer : List ℕ) → Letters kmer → once word (turn kmer) ≡ once word kmer
  unfolding once
  once-turned kmer h =
      ap (λ (v : List ℕ). choose (same (turn kmer) word || same v word) 1 0) (turn-turn kmer h)
      ∙ ap (λ (t : Bool). choose t 1 0) (or_swap (same (turn kmer) word) (same kmer word))

  -- how often the word stands in a string
  times_in : ℕ → List ℕ → ℕ
  times_in k letters = sum (map (λ a. once word (word_at k letters a)) (count_from 0 (length letters + 1 - k)))

  times_turned : (k : ℕ) (letters : List ℕ) → All (λ b. is_letter b ≡ true) letters → times_in k (turn_letters letters) ≡ times_in k letters
  unfolding times_in
  times_turned k letters h =
      ap (λ (n : ℕ). sum (map (λ a. once word (word_at k (turn_letters letters) a)) (count_from 0 (n + 1 - k)))) (length-turned letters)
      ∙ sum_back (λ a. once word (word_at k (turn_letters letters) a)) (λ a. once word (word_at k letters a)) 0 0 (length letters + 1 - k) each
    where
      each : (a b : ℕ) → a + b + 1 ≡ length letters + 1 - k → once word (word_at k (turn_letters letters) (0 + b)) ≡ once word (word_at k letters (0 + a))
      each a b e =
          ap (once word) (ap (word_at k (turn_letters letters)) (sym (behind b)) ∙ turned_word letters h a k b (omega arith))
          ∙ (once-turned (word_at k letters a) codes ∙ ap (λ (c : ℕ). once word (word_at k letters c)) (behind a))
        where
          codes : Letters (word_at k letters a)
          codes = spell-letters (take k (drop a letters))
              (all_take (λ b. is_letter b ≡ true) k (drop a letters) (all_drop (λ b. is_letter b ≡ true) a letters h))

  -- how often it stands in strings
  times_all : ℕ → List Str → ℕ
  times_all k [] = 0
  times_all k (s ∷ ss) = times_in k s.letters + times_all k ss

  -- k-mers by handle and k-mers by string are the same
  times_strings : (k i before : ℕ) (letters ends weights : List ℕ) → first_short k i before ends ≡ 0 → last_end before ends ≤ length letters
      → sum (map (λ a. once word (word_at k letters a)) (kmers_from k before ends)) ≡ times_all k (strings_from k before (drop before letters) ends weights)
  unfolding kmers_from strings_from sum times_all times_in last_end
  times_strings k i before letters [] weights h l = refl
  times_strings k i before letters (e ∷ ends) weights h l =
      let c = long_cons k i before e ends h in
      let long : before + k ≤ e = c.0 in
      let fits : e ≤ length letters = omega (arith, ends_room k (suc i) e ends c.1, l) in
      let part : List ℕ = take (e - before) (drop before letters) in
      let f : ℕ → ℕ = λ a. once word (word_at k letters a) in
      let number : length part ≡ e - before = length-take-le (e - before) (drop before letters) (omega (arith, length-drop before letters)) in
      let kmers-here : within k before e ≡ length part + 1 - k = omega (arith, number) in
      let here : sum (map f (count_from before (within k before e))) ≡ times_in k part =
      sum_same f (λ a. once word (word_at k part a)) before 0 (within k before e)
      (λ a m. ap (once word) (same_word a (omega arith) ∙ ap (word_at k part) (behind a)))
      ∙ ap (λ (n : ℕ). sum (map (λ a. once word (word_at k part a)) (count_from 0 n))) kmers-here
      in
      let end : before + (e - before) ≡ e = omega arith in
      let later : drop (e - before) (drop before letters) ≡ drop e letters = drop-drop (e - before) before letters ∙ ap (λ (n : ℕ). drop n letters) end in
      let rest = times_strings k (suc i) e letters ends (drop (within k before e) weights) c.1 l in
      ap sum (map-append f (count_from before (within k before e)) (kmers_from k e ends))
      ∙ (sum-append (map f (count_from before (within k before e))) (map f (kmers_from k e ends))
      ∙ ap₂ (λ (x y : ℕ). x + y) here (rest ∙ ap (λ (r : List ℕ). times_all k (strings_from k e r ends (drop (within k before e) weights))) (sym later)))
    where
      same_word : (a : ℕ) → a + k ≤ e - before → word_at k letters (before + a) ≡ word_at k (take (e - before) (drop before letters)) a
      same_word a m =
          ap (λ (r : List ℕ). spell (take k r)) (sym (drop-drop a before letters)) ∙ ap spell (sym (cut_inside k a (e - before) (drop before letters) m))

  -- ─── the order does not matter ─────────────────────────────────────────────

  -- a string that has letters only
  abbrev Spelled : Type 0
  Spelled = (s : Str) × All (λ b. is_letter b ≡ true) s.letters

  abbrev turn_spelled : Spelled → Spelled
  turn_spelled z = (turn_str z.0, turned-letters z.0.letters z.1)

  abbrev bare : Spelled → Str
  bare z = z.0

  spelled : (ss : List Str) → All (λ s. All (λ b. is_letter b ≡ true) s.letters) ss → List Spelled
  spelled [] h = []
  spelled (s ∷ ss) h = (s, h.0) ∷ spelled ss h.1

  bare_spelled : (ss : List Str) (h : All (λ s. All (λ b. is_letter b ≡ true) s.letters) ss) → map bare (spelled ss h) ≡ ss
  unfolding spelled
  bare_spelled [] h = refl
  bare_spelled (s ∷ ss) h = ap (λ (r : List Str). s ∷ r) (bare_spelled ss h.1)

  length-spelled : (ss : List Str) (h : All (λ s. All (λ b. is_letter b ≡ true) s.letters) ss) → length (spelled ss h) ≡ length ss
  unfolding spelled
  length-spelled [] h = refl
  length-spelled (s ∷ ss) h = ap suc (length-spelled ss h.1)

  times_arranged : (k m : ℕ) (places : List ℤ) (ss : List Str) → All (λ s. All (λ b. is_letter b ≡ true) s.letters) ss → SignedPermutation m places
      → length ss ≡ m
      → times_all k (arranged turn_str places ss) ≡ times_all k ss
  unfolding times_all
  times_arranged k m places ss h perm n =
      let zs : List Spelled = spelled ss h in
      let bared : map bare (arranged turn_spelled places zs) ≡ arranged turn_str places ss =
      map-arranged turn_spelled turn_str bare (λ z. refl) places zs ∙ ap (arranged turn_str places) (bare_spelled ss h)
      in
      ap (times_all k) (sym bared)
      ∙ (total_arranged turn_spelled (λ z. times_in k z.0.letters) (λ qs. times_all k (map bare qs)) refl (λ z qs. refl)
      (λ z. times_turned k z.0.letters z.1) m places zs perm (length-spelled ss h ∙ n)
      ∙ ap (times_all k) (bare_spelled ss h))

  by_strings : (c : Collection) → Passes c → times_at (spelling_of c) word ≡ times_all c.k (strings c)
  unfolding times_at
  by_strings c passes =
      let j = collection_good c passes in
      times_strings c.k 0 0 c.letters c.ends c.weights j.shape.long (omega (arith, j.shape.last))

  -- every word stands in the reordered collection as often as before
  pub times_kept : (c : Collection) (places : List ℤ) → Passes c → SignedPermutation (length c.ends) places
      → times_at (spelling_of (joined c.k (reordered c places))) word ≡ times_at (spelling_of c) word
  times_kept c places passes perm =
      let new = reordered_passes c places passes perm in
      by_strings _ new
      ∙ (ap (times_all c.k) (reordered-strings c places passes perm)
      ∙ (times_arranged c.k (length c.ends) places (strings c)
      (each_letters (λ b. is_letter b ≡ true) c.k 0 c.letters c.ends c.weights (collection_good c passes).all_letters) perm (strings_count c)
      ∙ sym (by_strings c passes)))
