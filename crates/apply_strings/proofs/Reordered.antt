-- What a collection keeps in its new order: it passes the same checks, its strings are the old ones, each once, perhaps turned, and every word has the weights
-- it had. Assumes nothing.
use mathlib.Core.Path.{◌≡◌, refl, sym, ap, ap₂, ◌∙◌, subst}
use mathlib.Core.Bool.{true}
use mathlib.Core.List.{List, map}
use Prim.Native.Nat.{ℕ, suc, ◌-◌, ◌<◌, ◌≤◌}
use native.Mathlib.Omega.{arith}
use lib.IntN.{ℤ, pos, negsuc, nat_abs}
use lib.ListN.{length, get_or, length-map, length-append, length-reverse}
use Rattle.lists.specs.Every.{All}
use Rattle.lists.proofs.Every.{all_at}
use Rattle.lists.proofs.Mapped.{map_at}
use Rattle.alphabet.specs.Letter.{is_letter}
use Rattle.collection.specs.Collection.{Collection, spelling_of}
use Rattle.collection.specs.Judge.{Passes, collection_verdict, shape_verdict, k_verdict, size_verdict}
use Rattle.collection_faults.specs.Faults.{is_weight}
use Rattle.collection.specs.Strings.{Str, strings, letters_in, ends_in, weights_in, joined}
use Rattle.collection.proofs.Judged.{Judged, collection_good}
use Rattle.collection.proofs.Strings.{strings_count, Whole, strings-joined, strings_whole, strings-back, each_letters, each_weights, ends-length, tables_pass}
use Rattle.collection.proofs.Verdicts.{both_good}
use Rattle.cover_trails.specs.Places.{SignedPermutation, turned_by}
use Rattle.cover_trails.proofs.Arranged.{arranged_at, length-arranged}
use Rattle.cover_trails.proofs.Counting.{occurs_where}
use Rattle.cover_trails.proofs.Kept.{all-arranged, total_arranged}
use Rattle.apply_strings.specs.Reordered.{reordered}
use Rattle.apply_strings.specs.Turned.{turn_str}
use Rattle.apply_strings.specs.Weighs.{Has, none, Weighs}
use Rattle.apply_strings.proofs.TurnedStrings.{turned-letters, turned_whole, turned-weights, turn-turn_str, has_turned}
use Rattle.apply_strings.proofs.Turning.{length-turned}

-- strings that fill tables of these sizes
pub record Sizes (letters ends weights : List ℕ) (ss : List Str) : Type 0 where
  pub number : length ss ≡ length ends
  pub letters_number : length (letters_in ss) ≡ length letters
  pub ends_number : length (ends_in 0 ss) ≡ length ends
  pub weights_number : length (weights_in ss) ≡ length weights

module _ (c : Collection) (places : List ℤ) (passes : Passes c) (permutation : SignedPermutation (length c.ends) places) where
  judged : Judged c
  judged = collection_good c passes

  -- ─── how many there are ────────────────────────────────────────────────────

  many : length (strings c) ≡ length c.ends
  many = strings_count c

  -- as many letters, ends and weights as before
  pub reordered_sizes : Sizes c.letters c.ends c.weights (reordered c places)
  unfolding letters_in weights_in
  reordered_sizes =
      let ss = strings c in
      let n = length-arranged turn_str none (length c.ends) places ss permutation many in
      record {
        number = n;
        ends_number = ends-length 0 (reordered c places) ∙ n;
        letters_number =
            total_arranged turn_str (λ s. length s.letters) (λ ss. length (letters_in ss)) refl (λ s ss. length-append s.letters (letters_in ss))
            (λ s. length-turned s.letters) (length c.ends) places ss permutation many
            ∙ ap (λ (x : Collection). length x.letters) (strings-joined c judged.shape judged.counted);
        weights_number =
            total_arranged turn_str (λ s. length s.weights) (λ ss. length (weights_in ss)) refl (λ s ss. length-append s.weights (weights_in ss))
            (λ s. length-reverse s.weights) (length c.ends) places ss permutation many
            ∙ ap (λ (x : Collection). length x.weights) (strings-joined c judged.shape judged.counted);
      }

  -- ─── they pass ─────────────────────────────────────────────────────────────

  old_whole : All (Whole c.k) (strings c)
  old_whole = strings_whole c judged.shape judged.counted

  old_letters : All (λ s. All (λ b. is_letter b ≡ true) s.letters) (strings c)
  old_letters = each_letters (λ b. is_letter b ≡ true) c.k 0 c.letters c.ends c.weights judged.all_letters

  -- each string has its letters and its weights
  pub reordered_whole : All (Whole c.k) (reordered c places)
  reordered_whole = all-arranged turn_str (Whole c.k) (turned_whole c.k) places (strings c) old_whole

  -- the new tables pass 2 to 6
  pub reordered_passes : Passes (joined c.k (reordered c places))
  unfolding collection_verdict shape_verdict
  reordered_passes =
      let n = reordered_sizes in
      let shape = both_good (shape_verdict (spelling_of c)) _ passes in
      let good-k = both_good (k_verdict c.k) _ shape.0 in
      let good_size = both_good (size_verdict (length c.letters) (length c.ends)) _ good-k.1 in
      tables_pass c.k (reordered c places) good-k.0 (ap₂ size_verdict n.letters_number n.number ∙ good_size.0) reordered_whole
      (all-arranged turn_str (λ s. All (λ b. is_letter b ≡ true) s.letters) (λ s h. turned-letters s.letters h) places (strings c) old_letters)
      (all-arranged turn_str (λ s. All (λ w. is_weight w ≡ true) s.weights) (λ s h. turned-weights (λ w. is_weight w ≡ true) s h) places (strings c)
      (each_weights (λ w. is_weight w ≡ true) c.k 0 c.letters c.ends c.weights judged.all_weights))

  -- ─── they are the old strings, each once ───────────────────────────────────

  -- the strings of the new tables
  pub reordered-strings : strings (joined c.k (reordered c places))
      ≡ reordered c places
  reordered-strings = strings-back c.k (reordered c places) reordered_whole

  -- each old string stands at its place, turned where the place says so
  pub string_stands : (i : ℕ) → i < length c.ends
      → get_or (reordered c places) (nat_abs (get_or places i (pos 0)) - 1) none ≡ turned_by turn_str (get_or places i (pos 0)) (get_or (strings c) i none)
  string_stands i l = arranged_at turn_str none (length c.ends) places (strings c) permutation many i l

  -- each new string is one of the old, and of one only, as no two have one place (`one_string`)
  pub string_from : (j : ℕ) → j < length c.ends → (i : ℕ) × (i < length c.ends) × (nat_abs (get_or places i (pos 0)) ≡ suc j)
  string_from j l =
      let u = occurs_where (suc j) (map nat_abs places) (omega (arith, permutation.once (suc j) (omega arith) (omega arith))) in
      (u.0, omega (arith, u.1, length-map places nat_abs, permutation.number), sym (map_at nat_abs (pos 0) places u.0) ∙ u.2)

  -- ─── every word has the weights it had ─────────────────────────────────────

  module _ (word : List ℕ) (weight : ℕ) where
    module _ (i : ℕ) (l : i < length c.ends) where
      whole_at : Whole c.k (get_or (strings c) i none)
      whole_at = all_at (Whole c.k) (strings c) old_whole i none (omega (arith, many))

      letters_at : All (λ b. is_letter b ≡ true) (get_or (strings c) i none).letters
      letters_at = all_at (λ s. All (λ b. is_letter b ≡ true) s.letters) (strings c) old_letters i none (omega (arith, many))

      has_there : (p : ℤ) → Has c.k word weight (get_or (strings c) i none) → Has c.k word weight (turned_by turn_str p (get_or (strings c) i none))
      has_there (pos n) h = h
      has_there (negsuc n) h = has_turned c.k (get_or (strings c) i none) letters_at whole_at (omega (arith, judged.shape.k_low)) word weight h

      has_here : (p : ℤ) → Has c.k word weight (turned_by turn_str p (get_or (strings c) i none)) → Has c.k word weight (get_or (strings c) i none)
      has_here (pos n) h = h
      has_here (negsuc n) h =
          let s = get_or (strings c) i none in
          subst (Has c.k word weight) (turn-turn_str c.k s letters_at)
          (has_turned c.k (turn_str s) (turned-letters s.letters letters_at) (turned_whole c.k s whole_at)
          (omega (arith, judged.shape.k_low)) word weight h)

    -- a word keeps its weight
    pub weighs_after : Weighs c.k (strings c) word weight → Weighs c.k (reordered c places) word weight
    weighs_after u =
        let i : ℕ = u.0 in
        let l : i < length c.ends = omega (arith, u.1, many) in
        let r = all_at (λ p. (1 ≤ nat_abs p) × (nat_abs p ≤ length c.ends)) places permutation.range i (pos 0) (omega (arith, permutation.number)) in (
          nat_abs (get_or places i (pos 0)) - 1,
          omega (arith, r, reordered_sizes.number),
          subst (Has c.k word weight) (sym (string_stands i l)) (has_there i l (get_or places i (pos 0)) u.2),
        )

    -- and gains none
    pub weighs-before : Weighs c.k (reordered c places) word weight → Weighs c.k (strings c) word weight
    weighs-before u =
        let j : ℕ = u.0 in
        let f = string_from j (omega (arith, u.1, reordered_sizes.number)) in
        let i : ℕ = f.0 in
        let l : i < length c.ends = f.1 in
        let q : j ≡ nat_abs (get_or places i (pos 0)) - 1 = omega (arith, f.2) in
        let e = ap (λ (n : ℕ). get_or (reordered c places) n none) q ∙ string_stands i l in
        (i, omega (arith, many), has_here i l (get_or places i (pos 0)) (subst (Has c.k word weight) e u.2))
