-- Laws of keys: a list stands only where its key does; so a word does not stand where its key is not found. Assumes nothing.
use mathlib.Core.Path.{◌≡◌, refl, sym, ap, ap₂, ◌∙◌, subst}
use mathlib.Core.Bool.{Bool, true, false, ◌||◌, true≢false}
use mathlib.Core.List.{List, [], ◌∷◌, ◌++◌, map}
use mathlib.Core.Logic.{⊎_elim}
use Prim.Native.Nat.{ℕ, zero, suc, ◌+◌, ◌-◌, ◌*◌, ◌/◌, ◌%◌, ◌^◌, ◌<◌, ◌≤◌}
use native.Mathlib.Omega.{arith}
use native.Mathlib.Nat.{div-div-eq-div-mul, eq-or-lt_of_le}
use borrow.Author.Count.{below_more}
use borrow.Author.Tests.{lt-ltb, ltb-true, ltb-false}
use lib.Dec.{ltb}
use lib.ListN.{length, get_or, take, drop, length-map, get_or-append}
use lib.Seq.{get_or-take, get_or-drop, get_or_at}
use Rattle.lists.proofs.Every.{same_is}
use Rattle.lists.proofs.Mapped.{map_at_below}
use Rattle.alphabet.specs.Letter.{letter, is_letter, capital}
use Rattle.alphabet.proofs.Letters.{capital-letter}
use Rattle.words.specs.Word.{Letters, spell}
use Rattle.words.specs.Turned.{spelled}
use Rattle.words.proofs.Codes.{spelled-letters, length-spelled}
use Rattle.quick_walks.specs.Walk.{is_word}
use Rattle.quick_walks.specs.Keys.{Meets, Finds, KeyOf}

-- ─── eight places ────────────────────────────────────────────────────────────

-- what holds at each of eight places
pub eight : (P : ℕ → Type 0) → P 0 → P 1 → P 2 → P 3 → P 4 → P 5 → P 6 → P 7 → (t : ℕ) → t < 8 → P t
eight P a b c d e f g h zero l = a
eight P a b c d e f g h (suc zero) l = b
eight P a b c d e f g h (suc (suc zero)) l = c
eight P a b c d e f g h (suc (suc (suc zero))) l = d
eight P a b c d e f g h (suc (suc (suc (suc zero)))) l = e
eight P a b c d e f g h (suc (suc (suc (suc (suc zero))))) l = f
eight P a b c d e f g h (suc (suc (suc (suc (suc (suc zero)))))) l = g
eight P a b c d e f g h (suc (suc (suc (suc (suc (suc (suc zero))))))) l = h
eight P a b c d e f g h (suc (suc (suc (suc (suc (suc (suc (suc t)))))))) l = absurd (omega arith)

-- ─── where a key is found ────────────────────────────────────────────────────

-- where a list stands, its key does
pub stands_meets : {v places key : List ℕ} → KeyOf v places key → (letters : List ℕ) (a : ℕ) → take (length v) (drop a letters) ≡ v → Meets places key letters a
stands_meets {v} {places} h letters a e t l =
    let p : ℕ = get_or places t 0 in
    sym (get_or-drop a letters p 0)
    ∙ (sym (get_or-take (length v) (drop a letters) p 0 (h.within t l)) ∙ (ap (λ (u : List ℕ). get_or u p 0) e ∙ h.holds t l))

-- so a list that stands from one of the positions is found by its key
pub stands_found : {v places key : List ℕ} → KeyOf v places key → (letters : List ℕ) (at n : ℕ) (r : Bool) → Finds places key letters at n r → (i : ℕ) → i < n
    → take (length v) (drop (at + i) letters) ≡ v → r ≡ true
stands_found h letters at n r finds i l e = finds i l (stands_meets h letters (at + i) e)

module _ (places key letters : List ℕ) where
  -- a pass over positions that looks at one more
  pub finds_more : (at i : ℕ) (any here : Bool) → Finds places key letters at i any → (Meets places key letters (at + i) → here ≡ true)
      → Finds places key letters at (i + 1) (any || here)
  finds_more at i any here all one =
      below_more (λ j. Meets places key letters (at + j) → (any || here) ≡ true) i (λ j l m. before any (all j l m)) (λ m. behind any (one m))
    where
      before : (s : Bool) → s ≡ true → (s || here) ≡ true
      before true e = refl
      before false e = absurd (true≢false (sym e))

      behind : (s : Bool) → here ≡ true → (s || here) ≡ true
      behind true e = refl
      behind false e = e

  -- the key's letters stand from none of the first i positions from `at` on
  abbrev pub Nowhere : ℕ → ℕ → Type 0
  Nowhere at i = (j : ℕ) → j < i → Meets places key letters (at + j) → ⊥

  -- a pass over positions that looks at n more
  pub nowhere_more : (at i n : ℕ) (r : Bool) → Nowhere at i → Finds places key letters (at + i) n r → r ≡ false → Nowhere at (i + n)
  nowhere_more at i n r none finds e j l m = go (ltb j i) refl
    where
      go : (b : Bool) → ltb j i ≡ b → ⊥
      go true q = none j (ltb-true j i q) m
      go false q =
          let o : i ≤ j = ltb-false j i q in
          let p : at + j ≡ at + i + (j - i) = omega arith in
          true≢false (sym (finds (j - i) (omega arith) (subst (λ (a : ℕ). Meets places key letters a) p m)) ∙ e)

-- ─── words ───────────────────────────────────────────────────────────────────

-- the bytes of a word are the capitals of its codes
capitals : (bytes : List ℕ) → Letters (spell bytes) → map capital (spell bytes) ≡ bytes
unfolding is_letter
capitals [] h = refl
capitals (b ∷ bytes) h = ap₂ (λ (x : ℕ) (u : List ℕ). x ∷ u) (capital-letter b (lt-ltb (letter b) 4 h.0)) (capitals bytes h.1)

word_stands : (k : ℕ) (letters w : List ℕ) (a : ℕ) → Letters w → is_word k letters w a ≡ true → take k (drop a letters) ≡ map capital w
unfolding is_word
word_stands k letters w a g e =
    let bytes : List ℕ = take k (drop a letters) in
    let q : spell bytes ≡ w = same_is (spell bytes) w e in
    sym (capitals bytes (subst Letters (sym q) g)) ∙ ap (map capital) q

-- a word does not stand where its key is not found
pub not_found : (k w : ℕ) (places key letters : List ℕ) (at n : ℕ) (r : Bool) → KeyOf (map capital (spelled k w)) places key → Finds places key letters at n r
    → r ≡ false
    → (i : ℕ) → i < n → is_word k letters (spelled k w) (at + i) ≡ false
not_found k w places key letters at n r h finds e i l = go (is_word k letters (spelled k w) (at + i)) refl
  where
    go : (b : Bool) → is_word k letters (spelled k w) (at + i) ≡ b → b ≡ false
    go false q = refl
    go true q =
        let long : length (map capital (spelled k w)) ≡ k = length-map (spelled k w) capital ∙ length-spelled k w in
        let s : take (length (map capital (spelled k w))) (drop (at + i) letters) ≡ map capital (spelled k w) =
        ap (λ (m : ℕ). take m (drop (at + i) letters)) long ∙ word_stands k letters (spelled k w) (at + i) (spelled-letters k w) q in
        sym (stands_found h letters at n r finds i l s) ∙ e

-- ─── the letters of a word by its code ───────────────────────────────────────

spelled_at : (k c i : ℕ) → i < k → get_or (spelled k c) i 0 ≡ c / 4 ^ (k - 1 - i) % 4
unfolding spelled
spelled_at zero c i l = absurd (omega arith)
spelled_at (suc k) c i l = ⊎_elim last (λ b. inner b (spelled_at k (c / 4) i b)) (eq-or-lt_of_le (let m : i ≤ k = omega arith in m))
  where
    last : i ≡ k → get_or (spelled k (c / 4) ++ (c % 4 ∷ [])) i 0 ≡ c / 4 ^ (suc k - 1 - i) % 4
    last e =
        let n : suc k - 1 - i ≡ 0 = omega arith in
        let z : c % 4 ≡ c / 4 ^ 0 % 4 = omega arith in
        get_or_at (spelled k (c / 4)) (c % 4) [] 0 i (length-spelled k (c / 4) ∙ sym e) ∙ (z ∙ ap (λ (m : ℕ). c / 4 ^ m % 4) (sym n))

    inner : i < k → get_or (spelled k (c / 4)) i 0 ≡ c / 4 / 4 ^ (k - 1 - i) % 4 → get_or (spelled k (c / 4) ++ (c % 4 ∷ [])) i 0 ≡ c / 4 ^ (suc k - 1 - i) % 4
    inner b e =
        let n : suc k - 1 - i ≡ suc (k - 1 - i) = omega arith in
        let p : 4 * 4 ^ (k - 1 - i) ≡ 4 ^ suc (k - 1 - i) = omega arith in
        get_or-append (spelled k (c / 4)) (c % 4 ∷ []) 0 i (subst (λ (m : ℕ). i < m) (sym (length-spelled k (c / 4))) b)
        ∙ (e ∙ (ap (λ (m : ℕ). m % 4) (div-div-eq-div-mul c 4 (4 ^ (k - 1 - i))) ∙ ap (λ (m : ℕ). c / m % 4) (p ∙ ap (λ (m : ℕ). 4 ^ m) (sym n))))

-- the letter at place i
pub capital_at : (k c i : ℕ) → i < k → get_or (map capital (spelled k c)) i 0 ≡ capital (c / 4 ^ (k - 1 - i) % 4)
capital_at k c i l =
    map_at_below capital 0 0 (spelled k c) i (subst (λ (m : ℕ). i < m) (sym (length-spelled k c)) l) ∙ ap capital (spelled_at k c i l)
