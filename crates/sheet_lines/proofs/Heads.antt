-- Line 1: what the code finds there is what the line's parts say. Assumes nothing.
use mathlib.Core.Path.{◌≡◌, refl, sym, ap, ◌∙◌}
use mathlib.Core.Bool.{Bool, true, false, not, ◌&&◌}
use mathlib.Core.List.{List, [], ◌∷◌, ◌++◌, append-nil}
use Rattle.std.specs.Prelude.{None, Some}
use Prim.Native.Nat.{ℕ, zero, suc, ◌+◌, ◌-◌, ◌*◌, ◌<◌, ◌≤◌}
use native.Mathlib.Omega.{arith}
use borrow.Author.Tests.{eqb-false, le-leb, leb-true, not-true}
use lib.Dec.{eqb}
use lib.ListN.{length, drop, take, get_or, length-append, take-append-drop}
use lib.Seq.{drop-cons, drop-drop, get_or_at}
use Rattle.lists.specs.Choose.{choose}
use Rattle.lists.specs.Limits.{most_weight}
use Rattle.collection_faults.specs.Faults.{is_weight}
use Rattle.lists.specs.Every.{every}
use Rattle.lists.proofs.Every.{and_both}
use Rattle.lists.proofs.Refuted.{refuted, never}
use Rattle.text.specs.Numbers.{is_digit, is_number, value_from, value}
use Rattle.text.specs.Parts.{up_to, later, tab, feed}
use Rattle.sheet.specs.Sheet.{is_mark, is_k, is_k_line, is_weight_field, k_of, is_head}
use Rattle.text.specs.Fields.{field, number, number_of, byte_is}
use Rattle.text.specs.declared.Number.{Number}
use Rattle.sheet_lines.specs.Cursor.{weight_at, head, head_of, head_in, head_end}
use Rattle.text.proofs.Tests.{both, every_more, digit_range}
use Rattle.text.proofs.Parts.{joined, Free, up_last, later_last, up_first, later_first, join_parts, up_short, up_take, take_up}
use Rattle.text.proofs.Numbers.{number_all}
use Rattle.sheet.proofs.Accepted.{mark_is}
use Rattle.sheet.proofs.Written.{clear_digit, mark_free, free_next}
use Rattle.text.proofs.Bytes.{byte_here, byte_other, byte_is_lem}
use Rattle.text.proofs.OneNumber.{range_is}
use Rattle.sheet_lines.proofs.Tails.{weight_good}

-- no separator stands in a number
number_free : (c : ℕ) (f : List ℕ) → c < 48 → is_number f ≡ true → Free c f
number_free c f p h = every_more _ _ (λ b q. clear_digit c b p q) f (number_all f h)

-- ─── a good line 1 ───────────────────────────────────────────────────────────

module _ (f rest : List ℕ) (h : is_number f ≡ true) (l : length f ≤ 2) where
  line_free : Free feed (75 ∷ (tab ∷ f))
  line_free = free_next feed 75 _ (λ e. omega arith) (free_next feed tab _ (λ e. omega arith) (number_free feed f (omega arith) h))

  fields : later tab (75 ∷ (tab ∷ f)) ≡ f ∷ []
  fields =
      let g = number_free tab f (omega arith) h in
      let a = up_last tab f g in
      let b = later_last tab f g in
      later_first tab (75 ∷ []) f (mark_free 75 (λ e. omega arith)) ∙ (λ i. a i ∷ b i)

  good_line : is_k_line (75 ∷ (tab ∷ f)) ≡ true
  unfolding is_k_line
  good_line = and_both (ap (is_mark 75) (up_first tab (75 ∷ []) f (mark_free 75 (λ e. omega arith)))) (ap is_k fields ∙ and_both h (le-leb (length f) 2 l))

  head_yes : head_in ((75 ∷ (tab ∷ f)) ++ (feed ∷ rest)) ≡ Some (head (value f) (length f + 2 + 1))
  unfolding head_of
  head_yes =
      let a = up_first feed (75 ∷ (tab ∷ f)) rest line_free in
      let b = later_first feed (75 ∷ (tab ∷ f)) rest line_free in
      let n : suc (suc (length f)) + 1 ≡ length f + 2 + 1 = omega arith in
      (λ i. head_of (a i) (b i)) ∙ (ap (λ (t : Bool). choose t (Some (head (k_of (later tab (75 ∷ (tab ∷ f)))) (suc (suc (length f)) + 1))) None) good_line
      ∙ (λ i. Some (head (k_of (fields i)) (n i))))

-- ─── what a good line 1 looks like ───────────────────────────────────────────

-- the sheet begins with `K` (75), a tab, a number f of one or two digits and a line feed
record Text (s : List ℕ) : Type 0 where
  f : List ℕ
  rest : List ℕ
  is_a_number : is_number f ≡ true
  short : length f ≤ 2
  same : s ≡ (75 ∷ (tab ∷ f)) ++ (feed ∷ rest)

one_field : (l : List ℕ) (fs : List (List ℕ)) → is_k fs ≡ true → up_to tab l ≡ 75 ∷ [] → later tab l ≡ fs → (s m : List ℕ) (ms : List (List ℕ))
    → up_to feed s ≡ l
    → later feed s ≡ m ∷ ms → Text s
unfolding joined
one_field l [] h u e s m ms p q = never h
one_field l (f ∷ []) h u e s m ms p q =
    let t = both (is_number f) _ h in
    let a : l ≡ 75 ∷ (tab ∷ (f ++ [])) = sym (join_parts tab l) ∙ (λ i. u i ++ joined tab (e i)) in
    let b : l ≡ 75 ∷ (tab ∷ f) = a ∙ ap (λ (x : List ℕ). 75 ∷ (tab ∷ x)) (append-nil f) in
    record {
      f = f;
      rest =
          m ++ joined feed ms;
      is_a_number = t.0;
      short = leb-true _ _ t.1;
      same = sym (join_parts feed s) ∙ (λ i. (p ∙ b) i ++ joined feed (q i));
    }
one_field l (f ∷ (g ∷ fs)) h u e s m ms p q = never h

-- a good line 1 is such a text
head_text : (s : List ℕ) (ls : List (List ℕ)) → later feed s ≡ ls → is_head (up_to feed s) ls ≡ true → Text s
unfolding is_k_line
head_text s [] e h = never h
head_text s (m ∷ ms) e h =
    let t = both (is_mark 75 (up_to tab (up_to feed s))) _ h in
    one_field (up_to feed s) (later tab (up_to feed s)) t.1 (mark_is 75 _ t.0) refl s m ms refl e

-- a sheet whose line 1 cannot be such a text is refused
head_no : (s : List ℕ) → (Text s → ⊥) → head_in s ≡ None
unfolding head_of
head_no s h = go (is_head (up_to feed s) (later feed s)) refl where
  go : (t : Bool) → is_head (up_to feed s) (later feed s) ≡ t
      → choose t (Some (head (k_of (later tab (up_to feed s))) (length (up_to feed s) + 1))) None ≡ None
  go true e = absurd (h (head_text s (later feed s) refl e))
  go false e = refl

clash : {t : Bool} → t ≡ true → t ≡ false → ⊥
clash p q = never (sym q ∙ p)

module _ (s : List ℕ) where
  size : (t : Text s) → length s ≡ length t.f + length t.rest + 3
  size t = omega (arith, ap length t.same, length-append (75 ∷ (tab ∷ t.f)) (feed ∷ t.rest))

  -- no `K`, no tab
  pub not_k : byte_is s 0 75 ≡ false → head_in s ≡ None
  not_k h = head_no s (λ t. clash (byte_is_lem s 0 75 (omega (arith, size t)) (ap (λ (x : List ℕ). get_or x 0 0) t.same)) h)

  pub not_tab : byte_is s 1 tab ≡ false → head_in s ≡ None
  not_tab h = head_no s (λ t. clash (byte_is_lem s 1 tab (omega (arith, size t)) (ap (λ (x : List ℕ). get_or x 1 0) t.same)) h)

  feed_there : (t : Text s) (i : ℕ) → i ≡ length t.f + 2 → byte_is s i feed ≡ true
  feed_there t i e =
      let n : length (75 ∷ (tab ∷ t.f)) ≡ i = omega arith in
      byte_is_lem s i feed (omega (arith, size t)) (ap (λ (x : List ℕ). get_or x i 0) t.same ∙ get_or_at (75 ∷ (tab ∷ t.f)) feed t.rest 0 i n)

  module _ (k-here : byte_is s 0 75 ≡ true) (tab-here : byte_is s 1 tab ≡ true) where
    begins : s ≡ 75 ∷ (tab ∷ drop 2 s)
    begins =
        let a = byte_here s 0 75 k-here in
        let b = byte_here s 1 tab tab-here in
        drop-cons s 0 0 a.0 ∙ ((λ i. a.1 i ∷ drop 1 s) ∙ ap (λ (x : List ℕ). 75 ∷ x) (drop-cons s 1 0 b.0 ∙ (λ i. b.1 i ∷ drop 2 s)))

    -- the line feed stands behind the field f
    found_head : (f : List ℕ) (i : ℕ) → is_number f ≡ true → length f ≤ 2 → drop 2 s ≡ f ++ drop i s → i ≡ length f + 2 → byte_is s i feed ≡ true
        → head_in s ≡ Some (head (value f) (i + 1))
    found_head f i h l e n w =
        let b = byte_here s i feed w in
        let d : drop i s ≡ feed ∷ drop (suc i) s = drop-cons s i 0 b.0 ∙ (λ x. b.1 x ∷ drop (suc i) s) in
        let t : s ≡ (75 ∷ (tab ∷ f)) ++ (feed ∷ drop (suc i) s) = begins ∙ ap (λ (x : List ℕ). 75 ∷ (tab ∷ x)) (e ∙ ap (λ (x : List ℕ). f ++ x) d) in
        ap head_in t ∙ (head_yes f (drop (suc i) s) h l ∙ ap (λ (x : ℕ). Some (head (value f) (x + 1))) (sym n))

-- a number that begins with 0 is 0
zero_led : (f rest : List ℕ) → is_number f ≡ true → get_or (f ++ (feed ∷ rest)) 0 0 ≡ 48 → length f ≡ 1
unfolding is_number
zero_led [] rest h e = never h
zero_led (b ∷ []) rest h e = refl
zero_led (b ∷ (c ∷ f)) rest h e =
    let t = both (is_digit b && not (eqb b 48)) _ h in
    absurd (eqb-false b 48 (not-true _ (both (is_digit b) _ t.0).1) e)

-- a number of one or two digits other than 0 is a weight
small_value : (f rest : List ℕ) → is_number f ≡ true → length f ≤ 2 → (get_or (f ++ (feed ∷ rest)) 0 0 ≡ 48 → ⊥) → is_weight (value f) ≡ true
unfolding is_number value_from every
small_value [] rest h l e = never h
small_value (b ∷ []) rest h l e =
    let d = digit_range b h in
    range_is most_weight (0 * 10 + (b - 48)) (nonzero (b - 48) (λ z. e (omega arith))) (omega arith) where
      nonzero : (x : ℕ) → (x ≡ 0 → ⊥) → 1 ≤ 0 * 10 + x
      nonzero zero z = absurd (z refl)
      nonzero (suc x) z = omega arith
small_value (b ∷ (c ∷ [])) rest h l e =
    let t = both (is_digit b && not (eqb b 48)) _ h in
    let d = digit_range b (both (is_digit b) _ t.0).0 in
    let g = digit_range c (both (is_digit c) _ t.1).0 in
    let z = eqb-false b 48 (not-true _ (both (is_digit b) _ t.0).1) in
    range_is most_weight ((0 * 10 + (b - 48)) * 10 + (c - 48)) (omega arith) (omega arith)
small_value (b ∷ (c ∷ (d ∷ f))) rest h l e = absurd (omega arith)

zero_is : is_number (48 ∷ []) ≡ true
unfolding is_number
zero_is = refl

zero-value : value (48 ∷ []) ≡ 0
unfolding value_from
zero-value = refl

weight_yes : (i : ℕ) (f : List ℕ) → is_number f ≡ true → is_weight (value f) ≡ true → number_of most_weight i f ≡ Some (number (value f) (i + length f))
unfolding number_of
weight_yes i f h g = rw (h, g)

weight_number : (f : List ℕ) → is_weight_field f ≡ true → is_number f ≡ true
unfolding is_weight_field
weight_number f h = (both (is_number f) _ h).0

same_place : {v w x y : ℕ} → Some (number v x) ≡ Some (number w y) → x ≡ y
same_place {v} {w} {x} {y} h =
    let q : number v x ≡ number w y = cc in
    ap (λ (n : Number). n.next) q

no_place : {v x : ℕ} → Some (number v x) ≡ None → ⊥
no_place h = refuted (cc)

-- what stands behind `K` and a tab is the field, then the rest
front_cut : (s : List ℕ) (next : ℕ) → next ≡ 2 + length (field tab (drop 2 s)) → drop 2 s ≡ field tab (drop 2 s) ++ drop next s
unfolding field
front_cut s next e =
    let x : List ℕ = drop 2 s in
    let n : ℕ = length (up_to tab (up_to feed x)) in
    let a : up_to tab (up_to feed x) ≡ take n x = up_take tab (up_to feed x) ∙ take_up feed x n (up_short tab (up_to feed x)) in
    let d : drop n x ≡ drop next s = drop-drop n 2 s ∙ ap (λ (y : ℕ). drop y s) (sym e) in
    sym (take-append-drop n x) ∙ (λ i. sym a i ++ d i)

module _ (s : List ℕ) (k-here : byte_is s 0 75 ≡ true) (tab-here : byte_is s 1 tab ≡ true) where
  third : (t : Text s) → get_or s 2 0 ≡ get_or (t.f ++ (feed ∷ t.rest)) 0 0
  third t = ap (λ (x : List ℕ). get_or x 2 0) t.same

  -- a lone 0, or no number
  pub zero_head : byte_is s 2 48 ≡ true → head_end s 0 3 ≡ head_in s
  zero_head h = go (byte_is s 3 feed) refl where
    b : (2 < length s) × (get_or s 2 0 ≡ 48)
    b = byte_here s 2 48 h

    go : (t : Bool) → byte_is s 3 feed ≡ t → choose t (Some (head 0 4)) None ≡ head_in s
    go true e =
        sym (found_head s k-here tab-here (48 ∷ []) 3 zero_is (omega arith) (drop-cons s 2 0 b.0 ∙ (λ i. b.1 i ∷ drop 3 s)) refl e
        ∙ ap (λ (x : ℕ). Some (head x 4)) zero-value)
    go false e = sym (head_no s (λ t. let z = zero_led t.f t.rest t.is_a_number (sym (third t) ∙ b.1) in clash (feed_there s t 3 (omega arith)) e))

  module _ (no_zero : byte_is s 2 48 ≡ false) where
    text_weight : (t : Text s) → weight_at s 2 ≡ Some (number (value t.f) (2 + length t.f))
    unfolding field
    text_weight t =
        let d : drop 2 s ≡ t.f ++ (feed ∷ t.rest) = ap (drop 2) t.same in
        let u : up_to feed (drop 2 s) ≡ t.f = ap (up_to feed) d ∙ up_first feed t.f t.rest (number_free feed t.f (omega arith) t.is_a_number) in
        let w : up_to tab (up_to feed (drop 2 s)) ≡ t.f = ap (up_to tab) u ∙ up_last tab t.f (number_free tab t.f (omega arith) t.is_a_number) in
        let l : 2 < length s = omega (arith, size s t) in
        ap (number_of most_weight 2) w
        ∙ weight_yes 2 t.f t.is_a_number (small_value t.f t.rest t.is_a_number t.short (λ e. byte_other s 2 48 no_zero l (third t ∙ e)))

    -- no weight, so no number
    pub no_number : weight_at s 2 ≡ None → head_in s ≡ None
    no_number h = head_no s (λ t. no_place (sym (text_weight t) ∙ h))

    module _ (v next : ℕ) (w : weight_at s 2 ≡ Some (number v next)) where
      -- a third digit
      pub too_long : 4 < next → head_in s ≡ None
      too_long l = head_no s (λ t. let p = same_place (sym (text_weight t) ∙ w) in omega (arith, t.short))

      -- a number, and its line feed or none
      pub number_head : next ≤ 4 → head_end s v next ≡ head_in s
      number_head l = go (byte_is s next feed) refl where
        f : List ℕ
        f = field tab (drop 2 s)

        g : (is_weight_field f ≡ true) × (next ≡ 2 + length f) × (v ≡ value f)
        g = weight_good 2 f v next w

        cut : drop 2 s ≡ f ++ drop next s
        cut = front_cut s next g.1

        go : (t : Bool) → byte_is s next feed ≡ t → choose t (Some (head v (next + 1))) None ≡ head_in s
        go true e =
            let n = g.1 in
            sym (found_head s k-here tab-here f next (weight_number f g.0) (omega arith) cut (omega arith) e
            ∙ ap (λ (x : ℕ). Some (head x (next + 1))) (sym g.2))
        go false e = sym (head_no s (λ t. let p = same_place (sym (text_weight t) ∙ w) in clash (feed_there s t next (omega arith)) e))
