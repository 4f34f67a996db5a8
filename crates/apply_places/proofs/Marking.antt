-- Judging signed places by marks in the work table, one place after the other. Assumes nothing.
use mathlib.Core.Path.{◌≡◌, refl, sym, ap, ◌∙◌, subst}
use mathlib.Core.Bool.{Bool, true, false}
use mathlib.Core.List.{List, [], ◌∷◌, ◌++◌, map}
use Prim.Native.Nat.{ℕ, suc, ◌+◌, ◌-◌, ◌<◌, ◌≤◌}
use native.Mathlib.Decide.{ℕ_discrete}
use native.Mathlib.Numerals.{add-one}
use native.Mathlib.Omega.{arith}
use borrow.Author.Tests.{eq-eqb, ne_eqb, lt-ltb, le-ltb}
use lib.Dec.{eqb}
use lib.IntN.{ℤ, pos, nat_abs}
use lib.ListN.{length, take, drop, get_or, set, replicate, get_or-replicate, length-replicate, length-map, length-set, drop_of_length-le}
use lib.Seq.{get_or-take, get_or-set_same, get_or-set_other, take-suc, length-take-le, take_all, drop-set-lt}
use Rattle.std.specs.Prelude.{Err}
use Rattle.collection.specs.declared.refusal.Refusal.TheVariants.{Places}
use Rattle.lists.specs.Choose.{choose}
use Rattle.lists.proofs.First.{first_snoc-none, first_snoc-other}
use Rattle.lists.specs.Fill.{fill}
use Rattle.lists.proofs.Storing.{drop_next, take_fill, drop_fill, length_fill}
use Rattle.collection.specs.Verdict.{at_place, Verdict, good}
use Rattle.collection.proofs.Verdicts.{bad_good}
use Rattle.apply_places.specs.Places.{holder, bad_place, first_bad, places_verdict}
use Rattle.apply_places.specs.Judged.{PlacesJudged}
use Rattle.apply_places.specs.Marks.{Marks, Scanned}

-- ─── one place further ───────────────────────────────────────────────────────

module _ (m : ℕ) (places : List ℤ) (i : ℕ) (earlier : List ℕ) (l : i < length places) where
  pub bad_here : bad_place m earlier (nat_abs (get_or places i (pos 0))) ≡ true → first_bad m i earlier (drop i places) ≡ i + 1
  unfolding first_bad
  bad_here e = rw (drop_next places i (pos 0) l, e, add-one)

  -- a good place: the first bad one comes later
  pub bad_later : bad_place m earlier (nat_abs (get_or places i (pos 0))) ≡ false
      → first_bad m i earlier (drop i places) ≡ first_bad m (i + 1) (earlier ++ (nat_abs (get_or places i (pos 0)) ∷ [])) (drop (i + 1) places)
  unfolding first_bad
  bad_later e = rw (drop_next places i (pos 0) l, e, add-one)

-- no place is left
pub bad_none : (m i : ℕ) (earlier : List ℕ) (places : List ℤ) → length places ≤ i → first_bad m i earlier (drop i places) ≡ 0
unfolding first_bad
bad_none m i earlier places l = rw (drop_of_length-le places l)

-- ─── which places are bad ────────────────────────────────────────────────────

module _ (m : ℕ) (earlier : List ℕ) (a : ℕ) where
  pub bad_zero : a ≡ 0 → bad_place m earlier a ≡ true
  unfolding bad_place
  bad_zero e = rw (eq-eqb a 0 e)

  -- a place beyond m
  pub bad_high : (a ≡ 0 → ⊥) → m < a → bad_place m earlier a ≡ true
  unfolding bad_place
  bad_high n h = rw (ne_eqb a 0 n, lt-ltb m a h)

  -- a place that an earlier string has
  pub bad_used : (a ≡ 0 → ⊥) → a ≤ m → (holder a earlier ≡ 0 → ⊥) → bad_place m earlier a ≡ true
  unfolding bad_place
  bad_used n h u = rw (ne_eqb a 0 n, le-ltb m a h, ne_eqb (holder a earlier) 0 u)

  -- a place of 1 to m that is free
  pub good_place : (a ≡ 0 → ⊥) → a ≤ m → holder a earlier ≡ 0 → bad_place m earlier a ≡ false
  unfolding bad_place
  good_place n h u = rw (ne_eqb a 0 n, le-ltb m a h, eq-eqb (holder a earlier) 0 u)

-- ─── marks ───────────────────────────────────────────────────────────────────

-- zeros name no string
pub marks_none : (m : ℕ) (work : List ℕ) → take m work ≡ replicate m 0 → Marks m work []
unfolding Rattle.lists.specs.First.first_from
marks_none m work e a h = sym (get_or-take m work a 0 h) ∙ (ap (λ (l : List ℕ). get_or l a 0) e ∙ get_or-replicate m a 0 0 h)

-- what a mark says of a place within m
pub marked : (m : ℕ) (work places : List ℕ) (a : ℕ) → (a ≡ 0 → ⊥) → a ≤ m → Marks m work places → get_or work (a - 1) 0 ≡ holder a places
marked m work places a p q marks =
    let f : suc (a - 1) ≡ a = omega arith in
    marks (a - 1) (omega arith) ∙ ap (λ (n : ℕ). holder n places) f

-- one string more is named
pub marks_more : (m : ℕ) (work places : List ℕ) (a : ℕ) → (a ≡ 0 → ⊥) → a ≤ m → m ≤ length work → holder a places ≡ 0 → Marks m work places
    → Marks m (set work (a - 1) (length places + 1)) (places ++ (a ∷ []))
marks_more m work places a p q r u marks b h = go (ℕ_discrete (suc b) a)
  where
    go : Dec (suc b ≡ a) → get_or (set work (a - 1) (length places + 1)) b 0 ≡ holder (suc b) (places ++ (a ∷ []))
    go (yes e) =
        let f : b ≡ a - 1 = omega arith in
        ap (λ (n : ℕ). get_or (set work (a - 1) (length places + 1)) n 0) f
        ∙ (get_or-set_same work (a - 1) (length places + 1) 0 (omega arith)
        ∙ sym
        (first_snoc-none (eqb (suc b)) places a (ap (λ (n : ℕ). holder n places) e ∙ u)
        ∙ ap (λ (t : Bool). choose t (length places + 1) 0) (eq-eqb (suc b) a e)))
    go (no n) =
        get_or-set_other work (a - 1) b (length places + 1) 0 (λ e. n (omega arith))
        ∙ (marks b h ∙ sym (first_snoc-other (eqb (suc b)) places a (ne_eqb (suc b) a n)))

-- the places, sign aside, of the first strings, with one more
pub sizes_more : (places : List ℤ) (i : ℕ) → i < length places
    → map nat_abs (take (i + 1) places) ≡ map nat_abs (take i places) ++ (nat_abs (get_or places i (pos 0)) ∷ [])
sizes_more places i l =
    ap (λ (n : ℕ). map nat_abs (take n places)) (add-one i)
    ∙ (ap (map nat_abs) (take-suc places i (pos 0) l) ∙ map_snoc (take i places) (get_or places i (pos 0)))
  where
    map_snoc : (ps : List ℤ) (p : ℤ) → map nat_abs (ps ++ (p ∷ [])) ≡ map nat_abs ps ++ (nat_abs p ∷ [])
    map_snoc [] p = refl
    map_snoc (q ∷ ps) p = ap (λ (l : List ℕ). nat_abs q ∷ l) (map_snoc ps p)

pub length_sizes : (places : List ℤ) (i : ℕ) → i ≤ length places → length (map nat_abs (take i places)) ≡ i
length_sizes places i l = length-map (take i places) nat_abs ∙ length-take-le i places l

-- ─── the loop over the places ────────────────────────────────────────────────

-- i places have passed and none was bad
pub record Marking (m : ℕ) (places : List ℤ) (before work : List ℕ) (i : ℕ) : Type 0 where
  pub inside : i ≤ m
  pub size : length work ≡ length before
  pub rest : drop m work ≡ drop m before
  pub marks : Marks m work (map nat_abs (take i places))
  pub first : first_bad m 0 [] places ≡ first_bad m i (map nat_abs (take i places)) (drop i places)

-- no string is named yet
pub marking_begins : (places : List ℤ) (work : List ℕ) → take (length places) work ≡ replicate (length places) 0 → Marking (length places) places work work 0
marking_begins places work e = record { inside = omega arith; size = refl; rest = refl; marks = marks_none (length places) work e; first = refl }

module _ {m : ℕ} {places : List ℤ} {before work : List ℕ} {i : ℕ} (w : Marking m places before work i) (l : i < length places) (a : ℕ)
    (e : a ≡ nat_abs (get_or places i (pos 0))) where
  -- the places before, sign aside
  abbrev pub earlier : List ℕ
  earlier = map nat_abs (take i places)

  -- a bad place ends the loop
  pub marking_stops : bad_place m earlier a ≡ true → i + 1 ≡ first_bad m 0 [] places
  marking_stops b = sym (w.first ∙ bad_here m places i (map nat_abs (take i places)) l (ap (bad_place m (map nat_abs (take i places))) (sym e) ∙ b))

  module _ (nz : a ≡ 0 → ⊥) (high : a ≤ m) where
    -- a place whose mark is set was used
    pub marking_used : (get_or work (a - 1) 0 ≡ 0 → ⊥) → bad_place m earlier a ≡ true
    marking_used u = bad_used m (map nat_abs (take i places)) a nz high (λ q. u (marked m work (map nat_abs (take i places)) a nz high w.marks ∙ q))

    -- a place whose mark is not set is marked
    pub marking_next : m ≤ length work → get_or work (a - 1) 0 ≡ 0 → i < m → Marking m places before (set work (a - 1) (i + 1)) (i + 1)
    marking_next r u b =
        let es : List ℕ = map nat_abs (take i places) in
        let n : length es ≡ i = length_sizes places i (omega arith) in
        let h : holder a es ≡ 0 = sym (marked m work es a nz high w.marks) ∙ u in
        let s : es ++ (a ∷ []) ≡ map nat_abs (take (i + 1) places) = ap (λ (x : ℕ). es ++ (x ∷ [])) e ∙ sym (sizes_more places i l) in
        record {
          inside = omega arith;
          size = length-set work (a - 1) (i + 1) ∙ w.size;
          rest = drop-set-lt m work (a - 1) (i + 1) (omega arith) ∙ w.rest;
          marks = subst (λ (ys : List ℕ). Marks m (set work (a - 1) (i + 1)) ys) s
              (subst (λ (x : ℕ). Marks m (set work (a - 1) (x + 1)) (es ++ (a ∷ []))) n (marks_more m work es a nz high r h w.marks));
          first =
              w.first
              ∙ (bad_later m places i es l (ap (bad_place m es) (sym e) ∙ good_place m es a nz high h)
              ∙ ap (λ (ys : List ℕ). first_bad m (i + 1) ys (drop (i + 1) places)) (sym (sizes_more places i l)));
        }

-- all places passed
pub marking_ends : {places : List ℤ} {before work : List ℕ} {i : ℕ} → Marking (length places) places before work i → length places ≤ i
    → Scanned (length places) places before work 0
marking_ends {places} {before} {work} {i} w l =
    record {
      first = sym (w.first ∙ bad_none (length places) i (map nat_abs (take i places)) places l);
      size = w.size;
      rest = w.rest;
      marked = λ q. subst (λ (ps : List ℤ). Marks (length places) work (map nat_abs ps)) (take_all i places l) w.marks;
    }

-- ─── the judgement ───────────────────────────────────────────────────────────

-- not m places
pub judged_number : (m : ℕ) (places : List ℤ) (work : List ℕ) → (length places ≡ m → ⊥) → PlacesJudged m places work work (Err (Places 0))
unfolding places_verdict
judged_number m places work n = record { judged = rw (ne_eqb (length places) m n); size = refl; rest = refl; marked = λ q. absurd (bad_good q) }

-- m places, judged one after the other over zeros
pub judged_each : (m : ℕ) (places : List ℤ) (before zeros after : List ℕ) (r : ℕ) (verdict : Verdict) → length places ≡ m → m ≤ length before
    → zeros ≡ fill (replicate m 0) before
    → Scanned (length places) places zeros after r → verdict ≡ at_place Places r → (verdict ≡ good → r ≡ 0) → PlacesJudged m places before after verdict
unfolding places_verdict
judged_each m places before zeros after r verdict e l z s v g =
    record {
      judged = v ∙ (ap (at_place Places) (s.first ∙ ap (λ (n : ℕ). first_bad n 0 [] places) e)
          ∙ sym (ap (λ (b : Bool). choose b (at_place Places (first_bad m 0 [] places)) (Err (Places 0))) (eq-eqb (length places) m e)));
      size = s.size ∙ (ap length z ∙ length_fill (replicate m 0) before (omega (arith, length-replicate {A = ℕ} m 0)));
      rest = subst (λ (n : ℕ). drop n after ≡ drop n zeros) e s.rest ∙ (ap (drop m) z ∙ drop_fill (replicate m 0) before m (length-replicate {A = ℕ} m 0));
      marked = λ q. subst (λ (n : ℕ). Marks n after (map nat_abs places)) e (s.marked (g q));
    }

-- zeroed work is ready for the marks of n places
pub zeros_ready : (m n : ℕ) (work before : List ℕ) → n ≡ m → m ≤ length before → work ≡ fill (replicate m 0) before
    → (n ≤ length work) × (take n work ≡ replicate n 0)
zeros_ready m n work before e l z =
    let k = length-replicate {A = ℕ} m 0 in (
      omega (arith, ap length z, length_fill (replicate m 0) before (omega arith)),
      subst (λ (j : ℕ). take j work ≡ replicate j 0) (sym e) (ap (take m) z ∙ take_fill (replicate m 0) before m k),
    )
