-- What is unused before the walks: the strings, and the spokes to the vertices that are met oddly often.
use mathlib.Core.Path.{◌≡◌, refl, ap, ap₂, ◌∙◌}
use mathlib.Core.List.{List, [], ◌∷◌, ◌++◌}
use Prim.Native.Nat.{ℕ, zero, suc, ◌+◌, ◌-◌, ◌*◌, ◌%◌, ◌<◌, ◌≤◌}
use native.Mathlib.Omega.{arith}
use native.Mathlib.Decide.{dec_lt}
use lib.ListN.{length, get_or}
use Rattle.cover_trails.specs.Counting.{occurs, oddly}
use Rattle.cover_trails.specs.Strings.{Ends}
use Rattle.lists.proofs.Agree.{agree_same, agree-other}
use Rattle.cover_trails.proofs.Hub.{spokes_to}
use Rattle.cover_tours.specs.Halves.{near, unused, numbered}
use Rattle.cover_tours.proofs.Halves.{near_hub, near_spoke}
use Rattle.cover_vertices.specs.Ladder.{ladder}

-- ─── the strings ─────────────────────────────────────────────────────────────

module _ (f : ℕ → ℕ) where
  -- of each part by itself
  pub unused-append : (e : ℕ) (A B : List ℕ) → unused f e (A ++ B) ≡ unused f e A ++ unused f (e + length A) B
  unfolding unused
  unused-append e [] B = let q : e ≡ e + 0 = omega arith in ap (λ (n : ℕ). unused f n B) q
  unused-append e (zero ∷ A) B =
      let q : suc e + length A ≡ e + suc (length A) = omega arith in
      ap (λ (L : List Ends). (f (2 * e), f (2 * e + 1)) ∷ L) (unused-append (suc e) A B ∙ ap (λ (n : ℕ). unused f (suc e) A ++ unused f n B) q)
  unused-append e (suc n ∷ A) B =
      let q : suc e + length A ≡ e + suc (length A) = omega arith in
      unused-append (suc e) A B ∙ ap (λ (n : ℕ). unused f (suc e) A ++ unused f n B) q

  -- where no flag is set, all are unused
  pub unused-none : (e n : ℕ) → unused f e (ladder 0 0 n) ≡ numbered f e n
  unfolding unused ladder numbered
  unused-none e zero = refl
  unused-none e (suc n) = ap (λ (L : List Ends). (f (2 * e), f (2 * e + 1)) ∷ L) (unused-none (suc e) n)

  -- no more than there are flags
  pub unused_few : (e : ℕ) (flags : List ℕ) → length (unused f e flags) ≤ length flags
  unfolding unused
  unused_few e [] = omega arith
  unused_few e (zero ∷ flags) = omega (arith, unused_few (suc e) flags)
  unused_few e (suc n ∷ flags) = omega (arith, unused_few (suc e) flags)

-- ─── the spokes ──────────────────────────────────────────────────────────────

-- the places from v on whose flag is 0
unfoldable pub zeros : ℕ → List ℕ → List ℕ
zeros v [] = []
zeros v (zero ∷ flags) = v ∷ zeros (suc v) flags
zeros v (suc n ∷ flags) = zeros (suc v) flags

-- the unused spokes, by their vertices
pub unused-spokes : (m : ℕ) (verts : List ℕ) (v : ℕ) (flags : List ℕ) → unused (near m verts) (m + v) flags ≡ spokes_to (2 * m) (zeros v flags)
unfolding unused zeros
unused-spokes m verts v [] = refl
unused-spokes m verts v (zero ∷ flags) =
    let q : suc (m + v) ≡ m + suc v = omega arith in
    ap₂ (λ (s : Ends) (L : List Ends). s ∷ L)
    (λ j. (near_hub m verts (2 * (m + v)) (omega arith) (omega arith) j, own j))
    (ap (λ (e : ℕ). unused (near m verts) e flags) q ∙ unused-spokes m verts (suc v) flags)
  where
    own : near m verts (2 * (m + v) + 1) ≡ v
    own = near_spoke m verts (2 * (m + v) + 1) (omega arith) (λ e. omega arith) ∙ omega arith
unused-spokes m verts v (suc n ∷ flags) =
    let q : suc (m + v) ≡ m + suc v = omega arith in
    ap (λ (e : ℕ). unused (near m verts) e flags) q ∙ unused-spokes m verts (suc v) flags

zeros_below : (x v : ℕ) (flags : List ℕ) → x < v → occurs x (zeros v flags) ≡ 0
unfolding zeros occurs
zeros_below x v [] l = refl
zeros_below x v (zero ∷ flags) l = omega (arith, agree-other x v (λ e. omega arith), zeros_below x (suc v) flags (omega arith))
zeros_below x v (suc n ∷ flags) l = zeros_below x (suc v) flags (omega arith)

zeros_at : (v : ℕ) (flags : List ℕ) (i : ℕ) → i < length flags → occurs (v + i) (zeros v flags) ≡ 1 - get_or flags i 0
unfolding zeros occurs
zeros_at v [] i l = absurd (omega arith)
zeros_at v (zero ∷ flags) zero l = omega (arith, agree_same (v + 0) v (omega arith), zeros_below (v + 0) (suc v) flags (omega arith))
zeros_at v (suc n ∷ flags) zero l = omega (arith, zeros_below (v + 0) (suc v) flags (omega arith))
zeros_at v (zero ∷ flags) (suc i) l =
    let q : v + suc i ≡ suc v + i = omega arith in
    ap (λ (k : ℕ). occurs k (zeros v (zero ∷ flags))) q
    ∙ omega (arith, agree-other (suc v + i) v (λ e. omega arith), zeros_at (suc v) flags i (omega arith))
zeros_at v (suc n ∷ flags) (suc i) l = let q : v + suc i ≡ suc v + i = omega arith in rw q (zeros_at (suc v) flags i (omega arith))

zeros_beyond : (x v : ℕ) (flags : List ℕ) → v + length flags ≤ x → occurs x (zeros v flags) ≡ 0
unfolding zeros occurs
zeros_beyond x v [] l = refl
zeros_beyond x v (zero ∷ flags) l = omega (arith, agree-other x v (λ e. omega arith), zeros_beyond x (suc v) flags (omega arith))
zeros_beyond x v (suc n ∷ flags) l = zeros_beyond x (suc v) flags (omega arith)

-- Where flag and number of ends are odd together, the spokes that are unused lead to the odd vertices.
pub zeros_odd : (n : ℕ) (vs flags : List ℕ) → length flags ≡ n → ((x : ℕ) → x < n → (get_or flags x 0 + occurs x vs) % 2 ≡ 1)
    → ((x : ℕ) → x < n → get_or flags x 0 ≤ 1)
    → ((x : ℕ) → n ≤ x → occurs x vs ≡ 0) → (x : ℕ) → occurs x (zeros 0 flags) ≡ oddly vs x
unfolding oddly
zeros_odd n vs flags l odd low beyond x = go (dec_lt x n)
  where
    go : Dec (x < n) → occurs x (zeros 0 flags) ≡ occurs x vs % 2
    go (yes p) =
        let q : 0 + x ≡ x = omega arith in
        omega (arith, odd x p, low x p, ap (λ (y : ℕ). occurs y (zeros 0 flags)) q, zeros_at 0 flags x (omega arith))
    go (no p) = omega (arith, beyond x (omega arith), zeros_beyond x 0 flags (omega arith))
