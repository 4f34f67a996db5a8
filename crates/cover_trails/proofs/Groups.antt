-- The computed names are equal exactly where a chain of strings joins two weights.
-- A name is the same at both ends of each string, so a chain keeps it; and what each string carries from end to end holds of a whole group.
use mathlib.Core.Path.{◌≡◌, refl, ap, sym, ◌∙◌, subst}
use mathlib.Core.Bool.{Bool, true, false}
use mathlib.Core.List.{List, [], ◌∷◌, Memᴰ}
use Prim.Native.Nat.{ℕ, ◌≤◌, ◌<◌}
use native.Mathlib.Decide.{ℕ_discrete}
use lib.Dec.{eqb}
use borrow.Author.Tests.{eq-eqb, ne_eqb}
use Rattle.lists.specs.Choose.{choose}
use Rattle.lists.specs.Every.{All}
use Rattle.lists.proofs.Every.{all_map}
use Rattle.cover_trails.specs.Counting.{occurs}
use Rattle.cover_trails.specs.Strings.{Ends, front, back, weights}
use Rattle.cover_trails.specs.Groups.{Joined, start, ahead, behind, name_of}
use Rattle.cover_trails.specs.Walks.{Reordered}
use Rattle.cover_trails.proofs.Orders.{all-reordered, reordered-back, all_weights, EndsBelow}

-- ─── names ───────────────────────────────────────────────────────────────────

-- each string has one name at both ends
abbrev pub Level : (ℕ → ℕ) → List Ends → Type 0
Level name L = All (λ s. name (front s) ≡ name (back s)) L

choose-same : (t : Bool) (a : ℕ) → choose t a a ≡ a
choose-same true a = refl
choose-same false a = refl

-- the names are level
pub name_level : (strings : List Ends) → Level (name_of strings) strings
unfolding name_of
name_level [] = tt
name_level (s ∷ strings) =
    let again : ℕ → ℕ = λ l. choose (eqb l (name_of strings (back s))) (name_of strings (front s)) l in (
      rw (choose-same, eq-eqb (name_of strings (back s)) (name_of strings (back s)) refl),
      all_map (λ t e. ap again e) strings (name_level strings),
    )

-- and stay so in another order
pub level_reordered : (name : ℕ → ℕ) {L M : List Ends} → Reordered L M → Level name L → Level name M
level_reordered name = all-reordered (λ s. name (front s) ≡ name (back s)) (λ s e. sym e)

module _ (s : Ends) (strings : List Ends) (w : ℕ) where
  name_joined : name_of strings w ≡ name_of strings (back s) → name_of (s ∷ strings) w ≡ name_of strings (front s)
  unfolding name_of
  name_joined h = rw (eq-eqb (name_of strings w) (name_of strings (back s)) h)

  name_other : (name_of strings w ≡ name_of strings (back s) → ⊥) → name_of (s ∷ strings) w ≡ name_of strings w
  unfolding name_of
  name_other h = rw (ne_eqb (name_of strings w) (name_of strings (back s)) h)

-- a name names itself
pub name_of_name : (strings : List Ends) (w : ℕ) → name_of strings (name_of strings w) ≡ name_of strings w
unfolding name_of
name_of_name [] w = refl
name_of_name (s ∷ strings) w = go (ℕ_discrete (name_of strings w) (name_of strings (back s))) (name_of_name strings)
  where
    front_name : ((v : ℕ) → name_of strings (name_of strings v) ≡ name_of strings v)
        → Dec (name_of strings (name_of strings (front s)) ≡ name_of strings (back s))
        → name_of (s ∷ strings) (name_of strings (front s)) ≡ name_of strings (front s)
    front_name ih (yes e) = name_joined s strings (name_of strings (front s)) e
    front_name ih (no q) = name_other s strings (name_of strings (front s)) q ∙ ih (front s)

    go : Dec (name_of strings w ≡ name_of strings (back s)) → ((v : ℕ) → name_of strings (name_of strings v) ≡ name_of strings v)
        → name_of (s ∷ strings) (name_of (s ∷ strings) w) ≡ name_of (s ∷ strings) w
    go (yes e) ih =
        let r : name_of (s ∷ strings) w ≡ name_of strings (front s) = name_joined s strings w e in
        ap (name_of (s ∷ strings)) r ∙ front_name ih (ℕ_discrete (name_of strings (name_of strings (front s))) (name_of strings (back s))) ∙ sym r
    go (no q) ih =
        let r : name_of (s ∷ strings) w ≡ name_of strings w = name_other s strings w q in
        ap (name_of (s ∷ strings)) r ∙ name_other s strings (name_of strings w) (λ e. q (sym (ih w) ∙ e)) ∙ ih w ∙ sym r

-- names are below every bound of the weights
pub name_below : (n : ℕ) (strings : List Ends) → EndsBelow n strings → (w : ℕ) → w < n → name_of strings w < n
unfolding weights name_of
name_below n [] h w l = l
name_below n (s ∷ strings) h w l = go (eqb (name_of strings w) (name_of strings (back s))) (name_below n strings h.1.1)
  where
    go : (t : Bool) → ((w : ℕ) → w < n → name_of strings w < n) → choose t (name_of strings (front s)) (name_of strings w) < n
    go true ih = ih (front s) h.0
    go false ih = ih w l

-- ─── what each string carries ────────────────────────────────────────────────

-- the string has P at both its ends or at none
abbrev pub Carries : (ℕ → Type 0) → Ends → Type 0
Carries P s = (P (front s) → P (back s)) × (P (back s) → P (front s))

-- each of the strings has
abbrev pub Carried : (ℕ → Type 0) → List Ends → Type 0
Carried P L = All (Carries P) L

-- then a whole group has it or none of it
pub carried_group : (P : ℕ → Type 0) (strings : List Ends) → Carried P strings → (w v : ℕ) → name_of strings w ≡ name_of strings v → P w → P v
unfolding name_of
carried_group P [] k w v h p = subst P h p
carried_group P (s ∷ strings) k w v h p =
    go (ℕ_discrete (name_of strings w) (name_of strings (back s))) (ℕ_discrete (name_of strings v) (name_of strings (back s))) (carried_group P strings k.1)
  where
    go : Dec (name_of strings w ≡ name_of strings (back s)) → Dec (name_of strings v ≡ name_of strings (back s))
        → ((a b : ℕ) → name_of strings a ≡ name_of strings b → P a → P b) → P v
    go (yes a) (yes b) ih = ih w v (a ∙ sym b) p
    go (yes a) (no b) ih = ih (front s) v (sym (name_joined s strings w a) ∙ h ∙ name_other s strings v b) (k.0.1 (ih w (back s) a p))
    go (no a) (yes b) ih = ih (back s) v (sym b) (k.0.0 (ih w (front s) (sym (name_other s strings w a) ∙ h ∙ name_joined s strings v b) p))
    go (no a) (no b) ih = ih w v (sym (name_other s strings w a) ∙ h ∙ name_other s strings v b) p

module _ (P : ℕ → Type 0) where
  -- what is carried in one order is carried in the other
  pub carried_back : {L M : List Ends} → Reordered L M → Carried P M → Carried P L
  carried_back r = all-reordered (Carries P) (λ s k. (k.1, k.0)) (reordered-back r)

  -- P of all end weights, or of none of them
  pub carried_all : (L : List Ends) → ((w : ℕ) → 1 ≤ occurs w (weights L) → P w) → Carried P L
  carried_all L h = all_map (λ s k. (λ p. k.1, λ p. k.0)) L (all_weights P L h)

  pub carried_none : (L : List Ends) → ((w : ℕ) → 1 ≤ occurs w (weights L) → P w → ⊥) → Carried P L
  carried_none L h = all_map (λ s k. (λ p. absurd (k.0 p), λ p. absurd (k.1 p))) L (all_weights (λ w. P w → ⊥) L h)

-- ─── names and chains ────────────────────────────────────────────────────────

level_member : (name : ℕ → ℕ) (L : List Ends) → Level name L → {a b : ℕ} → Memᴰ (a, b) L → name a ≡ name b
level_member name L h {a} {b} m = go (a, b) m h
  where
    go : (s : Ends) {L : List Ends} → Memᴰ s L → Level name L → name (front s) ≡ name (back s)
    go s (Memᴰ.head q) h = ap (λ (t : Ends). name (front t)) q ∙ h.0 ∙ sym (ap (λ (t : Ends). name (back t)) q)
    go s (Memᴰ.tail m) h = go s m h.1

-- joined weights have one name
pub joined-same_name : (strings : List Ends) {w v : ℕ} → Joined strings w v → name_of strings w ≡ name_of strings v
joined-same_name strings start = refl
joined-same_name strings (ahead j m) = joined-same_name strings j ∙ level_member (name_of strings) strings (name_level strings) m
joined-same_name strings (behind j m) = joined-same_name strings j ∙ sym (level_member (name_of strings) strings (name_level strings) m)

chain_carried : (strings L : List Ends) (w : ℕ) → ((s : Ends) → Memᴰ s L → Memᴰ s strings) → Carried (Joined strings w) L
chain_carried strings [] w h = tt
chain_carried strings (s ∷ L) w h = (
  (λ j. ahead j (h s (Memᴰ.head refl)), λ j. behind j (h s (Memᴰ.head refl))),
  chain_carried strings L w (λ t m. h t (Memᴰ.tail m)),
)

-- weights of one name are joined
pub same_name_joined : (strings : List Ends) (w v : ℕ) → name_of strings w ≡ name_of strings v → Joined strings w v
same_name_joined strings w v h = carried_group (Joined strings w) strings (chain_carried strings strings w (λ t m. m)) w v h start

-- the name of a group is one of its weights
pub joined_name : (strings : List Ends) (w : ℕ) → Joined strings w (name_of strings w)
joined_name strings w = same_name_joined strings w (name_of strings w) (sym (name_of_name strings w))
