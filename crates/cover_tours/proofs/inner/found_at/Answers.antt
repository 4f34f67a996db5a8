-- `found_at` meets its contract: the half where the search stopped, v's own spoke, or nothing that is unused.
use mathlib.Core.Path.{◌≡◌, sym, ap, subst, ◌∙◌}
use mathlib.Core.List.{List}
use Prim.Native.Nat.{ℕ, ◌+◌, ◌*◌, ◌<◌}
use native.Mathlib.Omega.{arith}
use lib.ListN.{get_or}
use Rattle.cover_tours.specs.Layout.{tables}
use Rattle.cover_tours.specs.Halves.{near}
use Rattle.cover_tours.specs.Rows.{Answer}
use Rattle.cover_tours.proofs.Regions.{used_at, row_at, used_size}
use Rattle.cover_tours.proofs.Rows.{present, absent, own_spoke}
use Rattle.cover_tours.proofs.inner.found_at.Goals as goal
use Rattle.cover_tours.proofs.inner.found_at.Goals.{then-e-m+else-x-v, else-e-m, then-v-m+else-work-m-eq0, else-v-m}

-- the flag of v's own spoke
own-flag : (m : ℕ) (w : List ℕ) (v : ℕ) → v < 2 * m → get_or w (3 * m + v) 0 ≡ get_or (tables m w).used (m + v) 0
own-flag m w v l = let e : 3 * m + v ≡ 2 * m + (m + v) = omega arith in rw e (used_at m w (m + v) (omega arith))

pub returns-then-x-v : goal.returns-then-x-v
returns-then-x-v c =
    let p = c.requires in
    let h = row_at _ _ _ c.if-e-m.true in
    let a = c.args in
    subst (Answer a.m (tables a.m a.work.now) a.v) (sym h)
    (present p.cursor p.sought p.graph c.if-e-m.true (sym (ap (near _ _) h) ∙ (sym c.near-x.ensures ∙ c.if-x-v.true)))

pub returns-then-work-m-eq0 : goal.returns-then-work-m-eq0
returns-then-work-m-eq0 c =
    let a = c.args in
    own_spoke a.m (tables a.m a.work.now) a.v c.if-v-m.true
    (sym (own-flag _ _ _ c.if-v-m.true) ∙ c.if-work-m-eq0.true)

pub returns : goal.returns
returns c =
    let p = c.requires in
    absent p.cursor p.sought p.graph (used_size p.fits.0)
    (λ l q. elim c.if-e-m.branch [ then-e-m+else-x-v w ↦ w.if-x-v.false (w.near-x.ensures ∙ (ap (near _ _) (row_at _ _ _ l) ∙ q)) | else-e-m w ↦ omega arith ])
    (λ l z. elim c.if-v-m.branch [ then-v-m+else-work-m-eq0 w ↦ w.if-work-m-eq0.false (own-flag _ _ _ l ∙ z) | else-v-m w ↦ omega arith ])
