-- `step` meets its contract: the state that it makes is `stepped`'s, where `fits_next` and `found_next` give what they promise. Assumes nothing.
use mathlib.Core.Path.{ap₂}
use mathlib.Core.Bool.{Bool, true, ◌&&◌}
use Prim.Native.Nat.{ℕ}
use Rattle.weight_records.specs.declared.Run.{Run}
use Rattle.weight_records.specs.declared.State.{State}
use Rattle.weight_records.proofs.step.Goals as goal

-- the state that is made of what the two gave
abbrev made : State → Run → Bool → ℕ → State
made s r fit found = record { good = s.good && fit; begun = true; weight = r.weight; first = r.first; found = found; n = s.n; handle = s.handle }

pub returns : goal.returns
returns c =
    let a = c.args in
    ap₂ (made a.s a.r) c.fits_next-fit.ensures c.found_next-found.ensures
