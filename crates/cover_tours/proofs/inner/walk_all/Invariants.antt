-- `walk_all` meets its contract: the walk from the hub, then a visit to each string. The loop's invariant: the first i strings are used.
use mathlib.Core.Path.{◌≡◌}
use Prim.Native.Nat.{ℕ, ◌≤◌, ◌<◌}
use lib.ListN.{get_or}
use Rattle.cover_tours.specs.Layout.{Fits, tables}
use Rattle.cover_tours.specs.States.{Same, Touring}
use Rattle.cover_tours.proofs.inner.walk_all.Given as goal

abbrev pub invariant-loop-i : goal.invariant-loop-i
invariant-loop-i l =
    let now = tables l.m l.work in
    record {
      fits : Fits l.m l.work;
      few : l.tour.walks ≤ l.i;
      same : Same (tables l.m l.initial.work) now;
      touring : Touring l.m now l.tour.start l.tour.walks;
      visited : (e : ℕ) → e < l.i → get_or now.used e 0 ≡ 0 → ⊥;
    }
