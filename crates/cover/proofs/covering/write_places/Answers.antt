-- `write_places` meets its contract: each turn is one half (proofs/PlacedHalves).
use mathlib.Core.Path.{ap, ◌∙◌}
use mathlib.Core.List.{List}
use Prim.Native.Nat.{ℕ}
use Rattle.cover.specs.Covering.{place_all}
use Rattle.cover.proofs.PlacedHalves.{giving_on, giving_end, halves_from}
use Rattle.cover.proofs.covering.write_places.Goals as goal

pub loop-c-preserved : goal.loop-c-preserved
loop-c-preserved c = let p = c.place_one-n.ensures in giving_on c.loop-c.invariant c.loop-c-test.true p.0 p.1

pub returns : goal.returns
returns c =
    let a = c.args in
    giving_end c.loop-c.invariant c.loop-c-test.false ∙ ap (λ (cs : List ℕ). place_all a.m 0 cs a.places.now) (halves_from a.m a.start a.work.now)
