-- `write_places` meets its contract: each turn is one half (proofs/PlacedHalves).
use Rattle.cover.proofs.PlacedHalves.{Giving}
use Rattle.cover.proofs.covering.write_places.Given as goal

abbrev pub invariant-loop-c : goal.invariant-loop-c
invariant-loop-c l = Giving l.m l.c-items l.initial.places l.places l.n l.c-index
