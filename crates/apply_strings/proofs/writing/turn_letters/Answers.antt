-- `turn_letters` meets its contract: each step stores the pair of the last letter that is left. Assumes nothing.
use mathlib.Core.Path.{◌≡◌}
use mathlib.Core.List.{[], ◌∷◌, ◌++◌}
use Rattle.std.specs.Slice.Iter.{iter_rest}
use native.Mathlib.Omega.{arith}
use Rattle.std.proofs.lemmas.Grind.{common_steps}
use Rattle.lists.proofs.Every.{every-all}
use Rattle.lists.proofs.Storing.{begin, stored}
use Rattle.apply_strings.proofs.Turning.{length-turned, turned_store, turned_none}
use Rattle.apply_strings.proofs.writing.turn_letters.Goals as goal

pub loop-i-init : goal.loop-i-init
loop-i-init c = record { good = grind (arith, common_steps, every-all); storing = grind (arith, common_steps, length-turned, begin) }

pub loop-i-preserved : goal.loop-i-preserved
loop-i-preserved c =
    let rest = iter_rest c.next.new.self.iter.iter in
    let b = c.in-Some.letter.now in
    let w = c.loop-i.invariant in
    let e : iter_rest c.loop-i.i-iterator.iter.iter ≡ rest ++ (b ∷ []) = grind (arith, common_steps) in
    let t = turned_store rest b c.turned_letter.result e w.good c.turned_letter.ensures w.storing in
    record { good = t.0; storing = grind (arith, common_steps, t.1) }

pub returns : goal.returns
returns c = grind (arith, common_steps, turned_none, stored)
