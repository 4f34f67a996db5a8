-- `turned_code` meets its contract. Both loops keep one state: what is turned so far, and what the rest makes of it. Assumes nothing.
use mathlib.Core.Path.{refl}
use native.Mathlib.Omega.{arith}
use Rattle.lists.specs.Every.{every_from}
use Rattle.words.specs.Word.{code_from, turn}
use Rattle.words.specs.Turned.{spelled, turned_code, turns_four}
use Rattle.words.proofs.Turning.{turning_begins, turning_left, four_fit, four_turned, one_fits, one_turned, turning_ends}
use Rattle.words.proofs.inner.turned_code.Goals as goal

pub loop-init : goal.loop-init
unfolding turns_four turned_code every_from spelled turn code_from
loop-init c = record { table = refl; state = turning_left (omega arith) (turning_begins _ _ c.requires) }

pub overflow_mul-turned : goal.overflow_mul-turned
overflow_mul-turned c = omega (arith, four_fit _ _ _ _ _ c.loop.invariant.state (omega arith) _ refl)

pub overflow_add-turned : goal.overflow_add-turned
overflow_add-turned c = record { fits = four_fit _ _ _ _ _ c.loop.invariant.state (omega arith) _ c.looked_up.ensures }

pub loop-preserved : goal.loop-preserved
loop-preserved c = record {
  table = c.loop.invariant.table;
  state = turning_left (omega arith) (four_turned _ _ _ _ _ c.loop.invariant.state (omega arith) _ c.looked_up.ensures);
}

pub loop-2-init : goal.loop-2-init
loop-2-init c = turning_left (omega arith) c.loop.invariant.state

pub overflow_mul-turned-in-loop-2 : goal.overflow_mul-turned-in-loop-2
overflow_mul-turned-in-loop-2 c = omega (arith, one_fits _ _ _ _ _ c.loop-2.invariant (omega arith))

pub overflow_add-turned-in-loop-2 : goal.overflow_add-turned-in-loop-2
overflow_add-turned-in-loop-2 c = record { fits = one_fits _ _ _ _ _ c.loop-2.invariant (omega arith) }

pub loop-2-preserved : goal.loop-2-preserved
loop-2-preserved c = turning_left (omega arith) (one_turned _ _ _ _ _ c.loop-2.invariant (omega arith))

pub returns : goal.returns
returns c = turning_ends _ _ _ _ _ c.loop-2.invariant (omega arith)
