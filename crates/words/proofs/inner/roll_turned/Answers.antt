-- `roll_turned` meets its contract: the shifted pair stands before k - 1 letters, and both together are below 4 ^ k. Assumes nothing.
use mathlib.Core.Path.{ap}
use Prim.Native.Nat.{ℕ, ◌+◌, ◌-◌, ◌/◌}
use native.Mathlib.Omega.{arith}
use Rattle.words.proofs.Rolling.{shifted, turned_room}
use Rattle.words.proofs.inner.roll_turned.Goals as goal

pub overflow_add-result : goal.overflow_add-result
overflow_add-result c =
    omega (
      arith,
      shifted (c.args.k - 1) (3 - c.args.x) (omega arith) (omega arith),
      turned_room c.args.k c.args.c c.args.x (omega arith) (omega arith) c.requires.2,
    )

pub returns : goal.returns
returns c = ap (λ (n : ℕ). n + c.args.c / 4) (shifted (c.args.k - 1) (3 - c.args.x) (omega arith) (omega arith))
