-- `weights_length` meets its contract. Invariant: what is counted and the length of the weights left are the length of all. Assumes nothing.
use mathlib.Core.Path.{◌≡◌}
use Prim.Native.Nat.{◌+◌, ◌*◌, ◌≤◌}
use lib.ListN.{length, drop}
use Rattle.sheet.specs.Text.{weights_text}
use Rattle.sheet_write.proofs.writing.weights_length.Given as goal

abbrev pub invariant-loop-w : goal.invariant-loop-w
invariant-loop-w l = (l.n ≤ 21 * l.w-index) × (l.n + length (weights_text (drop l.w-index l.weights)) ≡ length (weights_text l.weights))
