-- `number_at` meets its contract. Invariant: the walk from here on, with the value so far, finds the number; beyond the text no digit has been read. Assumes
-- nothing.
use Prim.Native.Nat.{◌<◌, ◌≤◌}
use mathlib.Core.Path.{◌≡◌}
use lib.ListN.{length, drop}
use Rattle.text.specs.Fields.{field, number_at}
use Rattle.text.proofs.OneNumber.{number_from}
use Rattle.text.proofs.inner.number_at.Given as goal

abbrev pub invariant-loop-i : goal.invariant-loop-i
invariant-loop-i l = record {
  small : l.v ≤ l.most;
  finds : number_at l.sep l.most l.s l.at ≡ number_from l.most l.v l.i (field l.sep (drop l.i l.s));
  unread : length l.s < l.i → l.v ≡ 0;
}
