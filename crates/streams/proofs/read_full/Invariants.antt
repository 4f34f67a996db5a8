-- `read_full`: the first n bytes of the table are what the stream has given.
use Rattle.std.proofs.Common.{length, take, ◌-◌, ◌≡◌, ◌≤◌}
use Rattle.std.specs.Io.KnownBytes.{Consumes}
use Rattle.streams.proofs.read_full.Given as goal

abbrev pub invariant-loop-n : goal.invariant-loop-n
invariant-loop-n g l =
    (length l.buf ≡ length l.initial.buf) × (l.n ≤ length l.buf)
    × Consumes (g.R.Read.remaining l.initial.stream) (g.R.Read.remaining l.stream) (take l.n l.buf)

abbrev pub decreases-loop-n : goal.decreases-loop-n
decreases-loop-n g l = length l.initial.buf - l.n
