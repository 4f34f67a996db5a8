-- `is_run_list` meets its contract. Invariant: what was seen and the test of the runs that are left together are the test of all. Assumes nothing.
use Rattle.std.specs.Iterator.Adapters.{zip_first, zip_second}
use Rattle.std.specs.Slice.Iter.{iter_rest}
use Rattle.weight.specs.RunList.{is_run_list}
use Rattle.weight.proofs.Followed.{Judging}
use Rattle.weight.proofs.judging.is_run_list.Given as goal

abbrev pub invariant-loop-v : goal.invariant-loop-v
invariant-loop-v l =
    Judging l.n (is_run_list l.n l.list.weights.now l.list.firsts.now) l.good l.w l.f (iter_rest (zip_first l.v-iterator)) (iter_rest (zip_second l.v-iterator))
