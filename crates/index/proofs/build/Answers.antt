-- `build` meets its contract: the stretches cut, then ordered by their minimizers (proofs/Built). Assumes nothing.
use mathlib.Core.Path.{sym}
use Rattle.index.specs.Indexing.{lent}
use Rattle.index.proofs.Built.{lent_size, room4, cut_orderable, cut_low, cut_room, index_built}
use Rattle.index.proofs.build.Goals as goal

pub slice_bounds-cut_all-end-2 : goal.slice_bounds-cut_all-end-2
slice_bounds-cut_all-end-2 c =
    let a = c.args in sym (lent_size (lent a.firsts.now a.positions.now a.numbers.now a.before.now a.work.now) c.requires)

pub cut_all-requires-clause-room4 : goal.cut_all-requires-clause-room4
cut_all-requires-clause-room4 c = let a = c.args in room4 (lent a.firsts.now a.positions.now a.numbers.now a.before.now a.work.now) c.requires

pub arrange-requires : goal.arrange-requires
arrange-requires c =
    let a = c.args in
    let t = lent a.firsts.now a.positions.now a.numbers.now a.before.now a.work.now in
    let cut = c.cut_all.ensures in
    record { orderable = cut_orderable t c.requires cut; all = (cut_low t c.requires cut, cut_room t c.requires cut) }

pub returns : goal.returns
returns c =
    let a = c.args in index_built (lent a.firsts.now a.positions.now a.numbers.now a.before.now a.work.now) c.requires c.cut_all.ensures c.arrange.ensures
