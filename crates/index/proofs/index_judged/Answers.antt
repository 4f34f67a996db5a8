-- `index_judged` meets its contract: a repeated word is refused, else the index is made; work is zeroed (proofs/Ways). Assumes nothing.
use mathlib.Core.Path.{ap}
use Prim.Native.Nat.{ℕ, ◌+◌}
use Rattle.index.specs.Indexing.{lent}
use Rattle.index.proofs.Ways.{repeat_refused, index_made_lem}
use Rattle.index.proofs.index_judged.Goals as goal

pub returns-then-repeated : goal.returns-then-repeated
returns-then-repeated c =
    let a = c.args in
    repeat_refused (lent a.firsts.now a.positions.now a.numbers.now a.before.now a.work.now) c.requires c.first_repeat-repeat.ensures
    c.if-repeated.true c.zero_first.ensures

pub returns : goal.returns
returns c =
    index_made_lem (lent c.args.firsts.now c.args.positions.now c.args.numbers.now c.args.before.now c.args.work.now) c.requires
    c.first_repeat-repeat.ensures c.build.ensures c.if-repeated.false c.zero_first-2.ensures (ap (λ (d : ℕ). d + 1) c.word_count-starts.ensures)
