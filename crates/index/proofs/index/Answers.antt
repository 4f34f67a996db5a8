-- `index` meets its contract: the answer foreseen, then the search for a repeated word and the index (proofs/Ways). Assumes nothing.
use mathlib.Core.Path.{sym, ap, subst, ◌∙◌}
use lib.ListN.{length}
use Rattle.collection.specs.Collection.{Spelling}
use Rattle.collection.specs.Lent.{collection_in}
use Rattle.index.specs.Indexing.{lent}
use Rattle.index.specs.Judged.{Judged, judged_of}
use Rattle.index.proofs.Ways.{lent_sized, foreseen_judged, index_goes_on}
use Rattle.index.proofs.index.Goals as goal

pub index_judged-requires : goal.index_judged-requires
index_judged-requires c =
    let a = c.args in
    let t = lent a.firsts.now a.positions.now a.numbers.now a.before.now a.work.now in
    subst (λ (x : Spelling). Judged x a.p (length a.given.weights.now) c.in_ok-counts.counts.stretches t) (sym c.spelling.ensures)
    (foreseen_judged (collection_in a.given) a.p t (c.foresee.ensures t (lent_sized t)) c.in_ok-counts.was)

pub returns : goal.returns
returns c =
    let a = c.args in
    let t = lent a.firsts.now a.positions.now a.numbers.now a.before.now a.work.now in
    index_goes_on (collection_in a.given) a.p t (c.foresee.ensures t (lent_sized t)) c.in_ok-counts.was
    (c.index_judged.ensures ∙ ap (λ (x : Spelling). judged_of x a.p (length a.given.weights.now) t) c.spelling.ensures)
