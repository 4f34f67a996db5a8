-- `arrange` meets its contract: sieve and sort go by the codes that the tables hold. Assumes nothing.
use Rattle.std.proofs.Common.{◌≡◌, length, ◌∙◌, arith}
use Rattle.std.proofs.lemmas.List.{length-take-le, take_at}
use Rattle.repeats.proofs.Arranged.{few_kmers, arranged}
use Rattle.repeats.proofs.inner.arrange.Goals as goal

pub number_ids-requires : goal.number_ids-requires
number_ids-requires c = omega (arith, few_kmers c.requires.ready)

pub sieve-m-requires-clause-sizes : goal.sieve-m-requires-clause-sizes
sieve-m-requires-clause-sizes c = (omega (arith, few_kmers c.requires.ready), omega arith, omega arith)

pub sort_by_code-requires-clause-few : goal.sort_by_code-requires-clause-few
sort_by_code-requires-clause-few c =
    let l = few_kmers c.requires.ready in
    let m = length-take-le c.sieve-m.result c.sieve-m.new.ids (omega arith) in
    (omega arith, omega (arith, length-take-le c.sieve-m.result c.sieve-m.new.buf (omega arith)), omega arith)

pub returns-clause-ordered : goal.returns-clause-ordered
returns-clause-ordered c =
    let n : length c.sort_by_code.new.ids ≡ c.sieve-m.result = c.sort_by_code.auto.ids ∙ length-take-le c.sieve-m.result c.sieve-m.new.ids (omega arith) in
    rw (take_at c.sort_by_code.new.ids _ c.sieve-m.result n) (arranged _ _ _ _ _ _ _ c.code_all.ensures c.sieve-m.ensures.sieved c.sort_by_code.ensures.0)
