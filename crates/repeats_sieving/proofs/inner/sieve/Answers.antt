-- `sieve` meets its contract: each sieve leaves, of ids of one code, none or all. Assumes nothing.
use Rattle.std.proofs.Common.{◌≡◌, ◌+◌, ◌/◌, ◌^◌, ◌<◌, List, ℕ, length, take, ap, ◌∙◌, arith}
use Rattle.std.proofs.lemmas.List.{length-take-le, take-append-le}
use Rattle.lists.specs.Every.{All}
use Rattle.lists.proofs.Count.{length_count}
use Rattle.sorting.specs.Keys.{code_at}
use Rattle.repeats_sieving.specs.Kept.{Sieved}
use Rattle.repeats_sieving.specs.Slots.{Sifting}
use Rattle.repeats_sieving.proofs.Sifting.{kept_few, sieved_next}
use Rattle.repeats_sieving.proofs.Kept.{sieved_all}
use Rattle.repeats_sieving.proofs.inner.sieve.Goals as goal
use Rattle.repeats_sieving.proofs.inner.sieve.Goals.{After-sift-m}

-- counters for so many ids, and constants
sifting : {hi lo ids : List ℕ} {entries : ℕ} (a c : ℕ) → length hi < 2 ^ 24 → length lo ≡ length hi → All (λ x. x < length hi) ids → a < 2 ^ 31 → c < 2 ^ 31
    → entries ≡ (length hi + 3) / 4 → Sifting hi lo ids entries a c
sifting a c few halves inside la lc e =
    record { halves = halves; inside = inside; some = λ p. omega arith; few = omega arith; a_low = la; c_low = lc }

-- what the first sieve leaves
first : (c : After-sift-m) → Sieved (code_at c.args.hi.now c.args.lo.now) (length c.args.hi.now) (take c.sift-m.result c.sift-m.new.ids)
first c = sieved_next c.args.hi.now c.args.lo.now _ _ _ (λ i. omega (arith, c.type_inv.lo i)) (rw c.requires.numbered (sieved_all _ _)) c.sift-m.ensures

pub sift-m-requires : goal.sift-m-requires
sift-m-requires c =
    let all = (sieved_all (code_at c.args.hi.now c.args.lo.now) (length c.args.hi.now)).inside in
    sifting _ _ c.requires.sizes.0 c.requires.sizes.1 (rw c.requires.numbered all) (omega arith) (omega arith) (length-take-le _ c.args.buf.now (omega arith))

pub returns-then-m-n-clause-few : goal.returns-then-m-n-clause-few
returns-then-m-n-clause-few c = omega (arith, kept_few c.sift-m.ensures, ap length c.requires.numbered, length_count)

pub returns-then-m-n-clause-sieved : goal.returns-then-m-n-clause-sieved
returns-then-m-n-clause-sieved c = first (goal.at.returns-then-m-n-clause-sieved c).After-sift-m

pub sift-requires : goal.sift-requires
sift-requires c =
    let all = (first (goal.at.sift-requires c).After-sift-m).inside in
    sifting _ _ c.requires.sizes.0 c.requires.sizes.1 all (omega arith) (omega arith) (c.sift-m.auto.table ∙ length-take-le _ c.args.buf.now (omega arith))

pub returns-clause-sieved : goal.returns-clause-sieved
returns-clause-sieved c =
    let few = kept_few c.sift.ensures in
    rw take-append-le
    (sieved_next c.args.hi.now c.args.lo.now _ _ _ (λ i. omega (arith, c.type_inv.lo i)) (first (goal.at.returns-clause-sieved c).After-sift-m) c.sift.ensures)
