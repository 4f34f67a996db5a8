-- Inner: the answer where no word repeats, what 2 to 6 and 1 leave to do, and what that comes to.
use Rattle.index.specs.declared.Indexed.{Indexed}
use Rattle.collection.specs.declared.refusal.Refusal.TheVariants.{Repeated}
use Rattle.collection.specs.declared.refusal.Refusal.{Refusal}
use Rattle.std.specs.Prelude.{◌≡◌, ℕ, ◌+◌, ◌*◌, ◌^◌, ◌≤◌, length, Err, Result}
use Rattle.lists.specs.Fill.{fill}
use Rattle.lists.specs.Regions.{Only}
use Rattle.collection.specs.Collection.{Spelling, Collection, spelling_of}
use Rattle.collection.specs.Kmers.{kmers}
use Rattle.collection.specs.Verdict.{at_place, settle}
use Rattle.collection.specs.Ready.{Ready}
use Rattle.repeats.specs.Check.{first_repeat}
use Rattle.index_stretches.specs.Index.{Index}
use Rattle.index.specs.Indexing.{Lent, stretch_count, index_verdict, Outcome, outcome, untouched, holding, index_with, filled}

-- five tables of these sizes
pub record Sized (t : Lent) (firsts positions numbers before work : ℕ) : Type 0 where
  pub firsts_size : length t.firsts ≡ firsts
  pub positions_size : length t.positions ≡ positions
  pub numbers_size : length t.numbers ≡ numbers
  pub before_size : length t.before ≡ before
  pub work_size : length t.work ≡ work

-- the answer where no word repeats
unfoldable pub foreseen : Collection → ℕ → Lent → Result Indexed Refusal
foreseen c p t = settle (index_verdict c p t) Err (filled (stretch_count (spelling_of c) p) (4 ^ p + 1))

-- what 2 to 6 and 1 leave: n k-mers in m stretches, and room for them
pub record Judged (spelt : Spelling) (p : ℕ) (n m : ℕ) (t : Lent) : Type 0 where
  pub ready : Ready spelt
  pub p_low : 1 ≤ p
  pub p_high : p ≤ 8
  pub p_fits : p ≤ spelt.k
  pub each : n ≡ length (kmers spelt.k spelt.ends)
  pub counted : m ≡ stretch_count spelt p
  pub firsts_room : m ≤ length t.firsts
  pub positions_room : m ≤ length t.positions
  pub numbers_room : m ≤ length t.numbers
  pub before_room : 4 ^ p + 1 ≤ length t.before
  pub work_room : 4 * n ≤ length t.work

-- the tables t hold the index in their first entries; of work nothing but the first 4n entries is written
pub record Held (index : Index) (n : ℕ) (t t' : Lent) : Type 0 where
  pub firsts_held : t'.firsts ≡ fill index.firsts t.firsts
  pub positions_held : t'.positions ≡ fill index.positions t.positions
  pub numbers_held : t'.numbers ≡ fill index.numbers t.numbers
  pub before_held : t'.before ≡ fill index.before t.before
  pub rest : Only 0 (4 * n) t.work t'.work

-- 7, or the index of n k-mers
unfoldable pub judged_of : Spelling → ℕ → ℕ → Lent → Outcome
judged_of spelt p n t =
    settle (at_place Repeated (first_repeat spelt)) (λ r. outcome (Err r) (untouched n t))
    (outcome (filled (stretch_count spelt p) (4 ^ p + 1)) (holding (index_with spelt p) n t))
