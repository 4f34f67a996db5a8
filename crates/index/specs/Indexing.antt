-- INDEX: the collection is judged and looked through for repeated words, and its index is made.
-- Specification: 9.7.
use Rattle.index.specs.declared.Indexed.{Indexed}
use Rattle.collection.specs.declared.refusal.Refusal.TheVariants.{Room, Repeated}
use Rattle.collection.specs.declared.refusal.Refusal.{Refusal}
use Rattle.std.specs.Prelude.{◌&&◌, List, ℕ, ◌+◌, ◌*◌, ◌^◌, leb, length, take, replicate, Err, Result, Ok}
use Rattle.lists.specs.Choose.{choose}
use Rattle.lists.specs.Fill.{fill}
use Rattle.collection.specs.Collection.{Spelling, Collection, spelling_of}
use Rattle.collection.specs.Judge.{collection_verdict, kmers_in}
use Rattle.collection.specs.Verdict.{and_then, at_place, settle, Verdict, good}
use Rattle.repeats.specs.Check.{first_repeat}
use Rattle.index_minimizers.specs.Minimizer.{sizes_verdict, minimizer_at}
use Rattle.index_stretches.specs.Stretches.{stretches}
use Rattle.index_stretches.specs.Index.{Index, tables, indexed}

-- the five lent tables
pub record Lent : Type 0 where
  pub firsts : List ℕ
  pub positions : List ℕ
  pub numbers : List ℕ
  pub before : List ℕ
  pub work : List ℕ

abbrev pub lent : List ℕ → List ℕ → List ℕ → List ℕ → List ℕ → Lent
lent firsts positions numbers before work = record { firsts = firsts; positions = positions; numbers = numbers; before = before; work = work }

-- ─── the refusals ────────────────────────────────────────────────────────────

-- how many stretches there are
abbrev pub stretch_count : Spelling → ℕ → ℕ
stretch_count spelt p = length (stretches (minimizer_at spelt.k p spelt.letters) spelt.k spelt.ends)

-- 1: three tables have an entry for each of `count` stretches, the fourth d + 1, and work 4n
unfoldable pub rooms_verdict : ℕ → ℕ → ℕ → Lent → Verdict
rooms_verdict count d n t =
    choose
    (leb count (length t.firsts)
    && (leb count (length t.positions) && (leb count (length t.numbers) && (leb (d + 1) (length t.before) && leb (4 * n) (length t.work)))))
    good (Err Room)

-- 2, of k and p, then 3 to 6, then 1
unfoldable pub index_verdict : Collection → ℕ → Lent → Verdict
index_verdict c p t =
    and_then (sizes_verdict c.k p)
    (and_then (collection_verdict c)
    (rooms_verdict (stretch_count (spelling_of c) p) (4 ^ p) (kmers_in (spelling_of c)) t))

-- ─── the call ────────────────────────────────────────────────────────────────

-- so many stretches are filled into each of three tables, and so many entries into the fourth
abbrev pub filled : ℕ → ℕ → Result Indexed Refusal
filled count starts = Ok (record { stretches = count; starts = starts })

-- what the call answers, and what the lent tables hold afterwards
pub record Outcome : Type 0 where
  pub answer : Result Indexed Refusal
  pub after : Lent

abbrev pub outcome : Result Indexed Refusal → Lent → Outcome
outcome r t = record { answer = r; after = t }

-- work with its first 4n entries 0
abbrev pub cleared : ℕ → List ℕ → List ℕ
cleared n work = fill (replicate (4 * n) 0) work

-- the tables after a repeated word is found: work alone is written
abbrev pub untouched : ℕ → Lent → Lent
untouched n t = lent t.firsts t.positions t.numbers t.before (cleared n t.work)

-- the tables with the index in their first entries
abbrev pub holding : Index → ℕ → Lent → Lent
holding index n t =
    lent (fill index.firsts t.firsts) (fill index.positions t.positions) (fill index.numbers t.numbers) (fill index.before t.before)
    (cleared n t.work)

-- the index of a collection, by minimizers of p letters
abbrev pub index_with : Spelling → ℕ → Index
index_with spelt p = indexed (minimizer_at spelt.k p spelt.letters) (4 ^ p) spelt.k spelt.ends

-- the index in the first entries of the tables: so many stretches, and so many entries of the fourth
abbrev pub first_entries : ℕ → ℕ → Lent → Index
first_entries count starts t = tables (take count t.firsts) (take count t.positions) (take count t.numbers) (take starts t.before)

-- Refused by 2 to 6 or 1, all tables are as they were. With a repeated word, 7, work is zeroed and the others are as they were. Else the index fills the first
-- entries of its tables and work is zeroed; the answer says how many entries were filled in each of the three tables, and in the fourth.
unfoldable pub index_of : Collection → ℕ → Lent → Outcome
index_of c p t =
    settle (index_verdict c p t) (λ r. outcome (Err r) t)
    (settle (at_place Repeated (first_repeat (spelling_of c))) (λ r. outcome (Err r) (untouched (kmers_in (spelling_of c)) t))
    (outcome (filled (stretch_count (spelling_of c) p) (4 ^ p + 1)) (holding (index_with (spelling_of c) p) (kmers_in (spelling_of c)) t)))
