-- What `tally` says of a sheet: the refusal that comes first, or nine numbers of its collection.
-- Specification: 10.1, 10.2.
use Rattle.collection.specs.declared.refusal.Refusal.TheVariants.{Limits, Repeated}
use Rattle.collection.specs.declared.refusal.Refusal.{Refusal}
use Rattle.std.specs.Prelude.{List, ℕ, leb, length, Ok, Err, Result}
use Rattle.lists.specs.Choose.{choose}
use Rattle.lists.specs.Count.{sum}
use Rattle.collection.specs.Collection.{Collection, spelling_of}
use Rattle.collection.specs.Judge.{size_verdict}
use Rattle.collection.specs.Strings.{joined}
use Rattle.collection.specs.Verdict.{and_then, at_place, settle, Verdict, good}
use Rattle.collection.specs.EndWeights.{end_weights}
use Rattle.sheet.specs.Read.{sheet_n, sheet_m}
use Rattle.sheet.specs.Sheet.{sheet_k, sheet_strings, sheet_verdict}
use Rattle.repeats.specs.Check.{first_repeat}
use Rattle.cover_trails.specs.Groups.{least}
use Rattle.runs.specs.Runs.{run_count, inner_runs}
use Rattle.cover_fewest.specs.Fewest.{least_runs}
use Rattle.summary_counts.specs.Counts.{distinct, bits_of}
use Rattle.summary_text.specs.declared.Numbers.{Numbers}

-- ─── the numbers of a collection ─────────────────────────────────────────────

-- `inner` is R, `given` the runs as given, `paths` E + O/2, `least` R - m + E + O/2
unfoldable pub numbers_of : Collection → Numbers
numbers_of c =
    record {
      strings = length c.ends;
      kmers = length c.weights;
      total = sum c.weights;
      inner = inner_runs c;
      given = run_count c.weights;
      paths = least (end_weights c);
      least = least_runs c;
      distinct = distinct c.weights;
      bits = bits_of c.weights;
    }

-- a judged collection: 7 at the first repeated word, or its numbers
unfoldable pub checked_of : Collection → Result Numbers Refusal
checked_of c = settle (at_place Repeated (first_repeat (spelling_of c))) Err (Ok (numbers_of c))

-- ─── a sheet ─────────────────────────────────────────────────────────────────

-- `tally` takes a sheet of at most so many bytes
abbrev pub most_bytes : ℕ
most_bytes = 8192

-- 3: more than 8,192 bytes
unfoldable pub long_verdict : List ℕ → Verdict
long_verdict bs = choose (leb (length bs) most_bytes) good (Err Limits)

-- READ's refusals: the lines (11, 2, 11), then 3. Not 1: a sheet of 8,192 bytes fits the tables.
unfoldable pub lines_verdict : List ℕ → Verdict
lines_verdict bs = and_then (sheet_verdict bs) (size_verdict (sheet_n bs) (sheet_m bs))

-- the length, then READ, then CHECK; COVER refuses nothing that these accept
unfoldable pub summary_of : List ℕ → Result Numbers Refusal
summary_of bs =
    settle (and_then (long_verdict bs) (lines_verdict bs)) Err
    (checked_of (joined (sheet_k bs) (sheet_strings bs)))
