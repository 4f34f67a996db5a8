-- The sheet of the worked examples, and what `tally` writes of it. Assumes nothing.
use mathlib.Core.Path.{◌≡◌, refl, ap}
use mathlib.Core.List.{List, [], ◌∷◌, ◌++◌}
use Prim.Native.Nat.{ℕ}
use Rattle.std.specs.Prelude.{Ok, Result}
use Rattle.collection.specs.declared.refusal.Refusal.{Refusal}
use Rattle.lists.specs.Count.{count_from, sum, agree}
use Rattle.lists.specs.Every.{every, same}
use Rattle.lists.specs.First.{first_from}
use Rattle.alphabet.specs.Letter.{letter, is_letter}
use Rattle.words.specs.Word.{turn}
use Rattle.collection.specs.Judge.{k_verdict, size_verdict}
use Rattle.collection.specs.Kmers.{kmers_from}
use Rattle.collection.specs.Strings.{strings_from, letters_in, ends_in, weights_in}
use Rattle.collection.specs.Verdict.{and_then, at_place, settle}
use Rattle.collection.specs.EndWeights.{end_weights}
use Rattle.text.specs.Numbers.{is_number, value_from, digits_in, digits}
use Rattle.text.specs.Parts.{up_to, later}
use Rattle.sheet.specs.Sheet.{is_k_line, is_weight_field, is_string, is_string_line, strings_of, first_wrong, sheet_verdict}
use Rattle.repeats.specs.Check.{any_that, alike, repeated, first_repeat}
use Rattle.cover_trails.specs.Groups.{least}
use Rattle.runs.specs.Runs.{later_runs, runs, inner_runs}
use Rattle.summary_counts.specs.Counts.{is_in, fresh, distinct, largest, bits_from, bits_for, bits_of}
use Rattle.summary_text.specs.declared.Numbers.{Numbers}
use Rattle.summary_text.specs.Text.{entry, line, lines, counted_text, text_for}
use Rattle.summary.specs.Summary.{numbers_of, checked_of, long_verdict, lines_verdict, summary_of}
use Rattle.summary.specs.Report.{as_told, text_of}

-- the sheet, line by line
abbrev pub sheet : List ℕ
sheet =
    (75 ∷ 9 ∷ 51 ∷ 10 ∷ [])
    ++ ((83 ∷ 9 ∷ 65 ∷ 65 ∷ 65 ∷ 67 ∷ 67 ∷ 9 ∷ 50 ∷ 9 ∷ 50 ∷ 9 ∷ 53 ∷ 10 ∷ [])
    ++ ((83 ∷ 9 ∷ 65 ∷ 71 ∷ 65 ∷ 84 ∷ 9 ∷ 55 ∷ 9 ∷ 50 ∷ 10 ∷ [])
    ++ ((83 ∷ 9 ∷ 67 ∷ 65 ∷ 71 ∷ 67 ∷ 67 ∷ 9 ∷ 55 ∷ 9 ∷ 55 ∷ 9 ∷ 51 ∷ 10 ∷ [])
    ++ ((83 ∷ 9 ∷ 84 ∷ 65 ∷ 67 ∷ 65 ∷ 9 ∷ 51 ∷ 9 ∷ 53 ∷ 10 ∷ [])))))

-- its numbers
pub sheet_summary : summary_of sheet
    ≡ Ok (record { strings = 4; kmers = 10; total = 43; inner = 8; given = 7; paths = 1; least = 5; distinct = 4; bits = 12 })
unfolding summary_of long_verdict lines_verdict sheet_verdict size_verdict k_verdict and_then settle at_place up_to later is_k_line is_number value_from
    every is_weight_field
    is_string is_string_line strings_of first_wrong letter is_letter letters_in ends_in weights_in checked_of first_repeat first_from repeated any_that alike
    same turn
    kmers_from count_from numbers_of sum inner_runs runs later_runs strings_from end_weights least agree distinct fresh is_in bits_of bits_for bits_from largest
sheet_summary = refl

-- the nine lines that `tally` writes of it
abbrev pub text : List ℕ
text =
    (115 ∷ 116 ∷ 114 ∷ 105 ∷ 110 ∷ 103 ∷ 115 ∷ 9 ∷ 52 ∷ 10 ∷ [])
    ++ ((107 ∷ 109 ∷ 101 ∷ 114 ∷ 115 ∷ 9 ∷ 49 ∷ 48 ∷ 10 ∷ [])
    ++ ((116 ∷ 111 ∷ 116 ∷ 97 ∷ 108 ∷ 9 ∷ 52 ∷ 51 ∷ 10 ∷ [])
    ++ ((105 ∷ 110 ∷ 110 ∷ 101 ∷ 114 ∷ 9 ∷ 56 ∷ 10 ∷ [])
    ++ ((103 ∷ 105 ∷ 118 ∷ 101 ∷ 110 ∷ 9 ∷ 55 ∷ 10 ∷ [])
    ++ ((112 ∷ 97 ∷ 116 ∷ 104 ∷ 115 ∷ 9 ∷ 49 ∷ 10 ∷ [])
    ++ ((108 ∷ 101 ∷ 97 ∷ 115 ∷ 116 ∷ 9 ∷ 53 ∷ 10 ∷ [])
    ++ ((100 ∷ 105 ∷ 115 ∷ 116 ∷ 105 ∷ 110 ∷ 99 ∷ 116 ∷ 9 ∷ 52 ∷ 10 ∷ [])
    ++ ((98 ∷ 105 ∷ 116 ∷ 115 ∷ 9 ∷ 49 ∷ 50 ∷ 10 ∷ [])))))))))

-- the sheet gives them
pub sheet_text_lem : text_of sheet ≡ text
unfolding text_of as_told text_for counted_text lines line entry digits digits_in
sheet_text_lem = ap (λ (s : Result Numbers Refusal). text_for (as_told s)) sheet_summary
