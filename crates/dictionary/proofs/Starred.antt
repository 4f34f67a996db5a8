-- The starred examples hold, by computing. Assumes nothing.
use mathlib.Core.Path.{◌≡◌, refl, ap}
use mathlib.Core.List.{[], ◌∷◌}
use Rattle.collection.specs.declared.refusal.Refusal.TheVariants.{Weights}
use Rattle.collection.specs.declared.refusal.Refusal.{Refusal}
use Rattle.std.specs.Prelude.{Ok, Err, Result, Some}
use Rattle.lists.specs.Count.{count_from, sum, agree}
use Rattle.lists.specs.Every.{every, same}
use Rattle.lists.specs.First.{first_from}
use Rattle.lists.specs.Pick.{pick, up_to}
use Rattle.alphabet.specs.Letter.{letter, is_letter, capital}
use Rattle.words.specs.Word.{code_from, turn}
use Rattle.collection.specs.Collection.{collection}
use Rattle.collection.specs.Judge.{
  k_verdict,
  size_verdict,
  ends_verdict,
  shape_verdict,
  letters_verdict,
  weights_verdict,
  collection_verdict,
  word_verdict,
  handle_verdict,
}
use Rattle.collection_faults.specs.Faults.{first_short, last_end}
use Rattle.collection.specs.Strings.{strings_from, letters_in, ends_in, weights_in}
use Rattle.collection.specs.Verdict.{and_then, at_place, settle, good}
use Rattle.text.specs.Numbers.{value_from}
use Rattle.text.specs.Parts.{up_to as part_up_to, later}
use Rattle.sheet.specs.Sheet.{sheet_k, sheet_strings, strings_of}
use Rattle.cover_trails.specs.Groups.{least}
use Rattle.cover_trails.specs.Places.{standing, arranged_to}
use Rattle.apply_places.specs.Places.{bad_place, first_bad, places_verdict}
use Rattle.apply_strings.specs.Turned.{turn_letters}
use Rattle.runs.specs.Runs.{later_runs, runs, inner_runs, weights_of_runs, firsts_of_runs}
use Rattle.weight.specs.RunList.{all_follow, is_run_list, run_list_verdict, last_at}
use Rattle.weight.specs.Weight.{weight_answer}
use Rattle.index_minimizers.specs.Minimizer.{sizes_verdict, smallest, minimizer}
use Rattle.index_stretches.specs.Stretches.{numbered, walk, open_from, of_string, stretches_from}
use Rattle.apply_strings.specs.Reordered.{reordered}
use Rattle.collection.specs.declared.Side.TheVariants.{Turned}
use Rattle.collection.specs.EndWeights.{end_weights}
use Rattle.quick.specs.declared.QuickAnswer.{QuickAnswer}
use Rattle.quick.specs.declared.QuickAnswer.TheVariants.{Found, Absent}
use Rattle.index_stretches.specs.Index.{built, entries, row_of, stretch_fits, row_fits, tables_fit}
use Rattle.quick_walks.specs.Walk.{is_word, seek}
use Rattle.quick.specs.Quick.{met_or, quick_found, rows_verdict, ask_verdict, quick_verdict, quick_of}
use Rattle.quick.specs.Weighed.{weighs, weighed_of}
use Rattle.dictionary.specs.Starred.{Starred, bytes, sheet, letters, ends, weights, places, letters', ends', weights', asked, weighed}

-- ─── the sheet and the reordered collection ──────────────────────────────────

read : (sheet_k sheet ≡ 3) × (letters_in (sheet_strings sheet) ≡ letters) × (ends_in 0 (sheet_strings sheet) ≡ ends)
    × (weights_in (sheet_strings sheet) ≡ weights)
unfolding part_up_to later strings_of value_from letters_in ends_in weights_in
read = (refl, refl, refl, refl)

turned : (letters_in (reordered (collection 3 letters ends weights) places) ≡ letters')
    × (ends_in 0 (reordered (collection 3 letters ends weights) places) ≡ ends')
    × (weights_in (reordered (collection 3 letters ends weights) places) ≡ weights')
unfolding letters_in ends_in weights_in strings_from standing arranged_to turn_letters turn capital letter
turned = (refl, refl, refl)

-- ─── questions ───────────────────────────────────────────────────────────────

-- CAG, TTT and CCC
answered : (asked (bytes "CAG") ≡ Ok (Found 8 Turned 3)) × (asked (bytes "TTT") ≡ Ok (Found 1 Turned 1)) × (asked (bytes "CCC") ≡ Ok (Absent 0))
unfolding quick_of quick_verdict ask_verdict sizes_verdict k_verdict size_verdict word_verdict rows_verdict tables_fit row_fits stretch_fits row_of entries
    built up_to pick
    count_from stretches_from of_string open_from minimizer smallest code_from letter is_letter every same turn quick_found met_or seek is_word walk numbered
    and_then
    settle
answered = (refl, refl, refl)

cag_weighs : weighed (bytes "CAG") ≡ Ok (Some 7)
unfolding weighed_of weighs weight_answer run_list_verdict is_run_list all_follow last_at runs later_runs and_then settle handle_verdict
cag_weighs = ap (λ (a : Result QuickAnswer Refusal). weighed_of a (weights_of_runs weights') (firsts_of_runs weights') 10) answered.0

-- ─── verdicts ────────────────────────────────────────────────────────────────

-- a weight of 16,777,215, and one more
heaviest : (collection_verdict (collection 3 (bytes "ACG") (3 ∷ []) (16777215 ∷ [])) ≡ good)
    × (collection_verdict (collection 3 (bytes "ACG") (3 ∷ []) (16777216 ∷ [])) ≡ Err (Weights 1))
unfolding collection_verdict shape_verdict k_verdict size_verdict ends_verdict first_short last_end letters_verdict weights_verdict first_from is_letter
    letter and_then
    at_place
heaviest = (refl, refl)

-- ─── the list ────────────────────────────────────────────────────────────────

pub starred : Starred
unfolding least agree end_weights strings_from inner_runs runs later_runs sum open_from of_string minimizer smallest code_from letter k_verdict
    places_verdict first_bad
    bad_place at_place
starred =
    record {
      sheet_read = read;
      least_five = refl;
      applied = turned;
      runs_listed = refl;
      cag = (answered.0, cag_weighs);
      ttt = (1, answered.1);
      ccc = (0, answered.2);
      ggctg = (refl, refl, refl);
      without = (refl, refl);
      one_path = refl;
      two_paths = refl;
      no_strings = (refl, refl);
      heavy = heaviest.0;
      too_heavy = heaviest.1;
      longest = refl;
      place_used = refl;
    }
