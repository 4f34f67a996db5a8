-- `tell_collection` meets its contract, by what CHECK and COVER answer. Assumes nothing.
use native.Mathlib.Omega.{arith}
use Rattle.std.proofs.lemmas.Result.{err_from_is_err_and}
use Rattle.summary.proofs.Checked.{weighed, words_refused, words_passed, strung, cover_refused, paths_low, numbers-told}
use Rattle.summary.proofs.inner.tell_collection.Goals as goal

pub returns-in_err-check_words : goal.returns-in_err-check_words
returns-in_err-check_words c =
    let p = err_from_is_err_and c.from_residual.result c.from_residual.ensures.1 in
    rw (p.1, p.2) (words_refused _ c.requires.passes c.check_words.ensures c.in_err-check_words.was)

pub returns-in_err-covered : goal.returns-in_err-covered
returns-in_err-covered c =
    cover_refused _ c.requires.passes c.cover.ensures c.requires.ends_in_bounds.0 (omega (arith, c.requires.ends_in_bounds.1)) c.in_err-covered.was

pub count_all-requires : goal.count_all-requires
count_all-requires c =
    let q = c.requires in record {
      strung = (strung _ q.passes, weighed _ q.passes);
      paths_in_bounds = (
        paths_low _ q.passes c.cover.ensures q.ends_in_bounds.0 (omega (arith, q.ends_in_bounds.1)) c.in_ok-covered.was,
        omega (arith, q.ends_in_bounds.2),
      );
    }

pub returns : goal.returns
returns c =
    let q = c.requires in
    words_passed _ q.passes c.check_words.ensures c.in_ok-check_words.was
    (numbers-told _ q.passes c.cover.ensures q.ends_in_bounds.0 (omega (arith, q.ends_in_bounds.1)) c.in_ok-covered.was c.count_all.ensures)
