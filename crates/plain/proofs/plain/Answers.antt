-- `plain` meets its contract: the pass is asked of judged tables and a judged word. Assumes nothing.
use mathlib.Core.Path.{sym, ◌∙◌}
use Rattle.collection.proofs.Ready.{judged_ready}
use Rattle.collection.proofs.Judged.{collection_good, word_good}
use Rattle.plain.proofs.plain.Goals as goal

pub found-requires : goal.found-requires
found-requires c = record {
  ready = judged_ready (collection_good _ (sym c.judge.ensures ∙ c.in_ok-judge.was));
  word_len = word_good _ _ (sym c.judge_word.ensures ∙ c.in_ok-judge_word.was);
}
