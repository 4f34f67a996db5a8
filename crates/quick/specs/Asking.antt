-- Inner: a question by codes. A word and its reverse complement, each with its code and its minimizer.
use Rattle.std.specs.Prelude.{List, ℕ}
use Rattle.words.specs.Word.{code, turn}
use Rattle.words.specs.Turned.{spelled}
use Rattle.collection.specs.declared.Side.TheVariants.{Asked, Turned}
use Rattle.index_minimizers.specs.Minimizer.{minimizer}
use Rattle.index_stretches.specs.Stretches.{walk}
use Rattle.index_stretches.specs.Index.{Index, row_of}
use Rattle.quick.specs.declared.Question.{Question}
use Rattle.quick.specs.declared.QuickAnswer.{QuickAnswer}
use Rattle.quick.specs.declared.QuickAnswer.TheVariants.{Absent}
use Rattle.quick_walks.specs.Walk.{is_word, seek}
use Rattle.quick.specs.Quick.{met_or}

abbrev pub question : ℕ → ℕ → ℕ → ℕ → Question
question asked turned row other = record { asked = asked; turned = turned; row = row; other = other }

-- the question for the word w
abbrev pub question_of : ℕ → List ℕ → Question
question_of p w = question (code w) (code (turn w)) (minimizer p w) (minimizer p (turn w))

-- the second walk, c k-mers having been compared before
unfoldable pub turned_of : ℕ → List ℕ → Index → Question → ℕ → QuickAnswer
turned_of k letters index q c = met_or Turned (seek (is_word k letters (spelled k q.turned)) c (walk (row_of index q.other))) Absent

-- both walks
unfoldable pub asked_of : ℕ → List ℕ → Index → Question → QuickAnswer
asked_of k letters index q = met_or Asked (seek (is_word k letters (spelled k q.asked)) 0 (walk (row_of index q.row))) (turned_of k letters index q)
