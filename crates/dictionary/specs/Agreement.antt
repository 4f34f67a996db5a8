-- The answer of QUICK as PLAIN would give it.
-- Specification: 9.10, 12.2.
use Rattle.plain.specs.Plain.{found_at}
use Rattle.plain.specs.declared.Standing.{Standing}
use Rattle.collection.specs.declared.refusal.Refusal.{Refusal}
use Rattle.std.specs.Prelude.{List, ℕ, Err, Result, Ok, Option, None}
use Rattle.words.specs.Word.{turn}
use Rattle.collection.specs.declared.Side.{Side}
use Rattle.collection.specs.declared.Side.TheVariants.{Asked, Turned}
use Rattle.quick.specs.declared.QuickAnswer.{QuickAnswer}
use Rattle.quick.specs.declared.QuickAnswer.TheVariants.{Found, Absent}

-- without the number compared
unfoldable pub unnumbered : QuickAnswer → Option Standing
unnumbered (Found handle side compared) = found_at handle side
unnumbered (Absent compared) = None

-- the same of an answer that may be a refusal
unfoldable pub as_plain : Result QuickAnswer Refusal → Result (Option Standing) Refusal
as_plain (Ok answer) = Ok (unnumbered answer)
as_plain (Err r) = Err r

-- the word as it stands on a side: + as asked, - turned
abbrev pub sided : Side → List ℕ → List ℕ
sided Asked w = w
sided Turned w = turn w
