-- `turned_four` meets its contract: the constant table passes the test at all of its 256 entries, which the checker computes. Assumes nothing.
use mathlib.Core.Path.{refl}
use Rattle.lists.specs.Every.{every_from}
use Rattle.words.specs.Word.{code_from, turn}
use Rattle.words.specs.Turned.{spelled, turned_code, turns_four}
use Rattle.words.proofs.turned_four.Goals as goal

pub looked_up-requires : goal.looked_up-requires
unfolding turns_four turned_code every_from spelled turn code_from
looked_up-requires c = refl
