-- `is_letter` meets its contract: the four tests joined are the one definition's. Assumes nothing.
use mathlib.Core.Path.{sym}
use Rattle.alphabet.proofs.Letters.{four_tests}
use Rattle.alphabet.proofs.is_letter.Goals as goal

pub returns : goal.returns
returns c = sym (four_tests _)
