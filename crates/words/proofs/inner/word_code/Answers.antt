-- `word_code` meets its contract: a code of fewer than 31 letters has room for one letter more. Assumes nothing.
use mathlib.Core.Path.{sym}
use native.Mathlib.Omega.{arith}
use lib.ListN.{get_or}
use Rattle.alphabet.proofs.Letters.{bits_lt}
use Rattle.words.proofs.Codes.{code-none}
use Rattle.words.proofs.Rolling.{bits_more, bits_room}
use Rattle.words.proofs.inner.word_code.Goals as goal

pub loop-b-init : goal.loop-b-init
loop-b-init c = sym code-none

pub overflow_mul-c : goal.overflow_mul-c
overflow_mul-c c = omega (arith, bits_room c.args.word.now c.loop-b.b-index c.requires (omega arith))

pub overflow_add-c : goal.overflow_add-c
overflow_add-c c =
    let word = c.args.word.now in
    let i = c.loop-b.b-index in omega (arith, bits_room word i c.requires (omega arith), bits_lt (get_or word i 0))

pub loop-b-preserved : goal.loop-b-preserved
loop-b-preserved c = bits_more _ _ _ _ c.loop-b-test.true c.loop-b.invariant c.letter_code.ensures
