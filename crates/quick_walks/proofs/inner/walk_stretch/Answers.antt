-- `walk_stretch` meets its contract. Invariant: c ends in the k - 1 bytes before the next k-mer, and the walk of the k-mers that are left gives the answer.
-- Assumes nothing.
use mathlib.Core.Path.{sym, ◌∙◌}
use Prim.Native.Nat.{◌+◌, ◌-◌}
use native.Mathlib.Omega.{arith}
use lib.ListN.{get_or}
use Rattle.alphabet.proofs.Letters.{bits_lt}
use Rattle.words.proofs.Along.{rolls_begin, rolls_here, rolls_on}
use Rattle.quick_walks.proofs.Walks.{left-start, left_hit, left_on, left_end}
use Rattle.quick_walks.proofs.inner.walk_stretch.Goals as goal

pub loop-i-init : goal.loop-i-init
loop-i-init c =
    let a = c.args in
    let p = c.requires in
    record {
      rolls = rolls_begin a.k a.letters.now p.le_k.0 p.le_k.1 a.at _ (omega arith) c.word_code-c.ensures;
      rest = left-start _ _ _ _ _;
    }

pub roll-c-requires : goal.roll-c-requires
roll-c-requires c =
    let a = c.args in (
      omega arith,
      c.loop-i.invariant.rolls.small,
      omega (arith, c.letter_code.ensures, bits_lt (get_or a.letters.now (a.at + (a.k - 1) + c.loop-i.i) 0)),
    )

pub is_word-requires-clause-c_value : goal.is_word-requires-clause-c_value
is_word-requires-clause-c_value c =
    let l = c.loop-i in
    let a = c.args in
    let p = c.requires in
    c.roll-c.ensures ∙ rolls_here a.k a.letters.now p.le_k.0 p.le_k.1 a.at l.i _ _ (omega arith) l.invariant.rolls c.letter_code.ensures

pub returns-then-is_word : goal.returns-then-is_word
returns-then-is_word c = sym (c.loop-i.invariant.rest ∙ left_hit _ _ _ _ _ _ c.loop-i-test.true (sym c.is_word.ensures ∙ c.if-is_word.true))

pub loop-i-preserved : goal.loop-i-preserved
loop-i-preserved c =
    let l = c.loop-i in
    let a = c.args in
    let p = c.requires in
    let e = c.roll-c.ensures ∙ rolls_here a.k a.letters.now p.le_k.0 p.le_k.1 a.at l.i _ _ (omega arith) l.invariant.rolls c.letter_code.ensures in
    record {
      rolls = rolls_on a.k a.letters.now p.le_k.0 p.le_k.1 a.at l.i _ (omega arith) e;
      rest = l.invariant.rest ∙ left_on _ _ _ _ _ _ c.loop-i-test.true (sym c.is_word.ensures ∙ c.if-is_word.false);
    }

pub returns : goal.returns
returns c = sym (c.loop-i.invariant.rest ∙ left_end _ _ _ _ _ _ (omega arith))
