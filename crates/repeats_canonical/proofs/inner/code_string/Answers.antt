-- `code_string` meets its contract: c and t roll on by one letter, and the smaller of them is the canonical code of the next k-mer. Assumes nothing.
use Rattle.std.proofs.Common.{◌+◌, ◌-◌, ◌*◌, ◌≤◌, ℕ, min, get_or, length, ap, ap₂, ◌∙◌, arith}
use Rattle.lists.proofs.Every.{every-all}
use Rattle.alphabet.specs.Letter.{is_letter}
use Rattle.alphabet.proofs.Letters.{bits_lt}
use Rattle.repeats_canonical.proofs.Halves.{halved_begin, halved_next}
use Rattle.repeats_canonical.proofs.Turns.{first_fits, turns_begin, code_here, turned_here, turns_on}
use Rattle.repeats_canonical.proofs.inner.code_string.Goals as goal

pub overflow_mul-t : goal.overflow_mul-t
overflow_mul-t c =
    let a = c.args in
    let r = c.requires.le_k in
    omega (
      arith,
      first_fits a.k a.letters.now r.0 r.1 (every-all is_letter _ c.requires.letters_value) a.at _ (omega arith) c.word_code-c.ensures,
      c.turned_code-t.ensures,
    )

pub loop-i-init : goal.loop-i-init
loop-i-init c =
    let a = c.args in
    let r = c.requires.le_k in (
      turns_begin a.k a.letters.now r.0 r.1 (every-all is_letter _ c.requires.letters_value) a.at _ (omega arith) c.word_code-c.ensures _
          (ap (λ (x : ℕ). x * 4) c.turned_code-t.ensures),
      halved_begin a.k a.letters.now a.at a.hi.now a.lo.now,
    )

pub roll-c-requires : goal.roll-c-requires
roll-c-requires c =
    let a = c.args in (
      c.requires.le_k.1,
      c.loop-i.invariant.0.rolls.small,
      omega (arith, c.letter_code-x.ensures, bits_lt (get_or a.letters.now (a.at + (a.k - 1) + c.loop-i.i) 0)),
    )

pub roll_turned-t-requires : goal.roll_turned-t-requires
roll_turned-t-requires c =
    let a = c.args in (
      c.requires.le_k.0,
      c.requires.le_k.1,
      c.loop-i.invariant.0.small,
      omega (arith, c.letter_code-x.ensures, bits_lt (get_or a.letters.now (a.at + (a.k - 1) + c.loop-i.i) 0)),
    )

pub loop-i-preserved : goal.loop-i-preserved
loop-i-preserved c =
    let a = c.args in
    let s = c.loop-i in
    let r = c.requires.le_k in
    let g = every-all is_letter _ c.requires.letters_value in
    let f : a.at + s.i + a.k ≤ length a.letters.now = omega arith in
    let asked = c.roll-c.ensures ∙ code_here a.k a.letters.now r.0 r.1 g a.at s.i _ _ _ f s.invariant.0 c.letter_code-x.ensures in
    let turned = c.roll_turned-t.ensures ∙ turned_here a.k a.letters.now r.0 r.1 g a.at s.i _ _ _ f s.invariant.0 c.letter_code-x.ensures in (
      turns_on a.k a.letters.now r.0 r.1 g a.at s.i _ _ f asked turned,
      halved_next a.k a.letters.now a.at s.i _ _ _ s.hi s.lo (omega arith) (omega arith) (c.min-least.ensures ∙ ap₂ min asked turned) c.upper.ensures
          c.lower.ensures s.invariant.1,
    )
