-- `scan_string` meets its contract. Invariant: c ends in the k - 1 letters before the next k-mer, and the pass over the k-mers that are left
-- gives the answer. Assumes nothing.
use mathlib.Core.Path.{◌≡◌, sym, ap, ◌∙◌}
use mathlib.Core.List.{List}
use Prim.Native.Nat.{ℕ, ◌+◌, ◌-◌, ◌<◌, ◌≤◌}
use native.Mathlib.Omega.{arith}
use borrow.Author.Tests.{eq-eqb, ne_eqb}
use lib.Dec.{eqb}
use lib.ListN.{get_or, take, drop}
use Rattle.std.proofs.lemmas.List.{get_or-take, get_or-drop}
use Rattle.lists.proofs.Every.{every-all}
use Rattle.alphabet.specs.Letter.{is_letter, two_bits}
use Rattle.alphabet.proofs.Letters.{bits_lt}
use Rattle.words.proofs.Along.{rolls_begin, word_here, word_on}
use Rattle.plain.proofs.Scans.{string-start, string-asked, string-other, string_end}
use Rattle.plain.proofs.scanning.scan_string.Goals as goal

-- letter i of a part of the letters
letter_in : (letters : List ℕ) (at number i : ℕ) {x : ℕ} → i < number → x ≡ two_bits (get_or (take (at + number - at) (drop at letters)) i 0)
    → x ≡ two_bits (get_or letters (at + i) 0)
letter_in letters at number i l e = e ∙ ap two_bits (get_or-take (at + number - at) (drop at letters) i 0 (omega arith) ∙ get_or-drop at letters i 0)

pub loop-i-init : goal.loop-i-init
loop-i-init c =
    let a = c.args in
    let p = c.requires.le_k in
    (rolls_begin a.k a.letters.now p.0 p.1 a.at _ (omega arith) c.word_code-c.ensures, string-start _ _ _ _ _ _)

pub roll-c-requires : goal.roll-c-requires
roll-c-requires c =
    let a = c.args in (
      omega arith,
      c.loop-i.invariant.0.small,
      omega (
        arith,
        c.letter_code.ensures,
        bits_lt (get_or (take (a.at + (a.k - 1) + a.number - (a.at + (a.k - 1))) (drop (a.at + (a.k - 1)) a.letters.now)) c.loop-i.i 0),
      ),
    )

pub returns-then-c-asked : goal.returns-then-c-asked
returns-then-c-asked c =
    let l = c.loop-i in
    let a = c.args in
    let p = c.requires in
    let n : l.i < a.number = omega arith in
    let x = letter_in a.letters.now (a.at + (a.k - 1)) a.number l.i n c.letter_code.ensures in
    let e = (c.roll-c.ensures
    ∙ word_here a.k a.letters.now p.le_k.0 p.le_k.1 (every-all is_letter _ p.letters_value) a.at l.i _ _ (omega arith) l.invariant.0 x) in
    sym (l.invariant.1 ∙ string-asked _ _ _ _ _ _ _ n (eq-eqb _ _ (sym e ∙ c.if-c-asked.true)))

pub loop-i-preserved : goal.loop-i-preserved
loop-i-preserved c =
    let l = c.loop-i in
    let a = c.args in
    let p = c.requires in
    let n : l.i < a.number = omega arith in
    let x = letter_in a.letters.now (a.at + (a.k - 1)) a.number l.i n c.letter_code.ensures in
    let e = (c.roll-c.ensures
    ∙ word_here a.k a.letters.now p.le_k.0 p.le_k.1 (every-all is_letter _ p.letters_value) a.at l.i _ _ (omega arith) l.invariant.0 x) in (
      word_on a.k a.letters.now p.le_k.0 p.le_k.1 (every-all is_letter _ p.letters_value) a.at l.i _ (omega arith) e,
      l.invariant.1
          ∙ string-other _ _ _ _ _ _ _ n (ne_eqb _ _ (λ q. c.if-c-asked.false (e ∙ q))) _ (ap (λ (n : ℕ). eqb n a.turned) e) _
          c.first_turned-first.ensures,
    )

pub returns : goal.returns
returns c =
    let n : c.args.number ≤ c.loop-i.i = omega arith in
    sym (c.loop-i.invariant.1 ∙ string_end _ _ _ _ _ _ _ n)
