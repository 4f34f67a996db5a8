-- `scan` meets its contract. Invariant: the pass over the strings that are left gives the answer. Assumes nothing.
use mathlib.Core.List.{List}
use mathlib.Core.Path.{refl, sym, ap, ◌∙◌}
use Prim.Native.Nat.{ℕ}
use native.Mathlib.Omega.{arith}
use lib.Dec.{eqb}
use Rattle.words.specs.Word.{code, word_at}
use Rattle.plain.specs.declared.Seen.{Seen}
use Rattle.plain.specs.Scan.{scan_from}
use Rattle.collection.proofs.Kmers.{strings_begin, strings_on, next_string, kmers_next, kmers_end}
use Rattle.plain.proofs.Scans.{scan_found, scan_row_on, scan_none}
use Rattle.plain.proofs.scanning.scan.Goals as goal

-- the pass from a turn of the loop on, over the k-mers that are left
abbrev pass : ℕ → List ℕ → ℕ → ℕ → ℕ → ℕ → List ℕ → Seen
pass k letters asked turned =
    scan_from (λ a. eqb (code (word_at k letters a)) asked) (λ a. eqb (code (word_at k letters a)) turned)

pub loop-end-init : goal.loop-end-init
loop-end-init c = (strings_begin c.requires.ends_long c.requires.ends_last, refl)

pub overflow_add-number-in-loop-end : goal.overflow_add-number-in-loop-end
overflow_add-number-in-loop-end c = omega (arith, next_string c.loop-end.invariant.0 c.loop-end-test.true, c.requires.few_letters)

pub overflow_sub-number : goal.overflow_sub-number
overflow_sub-number c = omega (arith, next_string c.loop-end.invariant.0 c.loop-end-test.true)

pub scan_string-s-requires : goal.scan_string-s-requires
scan_string-s-requires c =
    let p = c.requires in
    let g = p.ends_long in
    let n = next_string c.loop-end.invariant.0 c.loop-end-test.true in
    let i = c.loop-end.invariant.0 in
    record { letters_value = p.all_letters; le_k = (g.k_low, g.k_high, omega (arith, n.long, n.inside), omega (arith, n.long, n.inside, i.few, p.few_letters)) }

pub returns-in_default : goal.returns-in_default
returns-in_default c =
    let a = c.args in
    sym (c.loop-end.invariant.1
    ∙ (ap (pass a.given.k a.given.letters.now a.asked a.turned c.loop-end.passed c.loop-end.first) (kmers_next _ _ _ _ c.loop-end-test.true)
    ∙ (scan_found _ _ _ _ _ _ _ (sym c.scan_string-s.ensures ∙ c.in_default.is) ∙ sym c.in_default.is)))

pub loop-end-preserved : goal.loop-end-preserved
loop-end-preserved c =
    let a = c.args in (
      strings_on c.loop-end.invariant.0 c.loop-end-test.true c.requires.ends_long.k_low _ refl,
      c.loop-end.invariant.1
          ∙ (ap (pass a.given.k a.given.letters.now a.asked a.turned c.loop-end.passed c.loop-end.first) (kmers_next _ _ _ _ c.loop-end-test.true)
          ∙ scan_row_on _ _ _ _ _ _ _ _ (sym c.scan_string-s.ensures ∙ c.in-NotAsked.is)),
    )

pub returns : goal.returns
returns c =
    let a = c.args in
    sym (c.loop-end.invariant.1
    ∙ (ap (pass a.given.k a.given.letters.now a.asked a.turned c.loop-end.passed c.loop-end.first) (kmers_end _ _ _ _ c.loop-end-test.false)
    ∙ scan_none _ _ _ _))
