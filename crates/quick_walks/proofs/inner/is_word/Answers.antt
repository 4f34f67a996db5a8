-- `is_word` meets its contract. Assumes nothing.
use mathlib.Core.Path.{◌≡◌, sym, ap, ◌∙◌}
use mathlib.Core.Bool.{Bool, ◌&&◌}
use Prim.Native.Nat.{ℕ, ◌+◌, ◌-◌}
use native.Mathlib.Omega.{arith}
use borrow.Author.Tests.{eq-eqb, ne_eqb}
use lib.ListN.{take, drop}
use Rattle.lists.specs.Every.{every}
use Rattle.alphabet.specs.Letter.{is_letter}
use Rattle.quick_walks.proofs.Words.{word_test}
use Rattle.quick_walks.proofs.inner.is_word.Goals as goal

pub returns-then-c-w : goal.returns-then-c-w
returns-then-c-w c =
    let a = c.args in
    let p = c.requires in
    let t : Bool = every is_letter (take a.k (drop a.a a.letters.now)) in
    sym (word_test a.k a.letters.now a.a a.w a.c p.w_bound.0 p.w_bound.1 p.c_value ∙ ap (λ (b : Bool). b && t) (ne_eqb a.c a.w c.if-c-w.true))

pub returns : goal.returns
returns c =
    let s = c.before in
    let a = s.args in
    let p = s.requires in
    let n : a.a + a.k - a.a ≡ a.k = omega arith in
    let t : Bool = every is_letter (take a.k (drop a.a a.letters.now)) in
    c.all_letters.ensures
    ∙ (ap (λ (m : ℕ). every is_letter (take m (drop a.a a.letters.now))) n
    ∙ sym (word_test a.k a.letters.now a.a a.w a.c p.w_bound.0 p.w_bound.1 p.c_value
    ∙ ap (λ (b : Bool). b && t) (eq-eqb a.c a.w c.if-c-w.false)))
