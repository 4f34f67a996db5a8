-- `count_string` meets its contract: code and minimizer are carried on to the next k-mer, which belongs to the open stretch or begins another.
-- Assumes nothing.
use Rattle.std.proofs.Common.{◌≡◌, ℕ, ◌+◌, refl, sym, ◌∙◌, arith}
use Rattle.lists.proofs.Every.{every-all}
use Rattle.alphabet.specs.Letter.{is_letter}
use Rattle.index_minimizers.specs.Minimizer.{minimizer_at}
use Rattle.index_cutting.proofs.Carried.{Carried, carried_begin, carried_on}
use Rattle.index_cutting.proofs.Counting.{counting_begin, counting_on, counting_cut, counting_end}
use Rattle.index_cutting.proofs.inner.count_string.Goals as goal
use Rattle.index_cutting.proofs.inner.count_string.Goals.{then-q-v, else-q-v}

pub loop-i-init : goal.loop-i-init
loop-i-init c =
    let a = c.args in
    let r = c.requires.le_p in
    let e = carried_begin a.k a.p a.letters.now r.1 (every-all is_letter _ c.requires.letters_value) (omega arith) r.2 a.a _ _ (omega arith)
    c.word_code-c.ensures c.find-v.ensures in
    (e.1, counting_begin (minimizer_at a.k a.p a.letters.now) a.a a.n _ r.3 e.0)

pub loop-i-preserved : goal.loop-i-preserved
loop-i-preserved c =
    let a = c.args in
    let s = c.loop-i in
    let t = c.loop-i-test.true in
    let r = c.requires.le_p in
    let q = minimizer_at a.k a.p a.letters.now in
    let came : (w : ℕ) → w ≡ c.slide-q.result → (w ≡ q (a.a + s.i)) × Carried a.k a.p a.letters.now (a.a + (s.i + 1)) c.roll-d.result w =
    λ w e. carried_on a.k a.p a.letters.now r.1 (every-all is_letter _ c.requires.letters_value) (omega arith) r.2 a.a s.i _ _ _ _ w
    (omega arith) s.invariant.0 c.letter_code-x.ensures c.roll-d.ensures (e ∙ c.slide-q.ensures) in
    elim c.if-q-v.branch [
      | then-q-v w ↦ let e = came _ refl in
          rw (w.count-is, w.v-is) (e.1, counting_cut q a.a a.n s.count s.v s.i s.invariant.1 _ t e.0 w.if-q-v.true)
      | else-q-v w ↦ let e = came _ (sym w.if-q-v.false) in
          rw (w.count-is, w.v-is) (e.1, counting_on q a.a a.n s.count s.v s.i s.invariant.1 _ t e.0 refl)
    ]

pub returns : goal.returns
returns c =
    let a = c.args in
    let s = c.loop-i in
    counting_end (minimizer_at a.k a.p a.letters.now) a.a a.n s.count s.v s.i s.invariant.1 (omega arith)
