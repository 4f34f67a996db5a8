-- `cut_string` meets its contract: code and minimizer are carried on to the next k-mer, which belongs to the open stretch, or that one is stored and another
-- begins. Assumes nothing.
use Rattle.std.proofs.Common.{◌≡◌, ℕ, ◌+◌, refl, sym, ◌∙◌, arith}
use Rattle.lists.proofs.Every.{every-all}
use Rattle.alphabet.specs.Letter.{is_letter}
use Rattle.index_minimizers.specs.Minimizer.{minimizer_at}
use Rattle.index_cutting.proofs.Carried.{Carried, carried_begin, carried_on, carried_small}
use Rattle.index_cutting.proofs.Cutting.{cutting_begin, cutting_on, cutting_ended, cutting_cut, cutting_last}
use Rattle.index_cutting.proofs.Filling.{filling_inside, filling_store, filling_end}
use Rattle.index_cutting.proofs.inner.cut_string.Goals as goal
use Rattle.index_cutting.proofs.inner.cut_string.Goals.{then-q-v, else-q-v}

pub loop-i-init : goal.loop-i-init
loop-i-init c =
    let a = c.args in
    let r = c.requires.le_p in
    let e = carried_begin a.k a.p a.letters.now r.2 (every-all is_letter _ c.requires.letters_value) (omega arith) r.3 a.a _ _ (omega arith)
    c.word_code-c.ensures c.find-v.ensures in
    (e.1, cutting_begin r.4 e.0 c.requires.room4)

pub store-requires : goal.store-requires
store-requires c =
    let a = c.args in
    let s = c.loop-i in
    let r = c.requires.le_p in
    let b = s.invariant.1.behind in
    let e = carried_on a.k a.p a.letters.now r.2 (every-all is_letter _ c.requires.letters_value) (omega arith) r.3 a.a s.i _ _ _ _ _
    (omega arith) s.invariant.0 c.letter_code-x.ensures c.roll-d.ensures c.slide-q.ensures in
    let f = filling_inside (cutting_ended s.invariant.1 c.loop-i-test.true e.0 c.if-q-v.true) in
    (f.0, f.1, f.2, f.3, omega (arith, b), omega (arith, b), omega (arith, b), omega (arith, carried_small s.invariant.0 (omega arith)))

pub loop-i-preserved : goal.loop-i-preserved
loop-i-preserved c =
    let a = c.args in
    let s = c.loop-i in
    let t = c.loop-i-test.true in
    let r = c.requires.le_p in
    let q = minimizer_at a.k a.p a.letters.now in
    let came : (w : ℕ) → w ≡ c.slide-q.result → (w ≡ q (a.a + s.i)) × Carried a.k a.p a.letters.now (a.a + (s.i + 1)) c.roll-d.result w =
    λ w e. carried_on a.k a.p a.letters.now r.2 (every-all is_letter _ c.requires.letters_value) (omega arith) r.3 a.a s.i _ _ _ _ w
    (omega arith) s.invariant.0 c.letter_code-x.ensures c.roll-d.ensures (e ∙ c.slide-q.ensures) in
    elim c.if-q-v.branch [
      | then-q-v w ↦ let e = came _ refl in
          let st = w.store.ensures in
          rw (w.firsts-is, w.positions-is, w.numbers-is, w.keys-is, w.v-is, w.s-is, w.to-is, st.0, st.1, st.2, st.3)
          (e.1, cutting_cut s.invariant.1 t e.0 w.if-q-v.true)
      | else-q-v w ↦ let e = came _ (sym w.if-q-v.false) in
          rw (w.firsts-is, w.positions-is, w.numbers-is, w.keys-is, w.v-is, w.s-is, w.to-is) (e.1, cutting_on s.invariant.1 t e.0 refl)
    ]

pub store-requires-2 : goal.store-requires-2
store-requires-2 c =
    let s = c.loop-i in
    let b = s.invariant.1.behind in
    let f = filling_inside (cutting_last s.invariant.1 (omega arith)) in
    (f.0, f.1, f.2, f.3, omega (arith, b), omega (arith, b), omega (arith, b), omega (arith, carried_small s.invariant.0 (omega arith)))

pub returns : goal.returns
returns c =
    let s = c.loop-i in
    let st = c.store-2.ensures in
    let f = filling_store (cutting_last s.invariant.1 (omega arith)) s.invariant.1.key in
    record { value = omega (arith, f.counted); cut = rw (st.0, st.1, st.2, st.3) (filling_end f) }
