-- `code_all` meets its contract: each string comes after those that have passed, with room for its codes. Assumes nothing.
use Rattle.std.proofs.Common.{refl, ◌∙◌, arith}
use Rattle.collection.proofs.Kmers.{strings_on, next_string}
use Rattle.repeats_canonical.proofs.Stringwise.{coding_room, coding_lent, coding_on, coding_end}
use Rattle.repeats_canonical.proofs.inner.code_all.Goals as goal

pub overflow_add-number-in-loop-end : goal.overflow_add-number-in-loop-end
overflow_add-number-in-loop-end c = omega (arith, next_string c.loop-end.invariant.0 c.loop-end-test.true, c.requires.ready.few_letters)

pub overflow_sub-number : goal.overflow_sub-number
overflow_sub-number c = omega (arith, next_string c.loop-end.invariant.0 c.loop-end-test.true)

pub slice_bounds-code_string-end : goal.slice_bounds-code_string-end
slice_bounds-code_string-end c =
    let s = c.loop-end in
    omega (arith, coding_room _ s.invariant.1 (s.auto.hi ∙ c.requires.sizes.0) (omega arith) c.loop-end-test.true)

pub slice_bounds-code_string-end-in-loop-end : goal.slice_bounds-code_string-end-in-loop-end
slice_bounds-code_string-end-in-loop-end c =
    let s = c.loop-end in
    omega (arith, coding_room _ s.invariant.1 (s.auto.hi ∙ c.requires.sizes.0) (omega arith) c.loop-end-test.true)

pub code_string-requires-clause-le_k : goal.code_string-requires-clause-le_k
code_string-requires-clause-le_k c =
    let s = c.loop-end in
    let t = c.loop-end-test.true in
    let e = next_string s.invariant.0 t in (
      c.requires.ready.ends_long.k_low,
      c.requires.ready.ends_long.k_high,
      omega (arith, e.long, e.inside, coding_lent _ s.invariant.1 (s.auto.hi ∙ c.requires.sizes.0) (omega arith) t),
    )

pub loop-end-preserved : goal.loop-end-preserved
loop-end-preserved c =
    let s = c.loop-end in
    let t = c.loop-end-test.true in (
      strings_on s.invariant.0 t c.requires.ready.ends_long.k_low _ refl,
      coding_on _ s.invariant.1 (s.auto.hi ∙ c.requires.sizes.0) (omega arith) t c.code_string.ensures,
    )

pub returns : goal.returns
returns c =
    let s = c.loop-end in
    coding_end _ s.invariant.1 (s.auto.hi ∙ c.requires.sizes.0) (omega arith) c.loop-end-test.false
