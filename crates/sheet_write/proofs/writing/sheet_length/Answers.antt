-- `sheet_length` meets its contract: the parts of the length, added. Assumes nothing.
use native.Mathlib.Omega.{arith}
use Rattle.collection.proofs.Judged.{collection_good}
use Rattle.sheet_write.proofs.Texts.{sheet-length, few_weights}
use Rattle.sheet_write.proofs.writing.sheet_length.Goals as goal

pub overflow_add-head : goal.overflow_add-head
overflow_add-head c = omega (arith, c.digit_count-head.ensures.1)

pub overflow_mul-result : goal.overflow_mul-result
overflow_mul-result c = omega (arith, (collection_good _ c.requires).shape.m_high)

pub overflow_add-result : goal.overflow_add-result
overflow_add-result c = omega (arith, c.digit_count-head.ensures.1, (collection_good _ c.requires).shape.m_high)

pub overflow_add-result-2 : goal.overflow_add-result-2
overflow_add-result-2 c =
    let p = c.requires in
    omega (
      arith,
      c.digit_count-head.ensures.1,
      (collection_good _ p).shape.m_high,
      (collection_good _ p).shape.letters_high,
    )

pub weights_length-requires : goal.weights_length-requires
weights_length-requires c = few_weights (collection_good _ c.requires)

pub overflow_add-result-3 : goal.overflow_add-result-3
overflow_add-result-3 c =
    let j = collection_good _ c.requires in
    omega (arith, c.digit_count-head.ensures.1, c.weights_length.ensures.1, few_weights j, j.shape.m_high, j.shape.letters_high)

pub returns : goal.returns
returns c =
    let j = collection_good _ c.requires in
    omega (arith, c.digit_count-head.ensures.0, c.weights_length.ensures.0, sheet-length j)
