-- `put_string` meets its contract: one piece after the other is stored. Assumes nothing.
use native.Mathlib.Omega.{arith}
use lib.ListN.{length-set}
use Rattle.lists.proofs.Storing.{inside, store, stored}
use Rattle.sheet_write.proofs.Line.{marks_room, letters_room, weights_room, line-weighed, line_end, line-fits}
use Rattle.sheet_write.proofs.writing.put_string.Goals as goal

pub bounds-out-at : goal.bounds-out-at
bounds-out-at c =
    let g = c.before in
    omega (arith, marks_room g.args.letters.now g.args.weights.now g.args.out.now _ _ _ _ _ g.requires.b_le_e g.requires.n_in_bounds)

pub overflow_add-out : goal.overflow_add-out
overflow_add-out c =
    let g = c.before in
    omega (arith, marks_room g.args.letters.now g.args.weights.now g.args.out.now _ _ _ _ _ g.requires.b_le_e g.requires.n_in_bounds)

pub bounds-out-at-2 : goal.bounds-out-at-2
bounds-out-at-2 c =
    let g = c.before in
    rw length-set (omega (arith, marks_room g.args.letters.now g.args.weights.now g.args.out.now _ _ _ _ _ g.requires.b_le_e g.requires.n_in_bounds))

pub overflow_add-at : goal.overflow_add-at
overflow_add-at c =
    let g = c.before in
    omega (arith, marks_room g.args.letters.now g.args.weights.now g.args.out.now _ _ _ _ _ g.requires.b_le_e g.requires.n_in_bounds)

pub copy_bytes-requires : goal.copy_bytes-requires
copy_bytes-requires c =
    let g = c.before in (
      g.requires.b_le_e.0,
      g.requires.b_le_e.1,
      letters_room g.args.letters.now g.args.weights.now g.args.out.now _ _ _ _ _ g.requires.b_le_e g.requires.n_in_bounds,
    )

pub overflow_add-at-2 : goal.overflow_add-at-2
overflow_add-at-2 c =
    let g = c.before in
    omega (arith, marks_room g.args.letters.now g.args.weights.now g.args.out.now _ _ _ _ _ g.requires.b_le_e g.requires.n_in_bounds)

pub overflow_sub-e : goal.overflow_sub-e
overflow_sub-e c =
    let g = c.before in
    g.requires.b_le_e.0

pub overflow_add-at-3 : goal.overflow_add-at-3
overflow_add-at-3 c =
    let g = c.before in
    omega (arith, marks_room g.args.letters.now g.args.weights.now g.args.out.now _ _ _ _ _ g.requires.b_le_e g.requires.n_in_bounds)

pub put_weights-p-requires : goal.put_weights-p-requires
put_weights-p-requires c =
    let y = c.before in
    let g = y in (
      g.requires.b_le_e.2,
      weights_room g.args.letters.now g.args.weights.now g.args.out.now _ _ _ _ _ g.requires.b_le_e g.requires.n_in_bounds
          y.copy_bytes.ensures,
    )

pub bounds-out-p : goal.bounds-out-p
bounds-out-p c =
    let z = c.before in
    let y = z in
    let g = y in
    inside (line-weighed g.args.letters.now g.args.weights.now g.args.out.now _ _ _ _ _ g.requires.b_le_e g.requires.n_in_bounds y.copy_bytes.ensures
    z.put_weights-p.ensures.0 z.put_weights-p.ensures.1)

pub overflow_add-result : goal.overflow_add-result
overflow_add-result c =
    let z = c.before in
    let y = z in
    let g = y in
    omega (
      arith,
      line-fits g.args.letters.now g.args.weights.now g.args.out.now _ _ _ _ _ g.requires.b_le_e g.requires.n_in_bounds y.copy_bytes.ensures
          z.put_weights-p.ensures.0,
      g.ranges.at,
    )

pub shape_of-out : goal.shape_of-out
shape_of-out c =
    let z = c.before in
    let y = z in
    let g = y in
    (store (line-weighed g.args.letters.now g.args.weights.now g.args.out.now _ _ _ _ _ g.requires.b_le_e g.requires.n_in_bounds y.copy_bytes.ensures
    z.put_weights-p.ensures.0 z.put_weights-p.ensures.1)).size_kept

pub returns : goal.returns
returns c =
    let z = c.before in
    let y = z in
    let g = y in (
      line_end g.args.letters.now g.args.weights.now g.args.out.now _ _ _ _ _ g.requires.b_le_e g.requires.n_in_bounds y.copy_bytes.ensures
          z.put_weights-p.ensures.0,
      stored (store
          (line-weighed g.args.letters.now g.args.weights.now g.args.out.now _ _ _ _ _ g.requires.b_le_e g.requires.n_in_bounds y.copy_bytes.ensures
          z.put_weights-p.ensures.0 z.put_weights-p.ensures.1)),
    )
