-- `put_line` meets its contract: an entry, then a feed. Assumes nothing.
use native.Mathlib.Omega.{arith}
use Rattle.summary_text.proofs.Stored.{entry_room, feed_inside, line_end}
use Rattle.summary_text.proofs.lines.put_line.Goals as goal

pub put_entry-e-requires : goal.put_entry-e-requires
put_entry-e-requires c =
    let g = c.before in
    entry_room _ _ _ g.args.out.now g.requires

pub bounds-out-e : goal.bounds-out-e
bounds-out-e c =
    let e = c.before in
    feed_inside _ _ _ _ e.requires e.put_entry-e.ensures.0 e.put_entry-e.ensures.1

pub overflow_add-result : goal.overflow_add-result
overflow_add-result c =
    let e = c.before in
    omega (arith, feed_inside _ _ _ _ e.requires e.put_entry-e.ensures.0 e.put_entry-e.ensures.1)

pub returns : goal.returns
returns c =
    let e = c.before in
    line_end _ _ _ _ e.requires e.put_entry-e.ensures.0 e.put_entry-e.ensures.1
