-- `put_counted` meets its contract: three times three lines. Assumes nothing.
use Rattle.summary_text.proofs.Stored.{first_room, next_room, last_room, counted_end}
use Rattle.summary_text.proofs.put_counted.Goals as goal

pub put_lines-a-requires : goal.put_lines-a-requires
put_lines-a-requires c =
    let g = c in
    first_room _ g.args.text.now g.requires

pub put_lines-b-requires : goal.put_lines-b-requires
put_lines-b-requires c =
    let p = c in
    next_room _ _ p.requires p.put_lines-a.ensures.0 p.put_lines-a.ensures.1

pub put_lines-requires : goal.put_lines-requires
put_lines-requires c =
    let q = c in
    let p = q in
    last_room _ _ p.requires p.put_lines-a.ensures.0 p.put_lines-a.ensures.1 q.put_lines-b.ensures.0
    q.put_lines-b.ensures.1

pub returns : goal.returns
returns c =
    let r = c.before in
    let q = r in
    let p = q in
    counted_end _ _ p.requires p.put_lines-a.ensures.0 p.put_lines-a.ensures.1 q.put_lines-b.ensures.0
    q.put_lines-b.ensures.1 r.put_lines.ensures.0 r.put_lines.ensures.1
