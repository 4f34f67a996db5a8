-- `put_lines` meets its contract: one line after the other. Assumes nothing.
use Rattle.summary_text.proofs.Stored.{lining, line_room, lined, lined_all}
use Rattle.summary_text.proofs.lines.put_lines.Goals as goal

pub put_line-a-requires : goal.put_line-a-requires
put_line-a-requires c =
    let g = c.before in
    line_room (lining _ _ g.args.out.now g.requires)

pub put_line-b-requires : goal.put_line-b-requires
put_line-b-requires c =
    let p = c.before in
    let g = p in
    line_room (lined (lining _ _ _ g.requires) p.put_line-a.ensures.0 p.put_line-a.ensures.1)

pub put_line-requires : goal.put_line-requires
put_line-requires c =
    let q = c.before in
    let p = q in
    let g = p in
    line_room (lined (lined (lining _ _ _ g.requires) p.put_line-a.ensures.0 p.put_line-a.ensures.1) q.put_line-b.ensures.0 q.put_line-b.ensures.1)

pub returns : goal.returns
returns c =
    let r = c.before in
    let q = r in
    let p = q in
    let g = p in
    lined_all (lined
    (lined (lined (lining _ _ _ g.requires) p.put_line-a.ensures.0 p.put_line-a.ensures.1) q.put_line-b.ensures.0 q.put_line-b.ensures.1)
    r.put_line.ensures.0 r.put_line.ensures.1)
