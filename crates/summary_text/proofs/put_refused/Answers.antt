-- `put_refused` meets its contract: the number, then the place. Assumes nothing.
use Rattle.summary_text.proofs.Stored.{number_room, place_room, refused_end}
use Rattle.summary_text.proofs.put_refused.Goals as goal

pub put_entry-a-requires : goal.put_entry-a-requires
put_entry-a-requires c =
    let g = c in
    number_room _ _ g.args.text.now g.requires

pub put_line-requires : goal.put_line-requires
put_line-requires c =
    let p = c in
    place_room _ _ _ p.requires p.put_entry-a.ensures.0 p.put_entry-a.ensures.1

pub returns : goal.returns
returns c =
    let q = c.before in
    let p = q in
    refused_end _ _ _ p.requires p.put_entry-a.ensures.0 p.put_entry-a.ensures.1 q.put_line.ensures.0
    q.put_line.ensures.1
