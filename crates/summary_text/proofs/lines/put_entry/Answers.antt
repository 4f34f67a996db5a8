-- `put_entry` meets its contract: label, tab and number are stored one after the other. Assumes nothing.
use native.Mathlib.Omega.{arith}
use Rattle.summary_text.proofs.Stored.{label_room, tab_inside, digits_room, entry_size, entry_end}
use Rattle.summary_text.proofs.lines.put_entry.Goals as goal

pub copy_bytes-requires : goal.copy_bytes-requires
copy_bytes-requires c =
    let g = c.before in
    (omega arith, omega arith, label_room g.args.label.now g.args.n _ g.args.out.now g.requires)

pub bounds-out-e : goal.bounds-out-e
bounds-out-e c =
    let b = c.before in
    tab_inside _ _ _ _ b.requires b.copy_bytes.ensures

pub put_number-requires : goal.put_number-requires
put_number-requires c =
    let b = c.before in
    digits_room _ _ _ _ b.requires b.copy_bytes.ensures

pub shape_of-out : goal.shape_of-out
shape_of-out c =
    let p = c.before in
    let b = p in
    entry_size _ _ _ _ b.requires b.copy_bytes.ensures p.put_number.ensures.1

pub returns : goal.returns
returns c =
    let p = c.before in
    let b = p in
    entry_end _ _ _ _ b.requires b.copy_bytes.ensures p.put_number.ensures.0 p.put_number.ensures.1
