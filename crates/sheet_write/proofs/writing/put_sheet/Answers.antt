-- `put_sheet` meets its contract: line 1, then the strings. Assumes nothing.
use Rattle.collection.specs.Lent.{collection_in}
use Rattle.sheet_write.proofs.Lines.{head_room, lines_room, sheet_done}
use Rattle.sheet_write.proofs.writing.put_sheet.Goals as goal

pub put_head-p-requires : goal.put_head-p-requires
put_head-p-requires c = let a = c.args in head_room (collection_in a.given) a.out.now c.requires.weights_in_bounds

pub put_lines-requires : goal.put_lines-requires
put_lines-requires c =
    let a = c.args in
    let h = c.put_head-p.ensures in record {
      passes = c.requires.passes;
      weights_in_bounds = lines_room (collection_in a.given) a.out.now c.requires.weights_in_bounds h.0 h.1;
    }

pub returns : goal.returns
returns c =
    let a = c.args in
    let h = c.put_head-p.ensures in
    let l = c.put_lines.ensures in
    let d = sheet_done (collection_in a.given) a.out.now c.requires.weights_in_bounds h.0 h.1 l.0 l.1 in
    record { counted = d.0; filled = d.1 }
