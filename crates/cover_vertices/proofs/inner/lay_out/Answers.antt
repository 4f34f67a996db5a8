-- `lay_out` meets its contract: the stages one after the other (proofs/LaidOut).
use mathlib.Core.Path.{◌≡◌, sym, ap, ◌∙◌}
use Prim.Native.Nat.{◌*◌}
use native.Mathlib.Omega.{arith}
use lib.ListN.{length, length-append, length-drop}
use Rattle.cover_vertices.proofs.EndWeights.{length_keys}
use Rattle.cover_vertices.proofs.LaidOut.{named_low, stages_laid}
use Rattle.cover_vertices.proofs.Ordering.{order_rising}
use Rattle.cover_vertices.proofs.inner.lay_out.Goals as goal

pub name_vertices-requires-clause-rising : goal.name_vertices-requires-clause-rising
name_vertices-requires-clause-rising c =
    rw (c.split_at_mut-verts.ensures.front_len, c.order_ends.ensures.order) (order_rising (length c.args.ends.now) c.order_ends.new.keys)

pub mark_odd-requires-clause-all : goal.mark_odd-requires-clause-all
mark_odd-requires-clause-all c =
    let m = length c.args.ends.now in
    let e : length c.blank.new.spokes ≡ 2 * m = omega arith in
    rw e (named_low m c.order_ends.new.keys c.order_ends.new.order c.name_vertices.new.verts c.order_ends.ensures.order c.name_vertices.ensures (omega arith))

pub returns : goal.returns
returns c =
    let a = c.args in
    let m = length a.ends.now in
    let q = c.split_at_mut-strings.ensures.front_len in
    let l : length c.order_ends.new.keys ≡ 2 * m = ap length c.order_ends.ensures.keys ∙ length_keys a.k a.ends.now a.weights.now in
    stages_laid m c.order_ends.new.keys c.order_ends.new.order c.name_vertices.new.verts c.order_ends.ensures.order c.name_vertices.ensures (omega arith)
    c.blank.new.strings c.mark_odd.new.spokes c.blank.new.hub c.blank.new.cursors _ c.requires.1.some (rw q at c.blank.ensures.strings)
    (rw q at c.blank.ensures.hub) (rw q at c.blank.ensures.cursors) l (omega arith) c.mark_odd.ensures
    (simp (length-append, length-drop) (omega arith)) a.k a.ends.now a.weights.now (sym c.order_ends.ensures.keys)
