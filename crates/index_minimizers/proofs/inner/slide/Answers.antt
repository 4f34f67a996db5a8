-- `slide` meets its contract: the new piece is the least, or the old least has left and is looked for anew, or it stays. Assumes nothing.
use mathlib.Core.Path.{◌∙◌}
use native.Mathlib.Omega.{arith}
use Rattle.index_minimizers.proofs.Sliding.{last_piece, new_least, old_least}
use Rattle.index_minimizers.proofs.inner.slide.Goals as goal

pub returns-then-new-v : goal.returns-then-new-v
returns-then-new-v c =
    let s = c in
    let a = s.args in
    let e = c.piece-new.ensures ∙ last_piece a.p a.d in
    e ∙ new_least a.p a.n a.v a.c a.d a.x s.requires.1 s.requires.2 s.requires.3 (omega (arith, e))

pub returns : goal.returns
returns c =
    let s = c in
    let a = s.args in
    let e = c.piece-new.ensures ∙ last_piece a.p a.d in
    old_least a.p a.n a.v a.c a.d a.x s.requires.1 s.requires.2 s.requires.3 (omega (arith, e, c.if-new-v.false))
    (λ q. omega (arith, c.piece.ensures ∙ q))
