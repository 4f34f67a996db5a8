-- `walk` meets its contract: each turn is a step of the walk (proofs/Going, Taking, GivingBack). The measure: what is unused counts twice, for it is taken and
-- given back.
use mathlib.Core.Path.{ap}
use native.Mathlib.Omega.{arith}
use lib.ListN.{length}
use Rattle.cover_tours.specs.Layout.{tables}
use Rattle.cover_tours.specs.Rows.{Answer}
use Rattle.cover_tours.proofs.Regions.{fits-same}
use Rattle.cover_tours.proofs.Going.{Going, going_start, going_found, found_left}
use Rattle.cover_tours.proofs.Taking.{take_inside, going_took, took_fewer}
use Rattle.cover_tours.proofs.GivingBack.{going_closed, going_gave, gave_left}
use Rattle.cover_tours.proofs.inner.walk.Goals as goal
use Rattle.cover_tours.proofs.inner.walk.Goals.{After-find-c}

-- after the search: the walk goes on in the table that it left, and what it found
searched : (c : After-find-c)
    → let a = c.args in
    let l = c.loop-here in
    let t = tables a.m c.find-c.new.work in
    Going a.m (tables a.m a.work.now) a.s a.z t l.n l.top l.here × Answer a.m t l.here c.find-c.result
searched c = going_found c.loop-here.invariant.1 c.find-c.ensures

pub loop-here-init : goal.loop-here-init
loop-here-init c = (c.requires.fits.0, going_start _ c.requires.fits.1 c.requires.ready)

pub find-c-requires : goal.find-c-requires
find-c-requires c =
    let l = c.loop-here in
    record { fits = (l.invariant.0, l.invariant.1.here_low); graph = l.invariant.1.between.graph; cursors = l.invariant.1.between.cursors }

pub take-here-requires : goal.take-here-requires
take-here-requires c =
    let f = searched (goal.at.take-here-requires c).After-find-c in
    (fits-same c.loop-here.invariant.0 (omega arith), take_inside f.0 _ f.1 c.if-c-m.true, c.if-c-m.true)

pub loop-here-smaller-then-c-m : goal.loop-here-smaller-then-c-m
loop-here-smaller-then-c-m c =
    let f = searched (goal.at.loop-here-smaller-then-c-m c).After-find-c in
    omega (arith, took_fewer f.0 f.1 c.if-c-m.true c.take-here.ensures.written, ap length (found_left c.find-c.ensures))

pub loop-here-preserved-then-c-m : goal.loop-here-preserved-then-c-m
loop-here-preserved-then-c-m c =
    let f = searched (goal.at.loop-here-preserved-then-c-m c).After-find-c in
    (fits-same c.loop-here.invariant.0 (omega arith), going_took f.0 f.1 c.if-c-m.true c.take-here.ensures.written c.take-here.ensures.come_to)

pub returns-then-closed : goal.returns-then-closed
returns-then-closed c =
    let f = searched (goal.at.returns-then-closed c).After-find-c in going_closed f.0 _ f.1 c.if-c-m.false c.if-closed.true

pub overflow_sub-top : goal.overflow_sub-top
overflow_sub-top c = let f = searched (goal.at.overflow_sub-top c).After-find-c in omega (arith, f.0.room, c.if-closed.false)

pub give_back-here-requires : goal.give_back-here-requires
give_back-here-requires c =
    let f = searched (goal.at.give_back-here-requires c).After-find-c in
    (fits-same c.loop-here.invariant.0 (omega arith), omega (arith, f.0.room, f.0.between.high), omega (arith, f.0.room, f.0.between.high))

pub loop-here-smaller : goal.loop-here-smaller
loop-here-smaller c =
    let f = searched (goal.at.loop-here-smaller c).After-find-c in
    omega (arith, ap length (gave_left f.0 f.1 c.give_back-here.ensures.written), ap length (found_left c.find-c.ensures), c.if-closed.false)

pub loop-here-preserved : goal.loop-here-preserved
loop-here-preserved c =
    let f = searched (goal.at.loop-here-preserved c).After-find-c in (
      fits-same c.loop-here.invariant.0 (omega arith),
      going_gave f.0 f.1 c.if-c-m.false c.if-closed.false c.give_back-here.ensures.written c.give_back-here.ensures.come_to,
    )
