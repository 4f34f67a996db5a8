-- `tell` is safe: the bytes that a report wrote are within the table. Assumes nothing.
use mathlib.Core.Path.{sym}
use lib.Seq.{length-take-le}
use Rattle.summary.proofs.Reported.{report_writes}
use Rattle.tally.proofs.tell.Goals as goal

pub slice_bounds-text-end : goal.slice_bounds-text-end
slice_bounds-text-end g c = (report_writes _ _ c.report.ensures.text_after c.in-Ok.is).0

pub slice_bounds-write_all-end : goal.slice_bounds-write_all-end
slice_bounds-write_all-end g c =
    sym (length-take-le _ _ (report_writes _ _ c.report.ensures.text_after c.in-Ok.is).0)
