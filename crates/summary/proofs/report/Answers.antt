-- `report` meets its contract: the summary of the sheet is told and written. Assumes nothing.
use mathlib.Core.Path.{◌≡◌, ap, subst, ◌∙◌}
use Prim.Native.Nat.{◌≤◌}
use lib.ListN.{length}
use Rattle.summary_text.specs.declared.Numbers.{Numbers}
use Rattle.std.specs.Prelude.{Result}
use Rattle.collection.specs.declared.refusal.Told.{Told}
use Rattle.summary_text.specs.Text.{text_for}
use Rattle.summary_text.specs.Written.{written_of}
use Rattle.summary.specs.Summary.{summary_of}
use Rattle.summary.specs.Report.{as_told, text_of, report_of}
use Rattle.summary.proofs.report.Goals as goal

pub returns : goal.returns
unfolding report_of text_of
returns c =
    let w = c.before in
    let t = w in
    let e : w.as_told.result ≡ as_told (summary_of t.args.sheet.now) = w.as_told.ensures ∙ ap as_told t.tell-s.ensures in
    record {
      text_after = w.write_summary.ensures.text_after
          ∙ ap (λ (s : Result Numbers Told). written_of (text_for s) t.args.text.now) e;
      sheet_len_bound = subst (λ (s : Result Numbers Told). length (text_for s) ≤ 247) e w.write_summary.ensures.summary_len_bound;
    }
