-- `weight_of_records` meets its contract: folding `step` over the records gives what is known after all of them. Assumes nothing.
use mathlib.Core.Path.{◌≡◌, sym, ap, subst, ◌∙◌}
use mathlib.Core.List.{List}
use Rattle.std.proofs.Common.{rules}
use Rattle.std.proofs.lemmas.Fn.{fold_over, slice_gives, fronts}
use Rattle.weight_records.specs.declared.Run.{Run}
use Rattle.weight_records.specs.declared.State.{State}
use Rattle.weight_records.specs.Pass.{started, stepped, passed, finished}
use Rattle.weight_records.proofs.Passes.{passed_none, passed_more, passed_answers}
use Rattle.weight_records.proofs.weight_of_records.Goals as goal

pub returns : goal.returns
returns c =
    let s : State = started c.args.n c.args.handle in
    let all : c.fold-s.result ≡ passed s c.args.runs.now =
    subst (λ (rs : List Run). c.fold-s.result ≡ passed s rs) c.iter.ensures.rest
    (fold_over fronts (λ y. y.now) _ (λ rs t. t ≡ passed s rs) _
    (λ rs a x b f' j k.
    let e : b ≡ stepped a x.now = search rules in
    (e ∙ (ap (λ (t : State). stepped t x.now) j ∙ sym (passed_more s rs x.now)), search rules))
    _ _ _ _ (slice_gives c.iter.result) (c.start.ensures ∙ sym (passed_none s)) c.fold-s.ensures.ran) in
    c.finish.ensures ∙ (ap finished all ∙ passed_answers _ _ _)
