use Rattle.std.proofs.Common.{◌++◌, ap, ◌∙◌, arith}
use Rattle.std.specs.List.{flat_map}
use Rattle.std.proofs.lemmas.List.{take_all}
use Rattle.dispatch_report.proofs.Common.{numbered}
use Rattle.dispatch_report.proofs.words.put_fields.Goals as goal

pub returns : goal.returns
returns c = c.loop-field.invariant ∙ ap (λ fs. c.args.line.now.items ++ flat_map (λ f. numbered f.0.now f.1) fs)
    (take_all c.loop-field.field-index c.args.fields.now (omega arith))
