use Rattle.std.proofs.Common.{◌≡◌, ◌++◌, take}
use Rattle.dispatch_report.proofs.Common.{numbered}
use Rattle.std.specs.List.{flat_map}
use Rattle.dispatch_report.proofs.words.put_fields.Given as goal

abbrev pub invariant-loop-field : goal.invariant-loop-field
invariant-loop-field l = l.line.items ≡ l.initial.line.items ++ flat_map (λ f. numbered f.0.now f.1) (take l.field-index l.fields)
