use Rattle.std.proofs.Common.{◌++◌, codes, ap, ◌∙◌, arith}
use Rattle.std.specs.List.{flat_map}
use Rattle.std.proofs.lemmas.List.{take_all}
use Rattle.dispatch_report.proofs.Common.{signed}
use Rattle.dispatch_report.proofs.words.put_multipliers.Goals as goal

pub returns : goal.returns
returns c = c.loop-multiplier.invariant ∙ ap (λ ms. c.args.line.now.items ++ flat_map (signed (codes " ")) ms)
    (take_all c.loop-multiplier.multiplier-index c.args.multipliers.now (omega arith))
