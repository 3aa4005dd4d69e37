use Rattle.std.proofs.Common.{◌≡◌, ◌++◌, take, codes}
use Rattle.dispatch_report.proofs.Common.{signed}
use Rattle.std.specs.List.{flat_map}
use Rattle.dispatch_report.proofs.words.put_multipliers.Given as goal

abbrev pub invariant-loop-multiplier : goal.invariant-loop-multiplier
invariant-loop-multiplier l = l.line.items ≡ l.initial.line.items ++ flat_map (signed (codes " ")) (take l.multiplier-index l.multipliers)
