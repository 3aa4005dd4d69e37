use Rattle.std.proofs.Common.{◌≡◌, ◌++◌, take}
use Rattle.dispatch_report.proofs.Common.{stop_text}
use Rattle.std.specs.List.{flat_map}
use Rattle.dispatch_report.proofs.block.put_stops.Given as goal

abbrev pub invariant-loop-stop : goal.invariant-loop-stop
invariant-loop-stop l = l.line.items ≡ l.initial.line.items ++ flat_map stop_text (take l.stop-index l.stops)
