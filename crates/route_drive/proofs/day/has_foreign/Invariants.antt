use Rattle.std.proofs.Common.{◌≡◌, drop, not}
use Rattle.route_drive.proofs.Common.{is_of_day, list_any}
use Rattle.route_drive.proofs.day.has_foreign.Given as goal

abbrev pub invariant-loop-command : goal.invariant-loop-command
invariant-loop-command l = list_any (λ c. not (is_of_day c)) l.commands ≡ list_any (λ c. not (is_of_day c)) (drop l.command-index l.commands)
