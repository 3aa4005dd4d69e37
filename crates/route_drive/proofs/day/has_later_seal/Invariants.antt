use Rattle.std.proofs.Common.{◌≡◌, drop}
use Rattle.route_drive.proofs.Common.{is_seal_command, list_any}
use Rattle.route_drive.proofs.day.has_later_seal.Given as goal

abbrev pub invariant-loop-k : goal.invariant-loop-k
invariant-loop-k l = list_any is_seal_command (drop 1 l.commands) ≡ list_any is_seal_command (drop l.k l.commands)
