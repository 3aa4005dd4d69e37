use Rattle.std.proofs.Common.{take}
use Rattle.route_drive.proofs.Common.{Adds}
use Rattle.route_drive.proofs.rounds.copy_lane.Given as goal

abbrev pub invariant-loop-command : goal.invariant-loop-command
invariant-loop-command l = Adds l.lane (take l.command-index l.commands) l.initial.driven l.driven
