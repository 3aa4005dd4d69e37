use Rattle.std.proofs.Common.{take}
use Rattle.route_drive.proofs.Common.{HasCome}
use Rattle.route_drive.proofs.drive.drive_rounds.Given as goal

abbrev pub invariant-loop-round : goal.invariant-loop-round
invariant-loop-round g l = HasCome (g.K.RoundKeeper.took l.initial.keeper l.keeper) l.solver.settings.now l.solver.network.now l.fn.book.state
    (take l.round-index l.rounds) l.drive
