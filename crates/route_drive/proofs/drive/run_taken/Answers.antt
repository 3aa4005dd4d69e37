use Rattle.route_drive.proofs.DriveLemmas.{taken_is}
use Rattle.route_drive.proofs.drive.run_taken.Goals as goal

pub returns-in-Ok-take_round-clause-taken : goal.returns-in-Ok-take_round-clause-taken
returns-in-Ok-take_round-clause-taken g c =
    taken_is c.args.solver.now.settings.now c.args.solver.now.network.now c.args.round.now c.args.book c.in-Ok.book c.take_round.new.self
    c.in-Ok-take_round.journal
    c.in-Ok.ensures.run c.in-Ok.ensures.same c.in-Ok.ensures.kept c.in-Ok.ensures.ready c.in-Ok-take_round.ensures.journal c.in-Ok-take_round.ensures.next
