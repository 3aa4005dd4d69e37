use Rattle.route_drive.proofs.DriveLemmas.{last_on}
use Rattle.route_drive.proofs.EnterLemmas.{if_ok_and, if_ok_map}
use Rattle.route_drive.proofs.day_end.run_last.Goals as goal

pub returns-in-Ok-clause-run : goal.returns-in-Ok-clause-run
returns-in-Ok-clause-run g c = if_ok_map c.with_round.result _ _ (if_ok_and c.with_round.result _ _ c.with_round.ensures.book
    (if_ok_and c.with_round.result _ _ c.with_round.ensures.served c.with_round.ensures.kept))
    (λ end told first. last_on c.args.solver.now.settings.now c.args.solver.now.network.now c.args.left.now c.args.number c.args.drive end c.in-Ok.book
    c.in-Ok.journal
    (g.K.RoundKeeper.took first c.args.keeper.now) (g.K.RoundKeeper.took first c.with_round.new.keeper) c.requires.first c.requires.others c.requires.in_time
    c.in-Ok.ensures.taken told.0 told.1.0 (told.1.1 first))
