use Rattle.std.proofs.Common.{◌∙◌}
use Rattle.route_drive.proofs.DriveLemmas.{round_on}
use Rattle.route_drive.proofs.EnterLemmas.{if_ok_and, if_ok_map}
use Rattle.route_drive.proofs.drive.run_driven.Goals as goal

pub returns-in-Ok-next_courses-clause-run : goal.returns-in-Ok-next_courses-clause-run
returns-in-Ok-next_courses-clause-run g c =
    let next_is = rw c.deref.ensures.value at c.in-Ok-next_courses.ensures in
    if_ok_map c.with_round.result _ _ (if_ok_and c.with_round.result _ _ c.with_round.ensures.book
    (if_ok_and c.with_round.result _ _ c.with_round.ensures.courses (if_ok_and c.with_round.result _ _ c.with_round.ensures.served
    c.with_round.ensures.kept)))
    (λ next told first. round_on c.args.solver.now.settings.now c.args.solver.now.network.now c.args.round.now c.args.driven.now c.args.drive next c.in-Ok.book
    c.in-Ok.journal
    (g.K.RoundKeeper.took first c.args.keeper.now) (g.K.RoundKeeper.took first c.with_round.new.keeper) c.requires.driven c.in-Ok.ensures.taken told.0
    (told.1.0 ∙ next_is) told.1.1.0 (rw c.number-number.ensures.value at (told.1.1.1 first)))
