use Rattle.std.proofs.Common.{List, subst}
use Rattle.route_drive.proofs.EnterLemmas.{if_ok_map}
use Rattle.route_drive.proofs.Common.{NumberedLanes, IsLateAnswer, IsCounted}
use Rattle.route_drive.proofs.DriveLemmas.{day_ends, end_late}
use Rattle.route_drive.proofs.drive.driven_day.Goals as goal

pub returns-in-Ok-drive_end-clause-run : goal.returns-in-Ok-drive_end-clause-run
returns-in-Ok-drive_end-clause-run g c =
    let before = g.K.RoundKeeper.took c.args.keeper.now c.drive_rounds.new.keeper in
    let after = g.K.RoundKeeper.took c.args.keeper.now c.drive_end.new.keeper in
    let settings = c.args.solver.now.settings.now in
    let roads = c.args.solver.now.network.now in
    if_ok_map c.counted.result _ _ c.counted.ensures.counts
    (λ run counts. subst (λ (rs : List NumberedLanes). IsCounted after settings roads c.args.book.state rs run) c.rounds-rounds.ensures.rounds
    (day_ends settings roads c.args.book.state c.rounds-rounds.result.now before after c.in-Ok.drive c.in-Ok-drive_end.end run c.in-Ok.ensures.run
    (c.in-Ok-drive_end.ensures.run c.args.keeper.now) counts))

pub returns-in-Err-drive_end-clause-late : goal.returns-in-Err-drive_end-clause-late
returns-in-Err-drive_end-clause-late g c =
    let before = g.K.RoundKeeper.took c.args.keeper.now c.drive_rounds.new.keeper in
    let after = g.K.RoundKeeper.took c.args.keeper.now c.drive_end.new.keeper in
    let settings = c.args.solver.now.settings.now in
    let roads = c.args.solver.now.network.now in
    subst (λ (rs : List NumberedLanes). IsLateAnswer settings roads after c.args.book.state rs c.in-Err-drive_end.fault) c.rounds-rounds.ensures.rounds
    (end_late settings roads c.args.book.state c.rounds-rounds.result.now before after c.in-Ok.drive c.in-Ok.ensures.run c.in-Err-drive_end.fault
    (c.in-Err-drive_end.ensures.late c.args.keeper.now))
