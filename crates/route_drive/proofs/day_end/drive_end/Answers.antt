use Rattle.std.proofs.Common.{◌≡◌, ◌<◌, Err, refl, subst, sym, ap, ℕ}
use Rattle.route_drive.proofs.EnterLemmas.{if_err_map, if_ok_map}
use Rattle.route_drive.proofs.Common.{DriveFault, OutOfMemory, number_after, IsLateAt, IsStoppedAt, Command, longest, second_of, left_commands, Any}
use Rattle.route_drive.proofs.DriveLemmas.{end_of, stopped_late}
use Rattle.route_drive.proofs.day_end.drive_end.Goals as goal

pub returns-in_default-clause-run : goal.returns-in_default-clause-run
returns-in_default-clause-run g c = λ first. rw c.in_default.ensures (refl, (λ made is. is))

pub returns-in-Ok-clause-run : goal.returns-in-Ok-clause-run
returns-in-Ok-clause-run g c =
    if_ok_map c.run_last-end.result _ _ c.run_last-end.ensures.run (λ end on first. end_of c.args.solver.now.settings.now c.args.solver.now.network.now
    c.args.rounds.now c.in-Some.number
    c.args.drive end (g.K.RoundKeeper.took first c.args.keeper.now) (g.K.RoundKeeper.took first c.run_last-end.new.keeper) c.in-Some.ensures.0
    c.in-Some.ensures.1 (on first))

pub returns-in-Ok-clause-late : goal.returns-in-Ok-clause-late
returns-in-Ok-clause-late g c =
    if_err_map c.run_last-end.result (λ (f : DriveFault). f ≡ OutOfMemory) _ c.run_last-end.ensures.late (λ f is first.
    subst (IsLateAt (number_after c.args.rounds.now) (Any (λ (c : Command). longest < second_of c)
    (left_commands c.args.drive.book.state.vehicles c.args.drive.courses.items)) (g.K.RoundKeeper.took first c.args.keeper.now)
    (g.K.RoundKeeper.took first c.run_last-end.new.keeper)) (sym is) tt)

pub returns-in-Err-clause-late : goal.returns-in-Err-clause-late
returns-in-Err-clause-late g c = λ first.
    stopped_late (number_after c.args.rounds.now) (Any (λ (c : Command). longest < second_of c)
    (left_commands c.args.drive.book.state.vehicles c.args.drive.courses.items)) (g.K.RoundKeeper.took first c.args.keeper.now) c.in-Err.stopped
    c.stopped_at.result
    (subst (λ (n : ℕ). IsStoppedAt c.in-Err.stopped n c.stopped_at.result) c.in-Some.ensures.1 c.stopped_at.ensures) (λ is. c.in-Err.ensures.late (ap Err is))
