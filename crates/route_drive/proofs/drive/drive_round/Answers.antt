use Rattle.std.proofs.Common.{◌≡◌, Err, ap, sym, subst, ℕ, Some}
use Rattle.route_drive.proofs.EnterLemmas.{if_err_map}
use Rattle.route_drive.proofs.Common.{DriveFault, OutOfMemory, IsLateAt, EntersTooLate, seal_of}
use Rattle.route_drive.proofs.DriveLemmas.{stopped_late}
use Rattle.route_drive.proofs.drive.drive_round.Goals as goal

pub returns-in-Ok-clause-late : goal.returns-in-Ok-clause-late
returns-in-Ok-clause-late g c =
    if_err_map c.run_driven-next.result (λ (f : DriveFault). f ≡ OutOfMemory) _ c.run_driven-next.ensures.late (λ f is first.
    subst (IsLateAt c.args.round.now.number ((now : ℕ) × (seal_of c.args.round.now ≡ Some now) × EntersTooLate c.args.solver.now.network.now
    c.args.solver.now.settings.now.dwell now c.args.drive.book.state.vehicles c.args.drive.courses.items) (g.K.RoundKeeper.took first c.args.keeper.now)
    (g.K.RoundKeeper.took first c.run_driven-next.new.keeper)) (sym is) tt)

pub returns-in-Err-clause-late : goal.returns-in-Err-clause-late
returns-in-Err-clause-late g c = λ first.
    stopped_late c.args.round.now.number ((now : ℕ) × (seal_of c.args.round.now ≡ Some now) × EntersTooLate c.args.solver.now.network.now
    c.args.solver.now.settings.now.dwell now c.args.drive.book.state.vehicles c.args.drive.courses.items) (g.K.RoundKeeper.took first c.args.keeper.now)
    c.in-Err.stopped c.stopped_at.result
    (rw c.number.ensures.value at c.stopped_at.ensures) (λ is. c.in-Err.ensures.late (ap Err is))
