use Rattle.std.proofs.Common.{ℕ, List, length, get_or, arith}
use Rattle.trip_graph.proofs.Common.{get_or_default, TripOf, batch_of, tau_of}
use Rattle.trip_graph.proofs.batch.LevelSteps as step
use Rattle.trip_graph.proofs.batch.level_run.LevelRunJob.run.Goals as goal

pub level_piece-requires-clause-below : goal.level_piece-requires-clause-below
level_piece-requires-clause-below c =
    let run = c.args.self.now in
    let settled = batch_of run.growth.now in
    let can = c.requires.0 in
    let own = c.requires.3 in
    let v : ℕ = get_or run.vehicles.now c.args.piece 0 in
    let rows : List TripOf = get_or run.below.now v c.index-self-vehicle.result in
    step.read_below (tau_of run.growth.now) settled run.size (length settled.vehicles) v run.below.now rows can.rows (omega (arith, can.rows.total))
    (get_or_default run.below.now v c.index-self-vehicle.result rows own)
