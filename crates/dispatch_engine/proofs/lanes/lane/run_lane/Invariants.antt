use Rattle.std.proofs.Common.{◌≡◌, take}
use Rattle.dispatch_engine.proofs.Common.{IsPassOf, HasRun, IsLaneRun}
use Rattle.dispatch_engine.proofs.lanes.lane.run_lane.Given as goal

abbrev pub invariant-loop-command : goal.invariant-loop-command
invariant-loop-command g l = record {
  own : IsPassOf l.book l.pass;
  lane : l.pass.lane ≡ l.initial.pass.lane;
  ran : HasRun l.solver.settings.now l.solver.network.now (IsLaneRun (take l.command-index l.commands)) l.initial.pass l.pass;
}
