use Rattle.std.proofs.Common.{None, ◌≡◌, ◌+◌, ◌∷◌, ◌++◌, [], take, drop, length, ◌<◌, ◌∙◌, refl, ap, subst, arith}
use Rattle.dispatch_engine.proofs.Common.{HasRun, IsLaneBeginning, IsLaneRun}
use Rattle.std.proofs.lemmas.List.{take-append-drop, take_all}
use Rattle.dispatch_engine.proofs.lanes.PassLemmas.{runs-none, runs-more, begun-after}
use Rattle.dispatch_engine.proofs.lanes.RoundLemmas.{on-err}
use Rattle.dispatch_engine.proofs.lemmas.lanes.RunLemmas.{run-append, take_next}
use Rattle.dispatch_engine.proofs.lanes.lane.run_lane.Goals as goal

pub loop-command-init : goal.loop-command-init
loop-command-init g c = record {
  own = c.requires.own;
  lane = refl;
  ran = runs-none c.args.solver.now.settings.now c.args.solver.now.network.now c.args.pass.now;
}

pub loop-command-preserved : goal.loop-command-preserved
loop-command-preserved g c =
    let settings = c.args.solver.now.settings.now in
    let roads = c.args.solver.now.network.now in
    let commands = c.args.commands.now in
    let i = c.loop-command.command-index in
    let command = c.command-item.result in
    let within : i < length commands = omega arith in
    record {
      own = c.run_command.ensures.pass.0;
      lane = c.run_command.ensures.pass.1 ∙ c.loop-command.invariant.lane;
      ran = subst (λ cs. HasRun settings roads (IsLaneRun cs) c.args.pass.now c.run_command.new.pass) (take_next commands i command within c.command-item.is)
          (runs-more settings roads (IsLaneRun (take i commands)) (IsLaneRun (command ∷ [])) (IsLaneRun (take i commands ++ command ∷ []))
          (run-append None (take i commands) (command ∷ [])) c.args.pass.now c.loop-command.pass c.run_command.new.pass c.loop-command.invariant.ran
          c.in_ok-run_command.ensures.run);
    }

pub returns-in_err-run_command-clause-begun : goal.returns-in_err-run_command-clause-begun
returns-in_err-run_command-clause-begun g c =
    let settings = c.args.solver.now.settings.now in
    let roads = c.args.solver.now.network.now in
    let commands = c.args.commands.now in
    let i = c.loop-command.command-index in
    let command = c.command-item.result in
    let within : i < length commands = omega arith in
    let rest = drop (i + 1) commands in
    let whole : (take i commands ++ command ∷ []) ++ rest ≡ commands =
    ap (λ cs. cs ++ rest) (take_next commands i command within c.command-item.is) ∙ take-append-drop (i + 1) commands in
    on-err c.from_residual.result _
    (subst (λ cs. HasRun settings roads (IsLaneBeginning cs) c.args.pass.now c.run_command.new.pass) whole
    (begun-after settings roads c.args.pass.now c.loop-command.pass c.run_command.new.pass (take i commands) (command ∷ []) rest c.loop-command.invariant.ran
    c.in_err-run_command.ensures.begun))

pub returns-clause-pass : goal.returns-clause-pass
returns-clause-pass g c = (c.loop-command.invariant.own, c.loop-command.invariant.lane)

pub returns-clause-run : goal.returns-clause-run
returns-clause-run g c =
    subst (λ cs. HasRun c.args.solver.now.settings.now c.args.solver.now.network.now (IsLaneRun cs) c.args.pass.now c.loop-command.pass)
    (take_all c.loop-command.command-index c.args.commands.now (omega arith))
    c.loop-command.invariant.ran
