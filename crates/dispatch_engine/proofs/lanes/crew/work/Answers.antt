use Rattle.std.proofs.Common.{◌≡◌, ap, subst, sym, ◌∙◌}
use Rattle.dispatch_engine.proofs.Common.{lane_at, HasRun, IsLaneRun}
use Rattle.dispatch_engine.proofs.lanes.CrewLemmas.{lane-run, when-ok}
use Rattle.dispatch_engine.proofs.lanes.crew.work.Goals as goal

pub returns-clause-worked : goal.returns-clause-worked
returns-clause-worked g c =
    let new = c.run_lane-ran.new.pass in
    let mine : c.from.result ≡ new.lane = (let a = c.lane.ensures in let b = c.from.ensures in let d = c.run_lane-ran.ensures.pass.1 in cc) in
    let commands = c.lane-commands.ensures.commands ∙ ap (lane_at c.args.round.now) mine in
    record {
      own = c.run_lane-ran.ensures.pass.0;
      ran = λ done.
          lane-run c.args.solver.now.settings.now c.args.solver.now.network.now (lane_at c.args.round.now new.lane) c.args.pass new c.requires.fresh.fresh
          (subst (λ cs. HasRun c.args.solver.now.settings.now c.args.solver.now.network.now (IsLaneRun cs) c.args.pass new) commands
          (when-ok c.run_lane-ran.result _ (sym c.is_ok-done.ensures.value ∙ done) c.run_lane-ran.ensures.run));
    }
