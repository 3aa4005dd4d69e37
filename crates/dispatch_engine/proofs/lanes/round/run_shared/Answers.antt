use Rattle.std.proofs.Common.{◌<◌, ◌≤◌, ℕ, length, arith}
use Rattle.dispatch_engine.proofs.lanes.RoundLemmas.{finished-same, round-run, round-ready}
use Rattle.dispatch_engine.proofs.lanes.round.run_shared.Goals as goal

pub returns-in-Ok : goal.returns-in-Ok
returns-in-Ok g c =
    let settings = c.args.solver.now.settings.now in
    let roads = c.args.solver.now.network.now in
    let start = c.args.shared.start in
    let passes = c.in_ok-passes.passes.items in
    let len = c.in_ok-passes.ensures.passes.len in
    let one = c.requires.lanes.some in
    let some : 0 < length passes = omega (arith, len, one) in
    let rest = λ (lane : ℕ) (from : length passes ≤ lane). c.requires.lanes.rest lane (omega (arith, from, len)) in
    record {
      run = round-run settings roads c.args.round.now start c.in-Ok.book passes c.in-Ok.ensures.calls c.requires.ready c.requires.lanes.kept some rest
          c.in_ok-passes.ensures.run
          c.requires.empty c.requires.kept c.in-Ok.ensures.kept;
      same = finished-same start c.in-Ok.book passes c.in-Ok.ensures.calls;
      kept = c.in-Ok.ensures.kept;
      ready = round-ready settings roads c.args.round.now start c.in-Ok.book passes c.in-Ok.ensures.calls c.requires.ready c.requires.lanes.kept some rest
          c.in_ok-passes.ensures.run;
    }
