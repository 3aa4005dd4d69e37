use Rattle.dispatch_engine.proofs.Common.{travel_time}
use Rattle.dispatch_engine.proofs.limits.Searches.{found_serves}
use Rattle.dispatch_engine.proofs.limits.serving.search.Goals as goal

pub returns : goal.returns
returns g c =
    found_serves (travel_time c.args.times.now) c.args.task.now c.in_ok-route.route c.is_some.result c.is_some.ensures
    c.in_ok-route.ensures.serves c.in_ok-route.ensures.none
