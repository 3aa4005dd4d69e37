use Rattle.std.proofs.Common.{◌≡◌, ◌==◌, ◌<◌, ◌≤◌, length, sym, ◌∙◌, arith}
use Rattle.dispatch_engine.proofs.Common.{nil_from_length, times_chosen, point_count, travel_time, idle_vehicles}
use Rattle.dispatch_engine.proofs.lemmas.limits.Promises.{filter_range_below}
use Rattle.dispatch_engine.proofs.lemmas.outcome.LeftLemmas.{kept_few}
use Rattle.dispatch_engine.proofs.lemmas.outcome.MoveLemmas.{has_places, no_moves}
use Rattle.dispatch_engine.proofs.outcome.moves.move_lines.Goals as goal

pub returns-then-is_empty : goal.returns-then-is_empty
returns-then-is_empty c =
    let none : length c.in_ok-idle.idle.items ≡ 0 = grind (arith, c.is_empty.ensures, c.if-is_empty.true) in
    let instance = c.args.graphs.now.instance.now in
    no_moves (travel_time instance.times.now) instance.settled.now (idle_vehicles instance.settled.now c.args.graphs.now.graph.now c.args.chosen.now)
    c.args.left.now c.new.result.items (sym c.in_ok-idle.ensures.value ∙ nil_from_length c.in_ok-idle.idle.items none) c.new.ensures.items

pub best_moves-requires-clause-places : goal.best_moves-requires-clause-places
best_moves-requires-clause-places c =
    let instance = c.args.graphs.now.instance.now in
    let some : 0 < length c.in_ok-idle.idle.items = grind (arith, c.is_empty.ensures, c.if-is_empty.false) in
    let few : length c.in_ok-idle.idle.items ≤ length instance.settled.now.vehicles = c.in_ok-idle.ensures.few in
    has_places instance.settings.now.trip (point_count instance.times.now) (travel_time instance.times.now) instance.settled.now c.requires.exact.sound
    (omega arith)

pub best_moves-requires-clause-riders : goal.best_moves-requires-clause-riders
best_moves-requires-clause-riders c =
    let total = c.requires.exact.exact.rider_total in
    rw (c.requires.left, ← total) (filter_range_below (λ r. times_chosen c.args.graphs.now.graph.now c.args.chosen.now r == 0)
    c.args.graphs.now.graph.now.riders)

pub best_moves-requires-clause-few_riders : goal.best_moves-requires-clause-few_riders
best_moves-requires-clause-few_riders c =
    let few = kept_few (λ r. times_chosen c.args.graphs.now.graph.now c.args.chosen.now r == 0) c.args.graphs.now.graph.now.riders in
    let most : length c.args.graphs.now.instance.now.settled.now.riders ≤ 1000 = c.requires.exact.sound.rider_count in
    rw c.requires.left (omega arith)
