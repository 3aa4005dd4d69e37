use Rattle.std.proofs.Common.{map, ap, ◌∙◌}
use Rattle.dispatch_engine.proofs.Common.{point_count, travel_time, IsBestMatching, move_line, starts_of, origins_of}
use Rattle.std.proofs.lemmas.Result.{IfOk-weaker}
use Rattle.dispatch_engine.proofs.lemmas.outcome.MoveLemmas.{starts_within, origins_within, pairs_within}
use Rattle.dispatch_engine.proofs.outcome.moves.best_moves.Goals as goal

pub rebalance-requires-clause-idle_places : goal.rebalance-requires-clause-idle_places
rebalance-requires-clause-idle_places c =
    rw (c.deref.ensures.value, c.in_ok-starts.ensures) (starts_within (point_count c.args.times.now) c.args.settled.now c.requires.places c.args.vehicles.now
    c.requires.vehicles)

pub rebalance-requires-clause-wanted_places : goal.rebalance-requires-clause-wanted_places
rebalance-requires-clause-wanted_places c =
    rw (c.deref-2.ensures.value, c.in_ok-origins.ensures) (origins_within (point_count c.args.times.now) c.args.settled.now c.requires.places c.args.riders.now
    c.requires.riders)

pub told_moves-requires-clause-pairs : goal.told_moves-requires-clause-pairs
told_moves-requires-clause-pairs c =
    let tau = travel_time c.args.times.now in
    let best : IsBestMatching tau (starts_of c.args.settled.now c.args.vehicles.now) (origins_of c.args.settled.now c.args.riders.now)
    c.in_ok-moves.moves.pairs = rw (c.deref.ensures.value, c.in_ok-starts.ensures, c.deref-2.ensures.value, c.in_ok-origins.ensures) at
    c.in_ok-moves.ensures.best in
    rw c.as_slice.ensures (pairs_within tau c.args.settled.now c.args.vehicles.now c.args.riders.now c.in_ok-moves.moves.pairs best.matching)

pub returns : goal.returns
returns c =
    let tau = travel_time c.args.times.now in
    let settled = c.args.settled.now in
    let best : IsBestMatching tau (starts_of settled c.args.vehicles.now) (origins_of settled c.args.riders.now) c.in_ok-moves.moves.pairs =
    rw (c.deref.ensures.value, c.in_ok-starts.ensures, c.deref-2.ensures.value, c.in_ok-origins.ensures) at c.in_ok-moves.ensures.best in
    IfOk-weaker c.told_moves.result _ _
    (λ moves told. record {
      pairs = c.in_ok-moves.moves.pairs;
      best = best;
      rising = c.in_ok-moves.ensures.rising;
      told = told ∙
          ap (map (move_line tau settled c.args.vehicles.now c.args.riders.now)) c.as_slice.ensures;
    })
    c.told_moves.ensures
