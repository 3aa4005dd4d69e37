use Rattle.std.proofs.Common.{◌<◌, ℕ, List, length, sym, ap}
use Rattle.report_audit.proofs.Common.{All-map, point_count, rider_at, vehicle_at}
use Rattle.report_audit.proofs.points.moves.best_moves.Goals as goal

pub rebalance-requires-clause-idle_places : goal.rebalance-requires-clause-idle_places
rebalance-requires-clause-idle_places c = rw (c.deref.ensures.value, c.in_ok-starts.ensures)
    (All-map (λ p. p < point_count c.args.times.now) (λ v. (vehicle_at c.args.settled.now v).start) c.args.idle.now c.requires.places.starts)

pub rebalance-requires-clause-wanted_places : goal.rebalance-requires-clause-wanted_places
rebalance-requires-clause-wanted_places c = rw (c.deref-2.ensures.value, c.in_ok-origins.ensures)
    (All-map (λ p. p < point_count c.args.times.now) (λ r. (rider_at c.args.settled.now r).leg.origin) c.args.left.now c.requires.places.origins)

pub returns : goal.returns
returns c =
    let best = rw (c.deref.ensures.value, c.in_ok-starts.ensures, c.deref-2.ensures.value, c.in_ok-origins.ensures) at c.in_ok-best.ensures.best in
    let total = rw (c.deref.ensures.value, c.in_ok-starts.ensures, c.deref-2.ensures.value, c.in_ok-origins.ensures) at c.in_ok-best.ensures.total in
    (c.in_ok-best.best.pairs, best, ap (λ (ps : List (ℕ × ℕ)). length ps) c.as_slice.ensures, total)
