use Rattle.std.proofs.Common.{◌≡◌, ℕ, All, Contains, length, sym, ap, ◌∙◌, subst, arith}
use Rattle.std.proofs.lemmas.List.Edits.{length-remove}
use Rattle.std.proofs.lemmas.Bool.{false≢true}
use Rattle.trip_graph.proofs.Common.{TripOf, trips_of}
use Rattle.trip_graph.proofs.vehicle.candidate.is_possible.Goals as goal

pub has_trip-requires-clause-sized : goal.has_trip-requires-clause-sized
has_trip-requires-clause-sized c =
    let removed = length-remove c.args.trip.now c.loop-place.place (omega arith) in
    let sized = ap length (c.as_slice.ensures.value ∙ c.without_rider.ensures) in
    subst (λ (n : ℕ). All (λ (row : TripOf). length row.riders.items ≡ n) c.args.rows.now) (omega arith) c.requires.below.sized

pub returns-then-not-has_trip : goal.returns-then-not-has_trip
returns-then-not-has_trip c refused served =
    let trip = c.args.trip.now in
    let place = c.loop-place.place in
    let removed = length-remove trip place (omega arith) in
    let listed = c.requires.below.whole _ (omega arith) (c.requires.can.rule.without trip place served (omega arith)) in
    false≢true (sym c.if-not-has_trip.true ∙ c.has_trip.ensures.1 (subst (Contains (trips_of c.args.rows.now))
    (sym (c.as_slice.ensures.value ∙ c.without_rider.ensures)) listed))
