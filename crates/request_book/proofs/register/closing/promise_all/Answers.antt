use Rattle.std.proofs.Common.{◌+◌, drop, sym, ap, ◌∙◌, arith}
use Rattle.request_book.proofs.Common.{ChosenTrip, picks, trip_picks, promised_in_turn}
use Rattle.request_book.proofs.lemmas.register.CloseLemmas.{trips-more, trips-all}
use Rattle.request_book.proofs.register.closing.promise_all.Goals as goal

pub loop-trip-preserved : goal.loop-trip-preserved
loop-trip-preserved c =
    let batch = c.args.batch.now in
    let xs = c.args.chosen.now in
    let i = c.loop-trip.trip-index in
    let rs = c.loop-trip.riders.items in
    let inv = c.loop-trip.invariant in
    let t = c.trip-item.result in
    let e = c.promise_trip.ensures in
    record {
      turn =
          ap (promised_in_turn batch (picks (drop (i + 1) xs)))
          (e.promised
          ∙ ap (λ l. promised_in_turn batch (trip_picks t.vehicle l) rs) c.as_slice.ensures.value
          ∙ ap (λ (u : ChosenTrip). promised_in_turn batch (trip_picks u.vehicle u.stops.items) rs) c.trip-item.is)
          ∙ trips-more batch xs i t rs c.loop-trip-test.true ∙ inv.turn;
      ids = e.ids;
      differ = e.differ;
      len = omega (arith, inv.len, e.len);
      capacity = omega (arith, inv.capacity, e.capacity);
    }

pub returns-clause-promised : goal.returns-clause-promised
returns-clause-promised c =
    sym (trips-all c.args.batch.now c.args.chosen.now c.loop-trip.trip-index c.loop-trip.riders.items (omega arith)) ∙ c.loop-trip.invariant.turn
