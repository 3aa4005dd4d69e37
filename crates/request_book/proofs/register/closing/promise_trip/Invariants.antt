use Rattle.std.proofs.Common.{◌≡◌, drop, map, vec_len, vec_capacity}
use Rattle.request_book.proofs.Common.{trip_picks, promised_in_turn, KeysDiffer}
use Rattle.request_book.proofs.register.closing.promise_trip.Given as goal

abbrev pub invariant-loop-stop : goal.invariant-loop-stop
invariant-loop-stop l = record {
  turn : promised_in_turn l.batch (trip_picks l.vehicle (drop l.stop-index l.stops)) l.riders.items ≡ promised_in_turn l.batch (trip_picks l.vehicle l.stops)
      l.initial.riders.items;
  ids : l.ids.names ≡ map (λ r. r.id) l.riders.items;
  differ : KeysDiffer (λ r. r.id) l.riders.items;
  len : vec_len l.riders ≡ vec_len l.initial.riders;
  capacity : vec_capacity l.riders ≡ vec_capacity l.initial.riders;
}
