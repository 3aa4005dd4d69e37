use Rattle.std.proofs.Common.{◌≡◌, drop, map, vec_len, vec_capacity}
use Rattle.request_book.proofs.Common.{picks, promised_in_turn, KeysDiffer}
use Rattle.request_book.proofs.register.closing.promise_all.Given as goal

abbrev pub invariant-loop-trip : goal.invariant-loop-trip
invariant-loop-trip l = record {
  turn : promised_in_turn l.batch (picks (drop l.trip-index l.chosen)) l.riders.items ≡ promised_in_turn l.batch (picks l.chosen) l.initial.riders.items;
  ids : l.ids.names ≡ map (λ r. r.id) l.riders.items;
  differ : KeysDiffer (λ r. r.id) l.riders.items;
  len : vec_len l.riders ≡ vec_len l.initial.riders;
  capacity : vec_capacity l.riders ≡ vec_capacity l.initial.riders;
}
