use Rattle.std.proofs.Common.{◌≡◌, drop, map, vec_len, vec_capacity}
use Rattle.request_book.proofs.Common.{waits_again, KeysDiffer, changed_in_turn}
use Rattle.request_book.proofs.register.closing.release.Given as goal

abbrev pub invariant-loop-rider : goal.invariant-loop-rider
invariant-loop-rider l = record {
  turn : changed_in_turn (λ r. r.id) waits_again (map (λ r. r.id) (drop l.rider-index l.batch)) l.riders.items ≡ changed_in_turn (λ r. r.id) waits_again
      (map (λ r. r.id) l.batch) l.initial.riders.items;
  ids : l.ids.names ≡ map (λ r. r.id) l.riders.items;
  differ : KeysDiffer (λ r. r.id) l.riders.items;
  len : vec_len l.riders ≡ vec_len l.initial.riders;
  capacity : vec_capacity l.riders ≡ vec_capacity l.initial.riders;
}
