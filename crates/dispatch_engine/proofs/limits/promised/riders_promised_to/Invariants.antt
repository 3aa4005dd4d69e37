use Rattle.std.proofs.Common.{◌≡◌, ◌≤◌, length, filter}
use Rattle.dispatch_engine.proofs.Common.{range_with_len, request_at, is_promised_to}
use Rattle.dispatch_engine.proofs.limits.promised.riders_promised_to.Given as goal

abbrev pub invariant-loop-number : goal.invariant-loop-number
invariant-loop-number l = record {
  so_far : l.held.items ≡ filter (λ k. is_promised_to l.vehicle (request_at l.requests k)) (range_with_len 0 l.number);
  few : length l.held.items ≤ l.most;
}
