use Rattle.std.proofs.Common.{◌≡◌, vec_len}
use Rattle.travel_times.proofs.search.ring.empty_buckets.Given as goal

abbrev pub invariant-loop : goal.invariant-loop
invariant-loop l = vec_len l.buckets ≡ l.counter
