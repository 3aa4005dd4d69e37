use Rattle.pool_io.specs.Faults.{one_more}
use Rattle.std.specs.Prelude.{ℕ, Bool, ◌+◌, ◌&&◌, None, Some, map, option_map, nat_lt, nat_le, if◌then◌else◌}
use Rattle.std.specs.List.{filter_map}
use Rattle.request_book.specs.values.Batch.{Batch}
use Rattle.request_book.specs.declared.values.rider.BookRider.{BookRider}
use Rattle.request_book.specs.declared.values.rider.Status.TheVariants.{Expired}
use Rattle.request_book.specs.declared.values.state.State.{State}
use Rattle.request_book.specs.values.Keyed.{by_key}
use Rattle.request_book.specs.values.Rider.{is_active, pool_promise, with_status}

-- the rider is in the pool, and their wait is over
abbrev pub is_over : ℕ → ℕ → BookRider → Bool
is_over wait now r = is_active r.status && nat_lt (r.time + wait) now

-- the rider after a seal: whose wait is over expires
abbrev pub after_seal : ℕ → ℕ → BookRider → BookRider
after_seal wait now r = if is_over wait now r then with_status Expired r else r

-- the batch of a seal: all vehicles; whose wait is over, by rising id; who is then in the pool and asked by
-- now, by rising id
unfoldable pub batch_of : ℕ → State → ℕ → Batch
batch_of wait s now = record {
  number = one_more s.batches;
  sealed_at = now;
  vehicles = s.vehicles;
  riders = by_key (λ r. r.id) (filter_map (λ r.
      if nat_le r.time now
      then option_map (λ promise. record { id = r.id; origin = r.origin; destination = r.destination; time = r.time; party = r.party; promise = promise }) (pool_promise r.status)
      else None) (map (after_seal wait now) s.riders));
  expired = by_key (λ id. id) (filter_map (λ r. if is_over wait now r then Some r.id else None) s.riders);
}
