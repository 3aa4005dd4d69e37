use Rattle.std.specs.Prelude.{◌≡◌, ℕ, ◌<◌, ◌⊎◌, false, List, length, slice_index_or}
use Rattle.request_book.specs.declared.values.batch_rider.Rider.{Rider}
use Rattle.stop_orders.specs.declared.task.settled_rider.SettledRider.{SettledRider}
use Rattle.stop_orders.specs.task.Settled.{no_rider}
use Rattle.dispatch_engine.specs.limits.Requests.{request_at}
use Rattle.dispatch_engine.specs.lemmas.limits.NamedPromises.{kept_leg}

-- the rider with the pickup that was promised
abbrev pub kept_rider : ℕ → Rider → SettledRider → SettledRider
kept_rider wait request rider = record rider { leg = kept_leg wait request rider.leg; lapsed = false }

-- who is held has the promised limit, the others stay
pub record AreKept (wait : ℕ) (requests : List Rider) (plain : List SettledRider) (Held : ℕ → Type 0) (before after : List SettledRider) : Type 0 where
  pub count : length after ≡ length before
  pub each : (r : ℕ) → r < length before
      → (Held r × (slice_index_or after r no_rider ≡ kept_rider wait (request_at requests r) (slice_index_or plain r no_rider)))
      ⊎ ((Held r → ⊥) × (slice_index_or after r no_rider ≡ slice_index_or before r no_rider))
