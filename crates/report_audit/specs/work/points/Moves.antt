-- Moves, read as pairs of places of two lists.
use Rattle.std.specs.Prelude.{◌≡◌, ◌≢◌, ℕ, ◌<◌, List, All, AllPairs, length, slice_index, slice_index_or}
use Rattle.dispatch_engine.specs.outcome.Moves.{move_line, origins_of, starts_of}
use Rattle.dispatch_engine.specs.outcome.Told.{rider_id}
use Rattle.dispatch_engine.specs.lemmas.outcome.Named.{vehicle_id}
use Rattle.rebalancing.specs.Matching.{IsMatching}
use Rattle.request_book.specs.declared.values.outcome.MoveLine.{MoveLine}
use Rattle.stop_orders.specs.task.Settled.{rider_at, vehicle_at}
use Rattle.stop_orders.specs.declared.task.settled.Settled.{Settled}

-- what is read where there is no move
abbrev pub no_move : MoveLine
no_move = record { vehicle = 0; rider = 0; seconds = 0 }

-- the pair is of places of two lists of so many
abbrev pub IsPairWithin : ℕ → ℕ → ℕ × ℕ → Type 0
IsPairWithin n m p = (p.0 < n) × (p.1 < m)

-- the pair has a lower first place than the next one, and another second one
abbrev pub CanPrecede : ℕ × ℕ → ℕ × ℕ → Type 0
CanPrecede next p = (p.0 < next.0) × (p.1 ≢ next.1)

-- the pairs are a matching by rising first place, and the first moves, of this number, tell them
pub record TellsMoves (tau : ℕ → ℕ → ℕ) (settled : Settled) (idle left : List ℕ) (moves : List MoveLine) (count : ℕ) (pairs : List (ℕ × ℕ)) : Type 0 where
  pub matching : IsMatching tau (starts_of settled idle) (origins_of settled left) pairs
  pub rising : AllPairs (λ (p q : ℕ × ℕ). p.0 < q.0) pairs
  pub sized : length pairs ≡ count
  pub told : (k : ℕ) → k < count → slice_index_or moves k no_move ≡ move_line tau settled idle left (slice_index_or pairs k (0, 0))

-- idle vehicles and riders exist, each stands once, all at places of the table, and no two have one id
pub record HaveOwnPlaces (points : ℕ) (settled : Settled) (idle left : List ℕ) : Type 0 where
  pub vehicles : All (λ v. v < length settled.vehicles) idle
  pub riders : All (λ r. r < length settled.riders) left
  pub starts : All (λ v. (vehicle_at settled v).start < points) idle
  pub origins : All (λ r. (rider_at settled r).leg.origin < points) left
  pub own_vehicles : (i j : ℕ) → i < length idle → j < length idle → vehicle_id settled (slice_index idle i) ≡ vehicle_id settled (slice_index idle j) → i ≡ j
  pub own_riders : (i j : ℕ) → i < length left → j < length left → rider_id settled (slice_index left i) ≡ rider_id settled (slice_index left j) → i ≡ j
