-- Runs of vehicles that are grown together.
use Rattle.std.specs.Prelude.{◌≡◌, ℕ, ◌+◌, ◌<◌, ◌≤◌, List, [], ◌∷◌, length, slice_index, slice_index_or}
use Rattle.stop_orders.specs.declared.task.settled.Settled.{Settled}
use Rattle.trip_graph.specs.declared.vehicle.level.Level.{Level}
use Rattle.trip_graph.specs.declared.vehicle.trip_of.TripOf.{TripOf}
use Rattle.trip_graph.specs.vehicle.Rows.{IsLevelOf}

-- the lists of the vehicles from one up to another are empty
abbrev pub AreEmpty : List (List TripOf) → ℕ → ℕ → Type 0
AreEmpty lists from end = (v : ℕ) → from ≤ v → v < end → slice_index_or lists v [] ≡ []

-- the vehicles, rising from one up to another, are all those there whose lists are not empty
unfoldable pub AreNext : List (List TripOf) → ℕ → List ℕ → ℕ → Type 0
AreNext lists from [] end = (from ≤ end) × AreEmpty lists from end
AreNext lists from (v ∷ vs) end = (from ≤ v) × AreEmpty lists from v × AreNext lists (v + 1) vs end

-- each vehicle is one of so many
abbrev pub AreWithin : ℕ → List ℕ → Type 0
AreWithin count vehicles = (k : ℕ) → k < length vehicles → slice_index vehicles k < count

-- what each vehicle gave, with so much room
pub record AreLevelsOf (tau : ℕ → ℕ → ℕ) (settled : Settled) (size room : ℕ) (vehicles : List ℕ) (levels : List Level) : Type 0 where
  pub count : length levels ≡ length vehicles
  pub each : (k : ℕ) (d : Level) → k < length levels → IsLevelOf tau settled (slice_index vehicles k) size room (slice_index_or levels k d)
