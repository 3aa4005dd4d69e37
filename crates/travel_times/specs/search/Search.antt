use Rattle.std.specs.Prelude.{◌≡◌, ℕ, ◌+◌, ◌*◌, ◌<◌, ◌≤◌, ◌⊎◌, Bool, true, false, List, length, slice_index, slice_index_or, sum, count_by}
use Rattle.pool_base.specs.TravelTime.{longest}
use Rattle.road_network.specs.declared.hop.Hop.{Hop}

-- whether a node waits to have its arcs relaxed
abbrev pub waits : List Bool → ℕ → Bool
waits waiting node = slice_index_or waiting node false

-- how much is left to do: two for each second, and one for each node that waits
abbrev pub work_left : List ℕ → List Bool → ℕ
work_left seconds waiting = 2 * sum seconds + count_by (λ w. w) waiting

-- a node that waited is taken: it waits no longer, and nothing else changes
pub record IsNextTaken (waiting waiting' : List Bool) (node : ℕ) : Type 0 where
  pub within : node < length waiting
  pub waited : waits waiting node ≡ true
  pub same_length : length waiting' ≡ length waiting
  pub taken : waits waiting' node ≡ false
  pub others : (other : ℕ) → (other ≡ node → ⊥) → waits waiting' other ≡ waits waiting other
  pub fewer : count_by (λ w. w) waiting' + 1 ≡ count_by (λ w. w) waiting

-- a hop leads to a node that has at most the seconds by way of it, or past the longest time
abbrev pub IsHopRelaxed : ℕ → List ℕ → Hop → Type 0
IsHopRelaxed here seconds hop = (slice_index seconds hop.to ≤ here + hop.seconds) ⊎ (longest < here + hop.seconds)

-- the first hops of a node whose seconds are `here` are relaxed
pub record RelaxesHops (hops : List Hop) (count here : ℕ) (seconds : List ℕ) (waiting : List Bool) (seconds' : List ℕ) (waiting' : List Bool) : Type 0 where
  pub seconds_length : length seconds' ≡ length seconds
  pub waiting_length : length waiting' ≡ length waiting
  pub no_later : (node : ℕ) → slice_index seconds' node ≤ slice_index seconds node
  pub from : (node : ℕ) → ((slice_index seconds' node ≡ slice_index seconds node) × (waits waiting' node ≡ waits waiting node))
      ⊎ ((waits waiting' node ≡ true) × (slice_index seconds' node ≤ longest) × (slice_index seconds' node < slice_index seconds node) × ((k : ℕ) × (hop : Hop) × (k < count) × (k < length hops) × (slice_index_or hops k hop ≡ hop) × (hop.to ≡ node) × (slice_index seconds' node ≡ here + hop.seconds)))
  pub relaxed : (k : ℕ) (d : Hop) → k < count → k < length hops → IsHopRelaxed here seconds' (slice_index_or hops k d)
  pub less : work_left seconds' waiting' ≤ work_left seconds waiting
