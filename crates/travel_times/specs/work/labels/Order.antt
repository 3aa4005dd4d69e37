use Rattle.std.specs.Prelude.{◌≡◌, ℕ, ◌+◌, ◌-◌, ◌*◌, ◌<◌, ◌==◌, ◌&&◌, nat_lt, List, count_by, length, slice_index}
use Rattle.road_network.specs.declared.arc.Arc.{Arc}
use Rattle.travel_times.specs.labels.Rank.{degree}

-- a number by which nodes stand by rank
abbrev pub key_of : List Arc → ℕ → ℕ
key_of arcs node = (1000000 - degree arcs node) * 100000 + node

-- the first n nodes, by rank
pub record IsNodeOrder (arcs : List Arc) (n : ℕ) (order : List ℕ) : Type 0 where
  pub each : length order ≡ n
  pub within : (r : ℕ) → r < length order → slice_index order r < n
  pub rising : (r s : ℕ) → r < s → s < length order → key_of arcs (slice_index order r) < key_of arcs (slice_index order s)
  pub all : (node : ℕ) → node < n → (r : ℕ) × (r < length order) × (slice_index order r ≡ node)

-- how many arcs from the first k nodes reach a node
abbrev pub reaching_before : List Arc → ℕ → ℕ → ℕ
reaching_before arcs k node = count_by (λ arc. arc.to == node && nat_lt arc.from k) arcs
