-- Nodes that are named by their turns.
use Rattle.std.specs.Prelude.{◌≡◌, ℕ, ◌<◌, List, length, slice_index, slice_index_or}
use Rattle.road_network.specs.declared.arc.Arc.{Arc}

-- the turn of a node; numbers past the end stand for themselves
abbrev pub turn_of : List ℕ → ℕ → ℕ
turn_of turns node = slice_index_or turns node node

-- an arc between the nodes' new numbers
abbrev pub renamed : (ℕ → ℕ) → Arc → Arc
renamed number arc = record { from = number arc.from; to = number arc.to; seconds = arc.seconds }

-- each of the nodes has a turn below their number, and stands at it in the other list
pub record AreTurns (turns nodes : List ℕ) : Type 0 where
  pub same_length : length nodes ≡ length turns
  pub below : (node : ℕ) → node < length turns → slice_index turns node < length turns
  pub back : (node : ℕ) → node < length turns → slice_index nodes (slice_index turns node) ≡ node
