use Rattle.std.specs.Prelude.{◌≡◌, ℕ, ◌+◌, ◌<◌, ◌==◌, ◌⊎◌, List, count_by}
use Rattle.road_network.specs.declared.arc.Arc.{Arc}

-- how many arcs leave or reach a node; an arc from a node to itself counts twice
abbrev pub degree : List Arc → ℕ → ℕ
degree arcs node = count_by (λ arc. arc.from == node) arcs + count_by (λ arc. arc.to == node) arcs

-- the rank of the first node is lower: more arcs leave or reach it, or as many, and its index is lower
abbrev pub IsOfLowerRank : List Arc → ℕ → ℕ → Type 0
IsOfLowerRank arcs a b = (degree arcs b < degree arcs a) ⊎ ((degree arcs a ≡ degree arcs b) × (a < b))
