-- Rows that are usable as before, but for one vehicle.
use Rattle.std.specs.Prelude.{◌≡◌, ◌≢◌, ℕ, ◌<◌, length}
use Rattle.plan_rules.specs.Graph.{Graph, row_vehicle}
use Rattle.plan_rules.specs.Multipliers.{Usable}

-- the two agree on the rows of all vehicles but this one
abbrev pub AgreeApart : Graph → ℕ → Usable → Usable → Type 0
AgreeApart g v u w = (k : ℕ) → k < length g.rows → row_vehicle g k ≢ v → u k ≡ w k
