use Rattle.std.specs.Prelude.{ℕ, ◌+◌, ◌-◌, ◌*◌, length}
use Rattle.plan_rules.specs.Graph.{Graph, riders_at, cost_at}

-- a number that rises as size falls, then as cost rises, then as the number of the row rises
unfoldable pub rank_value : ℕ → ℕ → ℕ → ℕ
rank_value size cost k = ((6 - size) * 1000000001 + cost) * 2000000 + k

-- the rank of a row
abbrev pub rank_of : Graph → ℕ → ℕ
rank_of g k = rank_value (length (riders_at g k)) (cost_at g k) k
