use Rattle.std.specs.Prelude.{ℕ, ◌+◌, ◌-◌, ◌*◌, List, slice_index, nat_lt, if◌then◌else◌}
use Rattle.pool_base.specs.TravelTime.{never}
use Rattle.rebalancing.specs.Potentials.{pair_worth}

-- what is gained by a pair so many seconds apart; nothing where there is no way
abbrev pub weight_of : ℕ → ℕ
weight_of seconds = if nat_lt seconds never then pair_worth - seconds else 0

-- the weight of vehicle i and rider j in a flat table, row by row
abbrev pub weight_at : List ℕ → ℕ → ℕ → ℕ → ℕ
weight_at weights riders i j = slice_index weights (i * riders + j)
