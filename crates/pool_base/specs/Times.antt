use Rattle.std.specs.Prelude.{ℕ}
use Rattle.pool_base.specs.TravelTime.{cell_of}
use Rattle.pool_base.specs.declared.times.Times.{Times}

-- how many places a table has
abbrev pub point_count : Times → ℕ
point_count t = t.points

-- the seconds from one place to another, `never` where there is no way and outside the table
abbrev pub travel_time : Times → ℕ → ℕ → ℕ
travel_time t = cell_of t.points t.cells.items
