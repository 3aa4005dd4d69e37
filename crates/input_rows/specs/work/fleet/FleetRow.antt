use Rattle.std.specs.Prelude.{◌≡◌, ℕ, ◌<◌, ◌≤◌, length}
use Rattle.pool_io.specs.Table.{Table}

-- a row of a fleet, which has at most 500 of them and four columns
pub record IsFleetRow (table : Table) (row : ℕ) : Type 0 where
  pub within : row < length table.records
  pub few : length table.records ≤ 500
  pub columns : table.columns ≡ 4
