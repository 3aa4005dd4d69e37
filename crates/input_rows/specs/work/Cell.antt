use Rattle.std.specs.Prelude.{ℕ, ◌<◌, ◌≤◌, length}
use Rattle.pool_io.specs.Table.{Table}

-- a cell of a file, which has at most 200,000 rows and 8 columns
pub record IsCell (table : Table) (row column : ℕ) : Type 0 where
  pub within : row < length table.records
  pub few : length table.records ≤ 200000
  pub inside : column < table.columns
  pub narrow : column < 8
