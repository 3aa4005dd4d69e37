use Rattle.std.specs.Prelude.{◌≡◌, ℕ, ◌<◌, ◌≤◌, length}
use Rattle.pool_io.specs.Table.{Table}
use Rattle.input_rows.specs.declared.script.version.ScriptVersion.{ScriptVersion}
use Rattle.input_rows.specs.script.Word.{columns_of}

-- a row of a script, which has at most 200,000 of them, and the columns of its version
pub record IsScriptRow (table : Table) (row : ℕ) (version : ScriptVersion) : Type 0 where
  pub within : row < length table.records
  pub few : length table.records ≤ 200000
  pub columns : table.columns ≡ columns_of version
