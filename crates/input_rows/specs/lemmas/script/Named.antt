use Rattle.std.specs.Prelude.{ℕ, ◌+◌, List, [], ◌∷◌, Result, slice_index_or, map}
use Rattle.input_rows.specs.declared.script.fault.ScriptFault.{ScriptFault}
use Rattle.input_rows.specs.declared.script.script_row.ScriptRow.{ScriptRow}
use Rattle.input_rows.specs.declared.script.version.ScriptVersion.{ScriptVersion}
use Rattle.input_rows.specs.script.ScriptRow.{script_row_in}
use Rattle.input_rows.specs.script.Script.{round_of}
use Rattle.pool_base.specs.Distinct.{distinct}
use Rattle.pool_base.specs.Numeral.{number_at}
use Rattle.input_rows.specs.script.Round.{NumberedLanes}

-- the rounds of rows, one for each number
abbrev pub rounds_of : List ScriptRow → List NumberedLanes
rounds_of script_rows = map (round_of script_rows) (distinct (map (λ l. l.round) script_rows))

-- the number in the first column of the row before a place, and 0 before the first row
abbrev pub round_before : List (List (List ℕ)) → ℕ → ℕ
round_before records place = number_at (slice_index_or ([] ∷ records) place []) 0

-- the row at a place, behind the row before it, or why it is refused
abbrev pub script_row_at : ScriptVersion → List (List (List ℕ)) → ℕ → Result ScriptRow ScriptFault
script_row_at version records place = script_row_in version (place + 1) (round_before records place) (slice_index_or records place [])
