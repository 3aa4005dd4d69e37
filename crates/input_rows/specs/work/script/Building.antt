use Rattle.std.specs.Prelude.{ℕ, ◌-◌, Bool, ◌&&◌, List, [], ◌∷◌, ◌++◌, length, map, nat_lt, ◌==◌, slice_index_or, slice_set, if◌then◌else◌}
use Rattle.std.specs.List.{filter}
use Rattle.request_book.specs.declared.values.command.Command.{Command}
use Rattle.input_rows.specs.declared.script.script_row.ScriptRow.{ScriptRow}
use Rattle.input_rows.specs.script.Round.{NumberedLanes, empty_round, with_command}

-- the commands of a round's lane, in the order of the rows
abbrev pub commands_of : List ScriptRow → ℕ → ℕ → List Command
commands_of script_rows number lane = map (λ l. l.command) (filter (λ l. l.round == number && l.lane == lane) script_rows)

-- the last round, or one without commands
abbrev pub round_of_last : List NumberedLanes → NumberedLanes
round_of_last rounds = slice_index_or rounds (length rounds - 1) (empty_round 0)

-- the last round has this number
abbrev pub joins : List NumberedLanes → ℕ → Bool
joins rounds number = nat_lt 0 (length rounds) && (round_of_last rounds).number == number

-- rounds with one more row: in the last round where it has the row's number, else in a new one
unfoldable pub with_script_row : List NumberedLanes → ScriptRow → List NumberedLanes
with_script_row rounds script_row =
    if joins rounds script_row.round
    then slice_set rounds (length rounds - 1) (with_command (round_of_last rounds) script_row.lane script_row.command)
    else rounds ++ with_command (empty_round script_row.round) script_row.lane script_row.command ∷ []
