use Rattle.std.specs.Prelude.{ℕ, ◌+◌, ◌&&◌, List, [], ◌∷◌, Result, Ok, Err, map, length, slice_index_or, nat_lt, ◌==◌, if◌then◌else◌}
use Rattle.std.specs.List.{filter, range_with_len}
use Rattle.pool_base.specs.Distinct.{distinct}
use Rattle.pool_base.specs.InOrder.{◌>>=◌, all_or_first}
use Rattle.pool_base.specs.Numeral.{number_at}
use Rattle.input_rows.specs.declared.script.fault.ScriptFault.{ScriptFault}
use Rattle.input_rows.specs.declared.script.fault.ScriptFault.TheVariants.{TooManyRows}
use Rattle.input_rows.specs.declared.script.script_row.ScriptRow.{ScriptRow}
use Rattle.input_rows.specs.declared.script.version.ScriptVersion.{ScriptVersion}
use Rattle.input_rows.specs.script.ScriptRow.{script_row_in}
use Rattle.input_rows.specs.script.Round.{NumberedLanes}

-- the round of a number: sixteen lanes, each with its commands in the order of the rows
abbrev pub round_of : List ScriptRow → ℕ → NumberedLanes
round_of script_rows number =
    record { number = number; lanes = map (λ lane. map (λ l. l.command) (filter (λ l. l.round == number && l.lane == lane) script_rows)) (range_with_len 0 16) }

-- the rounds that records give, one for each number, or the first refusal; each row is read behind the round of the row
-- before it, the first behind round 0, which an empty row would have
abbrev pub script_of : ScriptVersion → List (List (List ℕ)) → Result (List NumberedLanes) ScriptFault
script_of version records =
    if nat_lt 200000 (length records) then Err TooManyRows
    else (all_or_first (λ place. script_row_in version (place + 1) (number_at (slice_index_or ([] ∷ records) place []) 0) (slice_index_or records place [])) (length records)
    >>= λ script_rows. Ok (map (round_of script_rows) (distinct (map (λ l. l.round) script_rows))))
