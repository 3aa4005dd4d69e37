-- The accepted rows of a script whose lines are judged one by one.
use Rattle.std.specs.Prelude.{◌≡◌, ℕ, ◌+◌, ◌==◌, Bool, List, [], ◌∷◌, ◌++◌, Option, None, Some, Result, Ok, Err, length, nat_lt, option_map, if◌then◌else◌, ⊤}
use Rattle.pool_io.specs.Table.{Table, table_of}
use Rattle.pool_io.specs.declared.records.RowFault.{RowFault}
use Rattle.input_rows.specs.script.ScriptRow.{script_row_in, IsBehind}
use Rattle.input_rows.specs.script.Word.{header_of}
use Rattle.input_rows.specs.declared.script.fault.ScriptFault.{ScriptFault}
use Rattle.input_rows.specs.declared.script.script_row.ScriptRow.{ScriptRow}
use Rattle.input_rows.specs.declared.script.version.ScriptVersion.{ScriptVersion}
use Rattle.input_rows.specs.live.Lines.{lines_in}
use Rattle.input_rows.specs.declared.live.judge.Judged.{Judged}
use Rattle.input_rows.specs.declared.live.judge.Judged.TheVariants.{Empty, Accepted, Refused}
use Rattle.input_rows.specs.declared.live.judge.RowRefusal.TheVariants.{TooLong, UnequalLength, Own}

-- a row of a script, or why it is none
abbrev pub row_judged : Result ScriptRow ScriptFault → Judged
row_judged (Ok row) = Accepted row
row_judged (Err fault) = Refused (Own fault)

-- the rows under a header, behind a row of round `last`: none, or one; a line holds no more
abbrev pub records_judged : ScriptVersion → ℕ → List (List (List ℕ)) → Judged
records_judged version last [] = Empty
records_judged version last (fields ∷ []) = row_judged (script_row_in version 1 last fields)
records_judged version last _ = Refused UnequalLength

-- a table of rows, or why there is none
abbrev pub table_judged : ScriptVersion → ℕ → Result Table RowFault → Judged
table_judged version last (Ok table) = records_judged version last table.records
table_judged version last (Err fault) = Refused UnequalLength

-- a line behind a row of round `last`, read as the one row of a script
abbrev pub judged : ScriptVersion → ℕ → List ℕ → Judged
judged version last line =
    if length line == 0 then Empty
    else if nat_lt 65536 (length line) then Refused TooLong
    else table_judged version last (table_of (header_of version) (header_of version ++ 10 ∷ line))

-- an accepted row, and what is accepted behind it; or what is accepted behind a line that gives no row
abbrev pub next_row : ℕ → Judged → (ℕ → List ScriptRow) → List ScriptRow
next_row last (Accepted row) rest = row ∷ rest row.round
next_row last _ rest = rest last

-- the accepted rows of lines, behind a row of round `last`: each line is judged behind the row that was accepted last
abbrev pub accepted : ScriptVersion → ℕ → List (List ℕ) → List ScriptRow
accepted version last [] = []
accepted version last (line ∷ lines) = next_row last (judged version last line) (λ round. accepted version round lines)

-- the round of the row that came last, which no later row's is below; or 0, where none came
abbrev pub round_of_last : Bool → ℕ → ℕ
round_of_last came least = if came then least else 0

-- the least round that is later than this one, or of all rounds
abbrev pub least_behind : Option ℕ → ℕ
least_behind None = 0
least_behind (Some round) = round + 1

-- the rows to come, where the bytes to come are told
abbrev pub rows_to_come : ScriptVersion → ℕ → Option (List ℕ) → Option (List ScriptRow)
rows_to_come version last bytes = option_map (λ text. accepted version last (lines_in text)) bytes

-- the rows to come, where they are told, begin with these, and lose them
abbrev pub TakesRows : Option (List ScriptRow) → Option (List ScriptRow) → List ScriptRow → Type 0
TakesRows None new rows = ⊤
TakesRows (Some all) None rows = ⊥
TakesRows (Some all) (Some rest) rows = all ≡ rows ++ rest

-- no row is to come
abbrev pub NoRows : Option (List ScriptRow) → Type 0
NoRows None = ⊤
NoRows (Some all) = all ≡ []

-- the next row, or that there is none
abbrev pub GivesRow : Option (List ScriptRow) → Option (List ScriptRow) → Option ScriptRow → Type 0
GivesRow old new None = NoRows old
GivesRow old new (Some row) = TakesRows old new (row ∷ [])

-- the next row, if there is one, stands behind the row before it, and is the last then
abbrev pub ComesBehind : ℕ → ℕ → Option ScriptRow → Type 0
ComesBehind old new None = ⊤
ComesBehind old new (Some row) = IsBehind old row × (new ≡ row.round)
