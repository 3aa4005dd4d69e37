use Rattle.std.specs.Prelude.{ℕ, ◌+◌, ◌-◌, ◌<◌, ◌≤◌, Bool, false, not, ◌&&◌, List, Result, Ok, Err, length, nat_lt, nat_le, ◌==◌, if◌then◌else◌}
use Rattle.std.specs.List.{list_all, range_with_len}
use Rattle.std.specs.Option.{ok_or}
use Rattle.pool_base.specs.InOrder.{◌>>=◌, refused_where}
use Rattle.pool_base.specs.Numeral.{number_in}
use Rattle.pool_io.specs.Table.{field_at}
use Rattle.request_book.specs.declared.values.command.Command.{Command}
use Rattle.request_book.specs.declared.values.command.Command.TheVariants.{Submit as submit, Cancel as cancel, Report as report, Pickup as pickup, Dropoff as dropoff, Seal as seal}
use Rattle.input_rows.specs.declared.script.fault.ScriptFault.{ScriptFault}
use Rattle.input_rows.specs.declared.script.fault.ScriptFault.TheVariants.{Number, LaneRange, RoundBack, UnknownCommand, Party, ExtraField, SealLane}
use Rattle.input_rows.specs.declared.script.script_row.ScriptRow.{ScriptRow}
use Rattle.input_rows.specs.declared.script.version.ScriptVersion.{ScriptVersion}
use Rattle.input_rows.specs.declared.script.version.ScriptVersion.TheVariants.{One, Two}
use Rattle.input_rows.specs.declared.script.word.Word.{Word}
use Rattle.input_rows.specs.declared.script.word.Word.TheVariants.{Submit, Cancel, Report, Pickup, Dropoff, Seal}
use Rattle.input_rows.specs.script.Round.{MayStand}
use Rattle.input_rows.specs.script.Word.{word_of, used_by, columns_of}

-- the party of a request: one person in the first version, and what the last column says in the second
unfoldable pub party_in : ScriptVersion → ℕ → List (List ℕ) → Result ℕ ScriptFault
party_in One row fields = Ok 1
party_in Two row fields = do
  party ← number_in Number row fields 7
  if nat_le 1 party && nat_le party 6 then Ok party else Err (Party row)

-- a command of the numbers in the three columns behind its word
unfoldable pub three_in : (ℕ → ℕ → ℕ → Command) → ℕ → List (List ℕ) → Result Command ScriptFault
three_in command row fields = do
  vehicle ← number_in Number row fields 3
  other ← number_in Number row fields 4
  time ← number_in Number row fields 5
  Ok (command vehicle other time)

-- the command of a row, by its word
unfoldable pub command_in : ScriptVersion → ℕ → List (List ℕ) → Word → Result Command ScriptFault
command_in version row fields Submit = do
  rider ← number_in Number row fields 3
  origin ← number_in Number row fields 4
  destination ← number_in Number row fields 5
  time ← number_in Number row fields 6
  party ← party_in version row fields
  Ok (submit rider origin destination time party)
command_in version row fields Cancel = number_in Number row fields 3 >>= λ rider. Ok (cancel rider)
command_in version row fields Report = three_in report row fields
command_in version row fields Pickup = three_in pickup row fields
command_in version row fields Dropoff = three_in dropoff row fields
command_in version row fields Seal = number_in Number row fields 3 >>= λ now. Ok (seal now)

-- every column behind those that a command uses is empty
unfoldable pub leaves_empty : ScriptVersion → List (List ℕ) → Word → Bool
leaves_empty version fields word =
    list_all (λ column. length (field_at fields column) == 0) (range_with_len (3 + used_by version word) (columns_of version - (3 + used_by version word)))

-- a row behind a row of this round, or the first refusal; rows count from 1
unfoldable pub script_row_in : ScriptVersion → ℕ → ℕ → List (List ℕ) → Result ScriptRow ScriptFault
script_row_in version row last fields = do
  round ← number_in Number row fields 0
  lane ← number_in Number row fields 1
  _ ← refused_where (nat_lt 15 lane) (LaneRange row)
  _ ← refused_where (nat_lt round last) (RoundBack row)
  word ← ok_or (word_of (field_at fields 2)) (UnknownCommand row)
  command ← command_in version row fields word
  _ ← refused_where (not (leaves_empty version fields word)) (ExtraField row)
  _ ← refused_where (elim word [ Seal ↦ not (lane == 0) | _ ↦ false ]) (SealLane row)
  Ok (record { round = round; lane = lane; command = command })

-- what a row keeps that stands behind a row of a round
pub record IsBehind (last : ℕ) (script_row : ScriptRow) : Type 0 where
  pub round : last ≤ script_row.round
  pub number : script_row.round ≤ 1000000000
  pub lane : script_row.lane < 16
  pub stands : MayStand script_row.lane script_row.command
