-- Rows of one round behind the rows before them.
use Rattle.std.specs.Prelude.{◌≡◌, ℕ, ◌<◌, ◌≤◌, ◌==◌, true, List, [], ◌∷◌, ◌++◌, Option, None, Some, All, filter, map, if◌then◌else◌}
use Rattle.std.specs.List.{list_any}
use Rattle.pool_base.specs.Distinct.{distinct}
use Rattle.dispatch_report.specs.Round.{round_line}
use Rattle.request_book.specs.declared.values.command.Command.{Command}
use Rattle.input_rows.specs.declared.script.script_row.ScriptRow.{ScriptRow}

-- the numbers of rows
abbrev pub round_numbers : List ScriptRow → List ℕ
round_numbers lines = map (λ l. l.round) lines

-- the commands that rows have in a lane
abbrev pub in_lane : List ScriptRow → ℕ → List Command
in_lane rows lane = map (λ l. l.command) (filter (λ l. l.lane == lane) rows)

-- numbers that end in one that is there already
pub record EndsWith (ns : List ℕ) (last : ℕ) (front : List ℕ) : Type 0 where
  pub ends : distinct ns ≡ front ++ last ∷ []
  pub here : list_any (λ n. n == last) ns ≡ true
  pub below : All (λ n. n ≤ last) ns

-- the round of the last row, if there are rows; those before it have lower numbers
pub data EndsIn (lines : List ScriptRow) : Option ℕ → Type 0 where
  in_none : lines ≡ [] → EndsIn lines None
  in_round : (front : List ℕ) (last : ℕ) → EndsWith (round_numbers lines) last front → All (λ n. n < last) front → EndsIn lines (Some last)

-- the round of the last row, or 0
abbrev pub last_of : Option ℕ → ℕ
last_of None = 0
last_of (Some round) = round

-- what is written before a row of a round: the line that begins it, unless it is the round of the row before
abbrev pub start_text : Option ℕ → ℕ → List ℕ
start_text None number = round_line number
start_text (Some last) number = if last == number then [] else round_line number
