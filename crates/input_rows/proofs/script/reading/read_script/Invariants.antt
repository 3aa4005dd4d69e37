use Rattle.std.proofs.Common.{◌≡◌, ℕ, List, Ok}
use Rattle.std.specs.List.{All}
use Rattle.input_rows.proofs.Common.{IsRound, all_or_first, ScriptRow, ScriptVersion, NumberedLanes, round_before, script_row_at}
use Rattle.input_rows.proofs.script.ScriptLemmas.{Built}
use Rattle.input_rows.proofs.script.reading.read_script.Given as goal

-- what stands after so many rows
pub record HasReadRows (version : ScriptVersion) (records : List (List (List ℕ))) (row last : ℕ) (rounds : List NumberedLanes) : Type 0 where
  pub script_rows : List ScriptRow
  pub read : all_or_first (script_row_at version records) row ≡ Ok script_rows
  pub built : Built script_rows last rounds
  pub before : last ≡ round_before records row
  pub kept : All IsRound rounds

abbrev pub invariant-loop-row : goal.invariant-loop-row
invariant-loop-row l = HasReadRows l.version l.rows.records l.row l.last l.rounds.items
