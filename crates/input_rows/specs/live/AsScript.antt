-- The script of a header and of the lines that are accepted one by one.
use Rattle.std.specs.Prelude.{◌≡◌, ℕ, List, [], ◌∷◌, ◌++◌, Ok, map}
use Rattle.std.specs.List.{flat_map}
use Rattle.pool_base.specs.Distinct.{distinct}
use Rattle.pool_io.specs.Table.{Table, table_of}
use Rattle.input_rows.specs.script.Script.{round_of, script_of}
use Rattle.input_rows.specs.script.Word.{header_of}
use Rattle.input_rows.specs.declared.script.script_row.ScriptRow.{ScriptRow}
use Rattle.input_rows.specs.declared.script.version.ScriptVersion.{ScriptVersion}
use Rattle.input_rows.specs.live.Rows.{judged}
use Rattle.input_rows.specs.declared.live.judge.Judged.{Judged}
use Rattle.input_rows.specs.declared.live.judge.Judged.TheVariants.{Accepted}

-- a line that is accepted, and those behind it; or those behind a line that gives no row
abbrev pub next_line : ℕ → List ℕ → Judged → (ℕ → List (List ℕ)) → List (List ℕ)
next_line last line (Accepted row) rest = line ∷ rest row.round
next_line last line _ rest = rest last

-- the lines that are accepted, behind a row of round `last`
abbrev pub accepted_lines : ScriptVersion → ℕ → List (List ℕ) → List (List ℕ)
accepted_lines version last [] = []
accepted_lines version last (line ∷ lines) = next_line last line (judged version last line) (λ round. accepted_lines version round lines)

-- the text of a header and of lines, each with its line feed
abbrev pub text_with_header : ScriptVersion → List (List ℕ) → List ℕ
text_with_header version lines = header_of version ++ 10 ∷ flat_map (λ line. line ++ 10 ∷ []) lines

-- the text is a script, and these are its rows
pub record IsScriptOf (version : ScriptVersion) (text : List ℕ) (rows : List ScriptRow) : Type 0 where
  pub table : Table
  pub read : table_of (header_of version) text ≡ Ok table
  pub rounds : script_of version table.records ≡ Ok (map (round_of rows) (distinct (map (λ l. l.round) rows)))
