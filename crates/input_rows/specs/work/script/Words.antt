use Rattle.std.specs.Prelude.{ℕ, Bool, List, length, ◌==◌}
use Rattle.std.specs.Str.{bytes_eq}
use Rattle.pool_io.specs.Table.{field_at}
use Rattle.input_rows.specs.declared.script.word.Word.{Word}
use Rattle.input_rows.specs.script.Word.{command_word}

-- a field names a command
abbrev pub is_named : List ℕ → Word → Bool
is_named field word = bytes_eq (command_word word) field

-- a column is empty
abbrev pub is_empty_in : List (List ℕ) → ℕ → Bool
is_empty_in fields column = length (field_at fields column) == 0
