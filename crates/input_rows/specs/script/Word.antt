use Rattle.std.specs.Prelude.{ℕ, ◌-◌, List, [], ◌∷◌, Option, codes}
use Rattle.std.specs.List.{find}
use Rattle.std.specs.Str.{bytes_eq}
use Rattle.pool_base.specs.Header.{script_header, party_header}
use Rattle.input_rows.specs.declared.script.version.ScriptVersion.{ScriptVersion}
use Rattle.input_rows.specs.declared.script.version.ScriptVersion.TheVariants.{One, Two}
use Rattle.input_rows.specs.declared.script.word.Word.{Word}
use Rattle.input_rows.specs.declared.script.word.Word.TheVariants.{Submit, Cancel, Report, Pickup, Dropoff, Seal}

-- the word of a command
abbrev pub command_word : Word → List ℕ
command_word Submit = codes "submit"
command_word Cancel = codes "cancel"
command_word Report = codes "report"
command_word Pickup = codes "pickup"
command_word Dropoff = codes "dropoff"
command_word Seal = codes "seal"

-- the command that a field names
unfoldable pub word_of : List ℕ → Option Word
word_of field = find (λ word. bytes_eq (command_word word) field) (Submit ∷ Cancel ∷ Report ∷ Pickup ∷ Dropoff ∷ Seal ∷ [])

-- how many columns a script has: the second version adds the party
abbrev pub columns_of : ScriptVersion → ℕ
columns_of One = 7
columns_of Two = 8

-- the header line of a script
abbrev pub header_of : ScriptVersion → List ℕ
header_of One = script_header
header_of Two = party_header

-- how many of the columns behind its word a command uses
abbrev pub used_by : ScriptVersion → Word → ℕ
used_by version Submit = columns_of version - 3
used_by _ Cancel = 1
used_by _ Seal = 1
used_by _ _ = 3
