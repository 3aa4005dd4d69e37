use Rattle.std.specs.Prelude.{ℕ, List, [], ◌∷◌, ◌++◌, codes}
use Rattle.std.specs.Fmt.{decimal}
use Rattle.input_rows.specs.declared.made.row.Field.{Field}
use Rattle.input_rows.specs.declared.made.row.Field.TheVariants.{Number, Report, Submit, Seal, Empty}

-- the text of a field
abbrev pub field_text : Field → List ℕ
field_text (Number n) = decimal n
field_text Report = codes "report"
field_text Submit = codes "submit"
field_text Seal = codes "seal"
field_text Empty = []

-- fields apart by commas, ended by a line feed
abbrev pub csv_line : List Field → List ℕ
csv_line [] = []
csv_line (field ∷ []) = field_text field ++ 10 ∷ []
csv_line (field ∷ next ∷ fields) = field_text field ++ 44 ∷ csv_line (next ∷ fields)
