use Rattle.std.specs.Prelude.{ℕ, ◌==◌, not, if◌then◌else◌, List, [], ◌∷◌, length, slice_index_or, Result, Ok, Err}
use Rattle.std.specs.List.{slice_split, position_from}
use Rattle.std.specs.Option.{option_map_or}
use Rattle.std.specs.Str.{bytes_eq}
use Rattle.std.specs.Cmp.Lexicographic.{pointwise}
use Rattle.csv.specs.Reading.{records, default_config, strip_bom}
use Rattle.pool_io.specs.declared.records.RowFault.{RowFault}
use Rattle.pool_io.specs.declared.records.RowFault.TheVariants.{Header, UnequalLength}

-- the rows of a file under its header: how many columns there are, and the fields of each row
pub record Table : Type 0 where
  pub columns : ℕ
  pub records : List (List (List ℕ))

-- the fields of the record at a row, no field where there is none
abbrev pub record_at : Table → ℕ → List (List ℕ)
record_at table row = slice_index_or table.records row []

-- the bytes of the field in a column of a record, none where there is no field
abbrev pub field_at : List (List ℕ) → ℕ → List ℕ
field_at fields column = slice_index_or fields column []

-- what records give under a header: the rows after the first record, which has the header's fields byte for byte, or
-- the first of them with another number of fields; rows count from 1
abbrev pub rows_under : List (List ℕ) → List (List (List ℕ)) → Result Table RowFault
rows_under names [] = Err (Header 0)
rows_under names (first ∷ rows) =
    if pointwise bytes_eq first names
    then option_map_or (λ row. Err (UnequalLength row)) (position_from (λ fields. not (length fields == length names)) 1 rows)
    (Ok (record { columns = length names; records = rows }))
    else Err (Header (length first))

-- the table that bytes hold under a header line, whose fields commas part, or the first refusal; the bytes hold records as the `csv` crate
-- reads them with its defaults: fields between commas, quotes round a field, records ended by a line feed, a carriage
-- return or both, empty lines skipped, a byte order mark at the start skipped
abbrev pub table_of : List ℕ → List ℕ → Result Table RowFault
table_of header bytes = rows_under (slice_split (λ byte. byte == 44) header) (records default_config (strip_bom bytes))
