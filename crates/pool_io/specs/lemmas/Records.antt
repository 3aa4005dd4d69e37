use Rattle.std.specs.Prelude.{ℕ, Bool, List, ◌==◌, not, length, Result, Ok, Err}
use Rattle.std.specs.Str.{bytes_eq}
use Rattle.std.specs.Cmp.Lexicographic.{pointwise}
use Rattle.csv.specs.Reading.{records, default_config, strip_bom}
use Rattle.std.specs.List.{position_from, slice_split}
use Rattle.std.specs.Option.{option_map_or}
use Rattle.pool_io.specs.declared.records.RowFault.{RowFault}
use Rattle.pool_io.specs.declared.records.RowFault.TheVariants.{UnequalLength}
use Rattle.pool_io.specs.Table.{Table}

-- the fields of a header line, which commas part
abbrev pub header_fields : List ℕ → List (List ℕ)
header_fields header = slice_split (λ byte. byte == 44) header

-- the rows, or the first with another number of fields; rows count from 1
abbrev pub even_rows : ℕ → List (List (List ℕ)) → Result Table RowFault
even_rows columns rows =
    option_map_or (λ row. Err (UnequalLength row)) (position_from (λ fields. not (length fields == columns)) 1 rows)
    (Ok (record { columns = columns; records = rows }))

-- the records that bytes hold, as the `csv` crate reads them with its defaults
abbrev pub records_of : List ℕ → List (List (List ℕ))
records_of bytes = records default_config (strip_bom bytes)

-- whether two records have as many fields, each equal byte for byte
abbrev pub is_record : List (List ℕ) → List (List ℕ) → Bool
is_record fields others = pointwise bytes_eq fields others
