use Rattle.std.proofs.lemmas.Bool.Decides.{nat_tests}
use Rattle.std.proofs.Common.{
  rules,
  ◌≡◌,
  ◌≢◌,
  ℕ,
  zero,
  suc,
  ◌+◌,
  ◌<◌,
  ◌≤◌,
  not,
  cond,
  eqb,
  List,
  [],
  ◌∷◌,
  Some,
  None,
  Ok,
  map,
  length,
  refl,
  ap,
  ◌∙◌,
  add-one,
  arith,
}
use Rattle.input_rows.proofs.Common.{
  position_from,
  length-map,
  next_record,
  default_config,
  records_from,
  strip_bom,
  table_of,
  Field,
  field_text,
  text_under,
  csv_line,
  csv_lines,
  fleet_header,
  network_header,
}
use Rattle.std.proofs.lemmas.Bool.{eq-eqb}
use Rattle.std.proofs.lemmas.List.{length-append}
use Rattle.pool_io.specs.lemmas.Records.{header_fields, records_of}
use Rattle.input_rows.proofs.script.HeaderLemmas.{IsHeader}
use Rattle.input_rows.proofs.made.FieldLemmas.{AllFit, row_read}
use Rattle.csv.specs.declared.parser.State.TheVariants as st

-- the texts of a row's fields
abbrev pub fields_of : List Field → List (List ℕ)
fields_of row = map field_text row

-- rows of so many fields, whose numbers are numbers of the files
abbrev pub RowsFit : ℕ → List (List Field) → Type 0
RowsFit k [] = Unit {0}
RowsFit k (row ∷ rows) = (length row ≡ k) × AllFit row × RowsFit k rows

some_byte : (fields : List Field) → fields ≢ [] → 1 ≤ length (csv_line fields)
some_byte [] some = absurd (some refl)
some_byte (field ∷ []) some = omega (arith, length-append (field_text field) (10 ∷ []))
some_byte (field ∷ next ∷ fields) some = omega (arith, length-append (field_text field) (44 ∷ csv_line (next ∷ fields)))

rows_long : (k : ℕ) (rows : List (List Field)) → 2 ≤ k → RowsFit k rows → length rows ≤ length (csv_lines rows)
rows_long k [] two fit = omega arith
rows_long k (row ∷ rows) two fit = search (rules, some_byte, length-append, (rows_long k rows two fit.2))

-- rows are read as their fields
rows_read : (k n : ℕ) (rows : List (List Field)) → 2 ≤ k → length rows < n → RowsFit k rows →
    records_from default_config n st.StartRecord (csv_lines rows) ≡ map fields_of rows
unfolding records_from next_record
rows_read k zero rows two fuel fit = absurd (omega arith)
rows_read k (suc n) [] two fuel fit = refl
rows_read k (suc n) ([] ∷ rows) two fuel fit = (let size : 0 ≡ k = fit.0 in absurd (omega arith))
rows_read k (suc n) ((first ∷ []) ∷ rows) two fuel fit = (let size : suc 0 ≡ k = fit.0 in absurd (omega arith))
rows_read k (suc n) ((first ∷ second ∷ fields) ∷ rows) two fuel fit = search (rules, row_read, (rows_read k n rows two))

-- rows of one length are even
even : (k row : ℕ) (rows : List (List Field)) → RowsFit k rows → position_from (λ fields. not (eqb (length fields) k)) row (map fields_of rows) ≡ None
even k row [] fit = refl
even k row (fields ∷ rows) fit =
    let size : length (fields_of fields) ≡ k = length-map fields field_text ∙ fit.0 in
    ap (λ b. cond (not b) (Some row) (position_from (λ fs. not (eqb (length fs) k)) (row + 1) (map fields_of rows))) (eq-eqb (length (fields_of fields)) k size)
    ∙ even k (row + 1) rows fit.2

pub IsHeader-network : IsHeader network_header 3
unfolding next_record strip_bom
IsHeader-network = record { read = λ tail. refl; marked = λ tail. refl; same = refl; columns = refl }

pub IsHeader-fleet : IsHeader fleet_header 4
unfolding next_record strip_bom
IsHeader-fleet = record { read = λ tail. refl; marked = λ tail. refl; same = refl; columns = refl }

records_of-under : (header : List ℕ) (k : ℕ) (rows : List (List Field)) → IsHeader header k → 2 ≤ k → RowsFit k rows →
    records_of (text_under header rows) ≡ header_fields header ∷ map fields_of rows
unfolding records_from
records_of-under header k rows is two fit = search (rules, length-append, rows_long, add-one, rows_read)

-- a made text is read as its rows
pub table_of-under : (header : List ℕ) (k : ℕ) (rows : List (List Field)) → IsHeader header k → 2 ≤ k → RowsFit k rows →
    table_of header (text_under header rows) ≡ Ok (record { columns = k; records = map fields_of rows })
table_of-under header k rows is two fit = grind (arith, nat_tests, (records_of-under header k rows is two fit), (even k 1 rows fit))
