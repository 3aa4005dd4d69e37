use Rattle.std.proofs.Common.{rules, ◌≡◌, ℕ, suc, ◌<◌, ◌≤◌, ◌^◌, false, cond, List, [], ◌∷◌, ◌++◌, Some, map, decimal, refl, ap, arith}
use Rattle.input_rows.proofs.Common.{list_any, or_from, next_record, default_config, number_up_to, Field, field_text, csv_line}
use Rattle.std.proofs.lemmas.Bool.{ne_eqb}
use Rattle.std.proofs.lemmas.List.{append-nil, append_assoc}
use Rattle.std.proofs.lemmas.Str.Parse.{IsNumeralModel, numerals_by_fold, tells_by_index}
use Rattle.std.proofs.lemmas.Fmt.{decimal_nonempty, digits_decimal, digits_value-decimal}
use Rattle.csv.specs.Writing.{default_writer, field_text as written, fields_text, needs_byte, quoted, is_blank, row_text as written_row}
use Rattle.csv.proofs.RoundTrip.{read-write-many}
use Rattle.pool_base.specs.Number.{IsDigit, AllDigits, IsNumeralOf}
use Rattle.pool_base.specs.lemmas.Number.{value_after}
use Rattle.pool_base.proofs.lemmas.NumeralLemmas.{is_numeral-digits, number_up_to-given}
use Rattle.input_rows.specs.declared.made.row.Field.TheVariants.{Number}
use Rattle.csv.specs.declared.parser.State.TheVariants as st

-- numerals are read as std reads them
own : IsNumeralModel AllDigits (value_after 0)
own = numerals_by_fold AllDigits tells_by_index value_after (record { empty = λ n. refl; more = λ n c cs _. refl })

-- what is written for a number is a numeral of it
pub numeral : (n : ℕ) → n < 2 ^ 64 → IsNumeralOf n (decimal n)
numeral n small = search (rules, decimal_nonempty, digits_decimal, own, digits_value-decimal)

-- a number's text is read as the number
pub number_up_to-decimal : (most n : ℕ) → n ≤ most → most < 2 ^ 64 → number_up_to most (decimal n) ≡ Some n
number_up_to-decimal most n within small = search (rules, numeral, number_up_to-given, is_numeral-digits)

-- the text of a number of the files
pub small_number : (n : ℕ) → n ≤ 1000000000 → number_up_to 1000000000 (decimal n) ≡ Some n
small_number n small = number_up_to-decimal 1000000000 n small (omega arith)

-- the number of a field is a number of the files
abbrev pub Fits : Field → Type 0
Fits (Number n) = n ≤ 1000000000
Fits _ = Unit {0}

abbrev pub AllFit : List Field → Type 0
AllFit [] = Unit {0}
AllFit (field ∷ fields) = Fits field × AllFit fields

digit_is_plain : (c : ℕ) → IsDigit c → needs_byte default_writer c ≡ false
digit_is_plain c digit = search (rules, ne_eqb)

digits_are_plain : (cs : List ℕ) → AllDigits cs → list_any (needs_byte default_writer) cs ≡ false
digits_are_plain [] digits = refl
digits_are_plain (c ∷ cs) digits =
    or_from (needs_byte default_writer c) (list_any (needs_byte default_writer) cs) (digit_is_plain c (digits 0 (omega arith)))
    (digits_are_plain cs (λ k within. digits (suc k) (omega arith)))

field_is_plain : (field : Field) → Fits field → list_any (needs_byte default_writer) (field_text field) ≡ false
field_is_plain (Number n) fits = digits_are_plain (decimal n) (numeral n (omega arith)).digits
field_is_plain _ fits = refl

written_as : (field : Field) → Fits field → written default_writer (field_text field) ≡ field_text field
written_as field fits = ap (λ b. cond b (quoted default_writer (field_text field)) (field_text field)) (field_is_plain field fits)

rest_written : (field : Field) (fields : List Field) → AllFit (field ∷ fields) → 44 ∷ csv_line (field ∷ fields) ≡ fields_text default_writer
    (map field_text (field ∷ fields)) ++ 10 ∷ []
unfolding fields_text
rest_written field [] fit = rw (written_as field fit.0, append-nil (field_text field)) refl
rest_written field (next ∷ fields) fit = search (rules, written_as, append_assoc, (rest_written next fields fit.1))

row_written : (first second : Field) (fields : List Field) → AllFit (first ∷ second ∷ fields) →
    csv_line (first ∷ second ∷ fields) ≡ written_row default_writer (map field_text (first ∷ second ∷ fields))
unfolding is_blank
row_written first second fields fit = search (rules, rest_written, written_as, append_assoc)

-- a row of two fields or more is read as its fields
pub row_read : (first second : Field) (fields : List Field) (tail : List ℕ) → AllFit (first ∷ second ∷ fields) →
    next_record default_config st.StartRecord [] [] (csv_line (first ∷ second ∷ fields) ++ tail) ≡ Some
    (map field_text (first ∷ second ∷ fields), st.StartRecord, tail)
row_read first second fields tail fit = search (rules, row_written, read-write-many)
