-- Header lines, read as their fields.
use Rattle.std.proofs.Common.{◌≡◌, ℕ, true, List, ◌∷◌, ◌++◌, [], Some, length, refl}
use Rattle.input_rows.proofs.Common.{default_config, next_record, script_header, strip_bom}
use Rattle.pool_base.specs.Header.{party_header}
use Rattle.pool_io.specs.lemmas.Records.{header_fields, is_record}
use Rattle.input_rows.specs.script.Word.{columns_of, header_of}
use Rattle.input_rows.specs.declared.script.version.ScriptVersion.{ScriptVersion}
use Rattle.input_rows.specs.declared.script.version.ScriptVersion.TheVariants.{One, Two}
use Rattle.csv.specs.declared.parser.State.TheVariants as st

-- a header line that is read as its fields
pub record IsHeader (header : List ℕ) (k : ℕ) : Type 0 where
  pub read : (tail : List ℕ) → next_record default_config st.StartRecord [] [] (header ++ 10 ∷ tail) ≡ Some (header_fields header, st.StartRecord, tail)
  pub marked : (tail : List ℕ) → strip_bom (header ++ 10 ∷ tail) ≡ header ++ 10 ∷ tail
  pub same : is_record (header_fields header) (header_fields header) ≡ true
  pub columns : length (header_fields header) ≡ k

pub IsHeader-script : IsHeader script_header 7
unfolding next_record strip_bom
IsHeader-script = record { read = λ tail. refl; marked = λ tail. refl; same = refl; columns = refl }

IsHeader-party : IsHeader party_header 8
unfolding next_record strip_bom
IsHeader-party = record { read = λ tail. refl; marked = λ tail. refl; same = refl; columns = refl }

pub IsHeader-of : (version : ScriptVersion) → IsHeader (header_of version) (columns_of version)
IsHeader-of One = IsHeader-script
IsHeader-of Two = IsHeader-party
