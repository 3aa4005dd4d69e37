-- The lines that are accepted one by one are a script's.
use Rattle.std.proofs.lemmas.Bool.Decides.{nat_tests}
use Rattle.std.proofs.lemmas.Bool.{eq-eqb, eqb-true}
use Rattle.std.proofs.Common.{
  ◌≡◌,
  ℕ,
  zero,
  suc,
  ◌+◌,
  ◌<◌,
  ◌≤◌,
  Bool,
  true,
  false,
  not,
  cond,
  eqb,
  nat_lt,
  get_or,
  List,
  [],
  ◌∷◌,
  ◌++◌,
  map,
  take,
  length,
  Option,
  Some,
  None,
  Result,
  Ok,
  Err,
  refl,
  sym,
  ap,
  ◌∙◌,
  add-one,
  append_assoc,
  length-append,
  arith,
}
use Rattle.std.specs.Prelude.{Contains}
use Rattle.std.specs.List.{flat_map, position_from}
use Rattle.std.specs.Option.{ok_or, option_map_or}
use Rattle.std.proofs.lemmas.List.{take_all, take_more}
use Rattle.pool_base.specs.Distinct.{distinct}
use Rattle.pool_base.specs.Numeral.{number_at, number_in, number_up_to}
use Rattle.pool_io.specs.declared.records.RowFault.{RowFault}
use Rattle.pool_io.specs.declared.records.RowFault.TheVariants.{UnequalLength}
use Rattle.pool_io.specs.lemmas.Records.{header_fields, records_of}
use Rattle.pool_io.specs.Table.{Table}
use Rattle.input_rows.specs.script.ScriptRow.{party_in}
use Rattle.input_rows.specs.script.Word.{columns_of, header_of, word_of}
use Rattle.input_rows.specs.declared.script.version.ScriptVersion.TheVariants.{One, Two}
use Rattle.input_rows.specs.declared.script.word.Word.{Word}
use Rattle.input_rows.specs.declared.script.word.Word.TheVariants as word
use Rattle.input_rows.specs.live.AsScript.{accepted_lines, IsScriptOf, next_line, text_with_header}
use Rattle.input_rows.specs.live.Lines.{lines_in}
use Rattle.input_rows.specs.live.Rows.{accepted, judged, next_row, row_judged, table_judged}
use Rattle.input_rows.specs.declared.live.judge.Judged.{Judged}
use Rattle.input_rows.specs.declared.live.judge.Judged.TheVariants.{Accepted}
use Rattle.input_rows.proofs.Common.{
  default_config,
  field_at,
  leaves_empty,
  next_record,
  records,
  records_from,
  refused_where,
  round_of,
  script_of,
  script_row_in,
  ScriptFault,
  ScriptRow,
  ScriptVersion,
  table_of,
  then_ok,
  all_or_first,
  all_or_first-ok,
  three_in,
  command_in,
  Command,
  Number,
  LaneRange,
  RoundBack,
  UnknownCommand,
  ExtraField,
  SealLane,
  ◌>>=◌,
}
use Rattle.input_rows.proofs.lemmas.script.ScriptRowLemmas.{IsRead-script_row_in}
use Rattle.input_rows.proofs.live.LineReadLemmas.{AllLinesPlain, AllPlain, lines-plain, whole-read}
use Rattle.input_rows.proofs.script.HeaderLemmas.{IsHeader, IsHeader-of}
use Rattle.csv.specs.Reading.{records_next}
use Rattle.csv.specs.declared.parser.State.TheVariants as st

-- The fields of a row give the same row under each number.
ok-same : {A F : Type 0} (o : Option A) (one other : F) (x : A) → ok_or o one ≡ Ok x → ok_or o other ≡ Ok x
ok-same (Some y) one other x is = let e : y ≡ x = cc in ap Ok e
ok-same None one other x is = absurd cc

passed-same : {F : Type 0} (b : Bool) (one other : F) (u : Unit {0}) → refused_where b one ≡ Ok u → refused_where b other ≡ Ok u
passed-same true one other u is = absurd cc
passed-same false one other u is = refl

then-same : {A B F : Type 0} (r s : Result A F) (f g : A → Result B F) (y : B) → ((x : A) → r ≡ Ok x → s ≡ Ok x) →
    ((x : A) → r ≡ Ok x → f x ≡ Ok y → g x ≡ Ok y) → (r >>= f) ≡ Ok y → (s >>= g) ≡ Ok y
then-same r s f g y same next is = then_ok r f y ((s >>= g) ≡ Ok y) is (λ x first rest. ap (λ q. q >>= g) (same x first) ∙ next x first rest)

number-same : (n : ℕ) (fields : List (List ℕ)) (column x : ℕ) → number_in Number 1 fields column ≡ Ok x → number_in Number n fields column ≡ Ok x
number-same n fields column x is = ok-same (number_up_to 1000000000 (get_or fields column [])) (Number 1 (column + 1)) (Number n (column + 1)) x is

party-same : (version : ScriptVersion) (n : ℕ) (fields : List (List ℕ)) (x : ℕ) → party_in version 1 fields ≡ Ok x → party_in version n fields ≡ Ok x
unfolding party_in
party-same One n fields x is = is
party-same Two n fields x is = then-same (number_in Number 1 fields 7) (number_in Number n fields 7) _ _ x (number-same n fields 7)
    (λ party first rest. grind (arith, nat_tests)) is

three-same : (command : ℕ → ℕ → ℕ → Command) (n : ℕ) (fields : List (List ℕ)) (x : Command) → three_in command 1 fields ≡ Ok x →
    three_in command n fields ≡ Ok x
unfolding three_in
three-same command n fields x is =
    then-same (number_in Number 1 fields 3) (number_in Number n fields 3) _ _ x (number-same n fields 3) (λ a first rest.
    then-same (number_in Number 1 fields 4) (number_in Number n fields 4) _ _ x (number-same n fields 4) (λ b second rest.
    then-same (number_in Number 1 fields 5) (number_in Number n fields 5) _ _ x (number-same n fields 5) (λ c third rest. rest) rest) rest) is

command-same : (version : ScriptVersion) (n : ℕ) (fields : List (List ℕ)) (w : Word) (x : Command) → command_in version 1 fields w ≡ Ok x →
    command_in version n fields w ≡ Ok x
unfolding command_in
command-same version n fields word.Submit x is =
    then-same (number_in Number 1 fields 3) (number_in Number n fields 3) _ _ x (number-same n fields 3) (λ a first rest.
    then-same (number_in Number 1 fields 4) (number_in Number n fields 4) _ _ x (number-same n fields 4) (λ b second rest.
    then-same (number_in Number 1 fields 5) (number_in Number n fields 5) _ _ x (number-same n fields 5) (λ c third rest.
    then-same (number_in Number 1 fields 6) (number_in Number n fields 6) _ _ x (number-same n fields 6) (λ d fourth rest.
    then-same (party_in version 1 fields) (party_in version n fields) _ _ x (party-same version n fields) (λ e fifth rest. rest) rest) rest) rest) rest) is
command-same version n fields word.Cancel x is = then-same (number_in Number 1 fields 3) (number_in Number n fields 3) _ _ x (number-same n fields 3)
    (λ a first rest. rest) is
command-same version n fields word.Report x is = three-same _ n fields x is
command-same version n fields word.Pickup x is = three-same _ n fields x is
command-same version n fields word.Dropoff x is = three-same _ n fields x is
command-same version n fields word.Seal x is = then-same (number_in Number 1 fields 3) (number_in Number n fields 3) _ _ x (number-same n fields 3)
    (λ a first rest. rest) is

row-same : (version : ScriptVersion) (n last : ℕ) (fields : List (List ℕ)) (x : ScriptRow) → script_row_in version 1 last fields ≡ Ok x →
    script_row_in version n last fields ≡ Ok x
unfolding script_row_in
row-same version n last fields x is =
    then-same (number_in Number 1 fields 0) (number_in Number n fields 0) _ _ x (number-same n fields 0) (λ round first rest.
    then-same (number_in Number 1 fields 1) (number_in Number n fields 1) _ _ x (number-same n fields 1) (λ lane second rest.
    then-same (refused_where (nat_lt 15 lane) (LaneRange 1)) (refused_where (nat_lt 15 lane) (LaneRange n)) _ _ x
    (passed-same (nat_lt 15 lane) (LaneRange 1) (LaneRange n)) (λ u third rest.
    then-same (refused_where (nat_lt round last) (RoundBack 1)) (refused_where (nat_lt round last) (RoundBack n)) _ _ x
    (passed-same (nat_lt round last) (RoundBack 1) (RoundBack n)) (λ v fourth rest.
    then-same (ok_or (word_of (field_at fields 2)) (UnknownCommand 1)) (ok_or (word_of (field_at fields 2)) (UnknownCommand n)) _ _ x
    (ok-same (word_of (field_at fields 2)) (UnknownCommand 1) (UnknownCommand n)) (λ w fifth rest.
    then-same (command_in version 1 fields w) (command_in version n fields w) _ _ x (command-same version n fields w) (λ command sixth rest.
    then-same (refused_where (not (leaves_empty version fields w)) (ExtraField 1)) (refused_where (not (leaves_empty version fields w)) (ExtraField n)) _ _ x
    (passed-same (not (leaves_empty version fields w)) (ExtraField 1) (ExtraField n)) (λ y seventh rest.
    then-same (refused_where (elim w [ word.Seal ↦ not (eqb lane 0) | _ ↦ false ]) (SealLane 1))
    (refused_where (elim w [ word.Seal ↦ not (eqb lane 0) | _ ↦ false ]) (SealLane n)) _ _ x
    (passed-same (elim w [ word.Seal ↦ not (eqb lane 0) | _ ↦ false ]) (SealLane 1) (SealLane n)) (λ z eighth rest. rest)
    rest) rest) rest) rest) rest) rest) rest) is

-- A line that is accepted gives one record.
pub record IsRowLine (version : ScriptVersion) (last : ℕ) (line : List ℕ) (row : ScriptRow) : Type 0 where
  pub fields : List (List ℕ)
  pub followed : (tail : List ℕ) → next_record default_config st.StartRecord [] [] (line ++ 10 ∷ tail) ≡ Some (fields, st.StartRecord, tail)
  pub size : length fields ≡ columns_of version
  pub is : script_row_in version 1 last fields ≡ Ok row

-- the text of a header and one more line, as records
two-records : (header line : List ℕ) (k n : ℕ) (all : List (List ℕ)) → IsHeader header k →
    next_record default_config st.StartRecord [] [] line ≡ Some (all, st.StartRecord, [])
    → records_from default_config (suc (suc (suc n))) st.StartRecord (header ++ 10 ∷ line) ≡ header_fields header ∷ all ∷ []
unfolding records_from next_record
two-records header line k n all is read =
    ap (records_next (records_from default_config (suc (suc n)))) (is.read line)
    ∙ ap (λ r. header_fields header ∷ records_next (records_from default_config (suc n)) r) read

row-of : (r : Result ScriptRow ScriptFault) (row : ScriptRow) → row_judged r ≡ Accepted row → r ≡ Ok row
row-of (Ok x) row is = let e : x ≡ row = cc in ap Ok e
row-of (Err fault) row is = absurd cc

-- the table of one record, by its number of fields
abbrev one_table : ℕ → List (List ℕ) → Bool → Result Table RowFault
one_table k all b = option_map_or (λ row. Err (UnequalLength row)) (cond (not b) (Some 1) None) (Ok (record { columns = k; records = all ∷ [] }))

one-row : (version : ScriptVersion) (last k : ℕ) (all : List (List ℕ)) (row : ScriptRow) (b : Bool) → eqb (length all) k ≡ b →
    table_judged version last (one_table k all b) ≡ Accepted row
    → (length all ≡ k) × (script_row_in version 1 last all ≡ Ok row)
one-row version last k all row true same is = (eqb-true (length all) k same, row-of (script_row_in version 1 last all) row is)
one-row version last k all row false same is = absurd cc

three-more : (n : ℕ) → 2 ≤ n → (m : ℕ) × (n + 1 ≡ suc (suc (suc m)))
three-more zero some = absurd (omega arith)
three-more (suc zero) some = absurd (omega arith)
three-more (suc (suc m)) some = (m, add-one (suc (suc m)))

module _ (version : ScriptVersion) where
  abbrev top : List ℕ
  top = header_of version

  -- the table of a header and one line that is a record
  table-is : (line : List ℕ) (all : List (List ℕ)) → next_record default_config st.StartRecord [] [] line ≡ Some (all, st.StartRecord, []) →
      table_of top (top ++ 10 ∷ line) ≡ one_table (columns_of version) all (eqb (length all) (columns_of version))
  table-is line all read =
      let is = IsHeader-of version in
      let more = three-more (length (top ++ 10 ∷ line)) (grind (arith, nat_tests, is.columns)) in
      let found : records_of (top ++ 10 ∷ line) ≡ header_fields top ∷ all ∷ [] =
      ap (records default_config) (is.marked line) ∙ ap (λ n. records_from default_config n st.StartRecord (top ++ 10 ∷ line)) more.1 ∙
      two-records top line (columns_of version) more.0 all is read in
      grind (arith, nat_tests, found, is.same, is.columns)

  row-line : (last : ℕ) (line : List ℕ) (row : ScriptRow) → AllPlain line → judged version last line ≡ Accepted row → IsRowLine version last line row
  row-line last [] row plain is = absurd cc
  row-line last (c ∷ line) row plain is =
      let (all, r) = whole-read c line plain in
      let table : table_judged version last (table_of top (top ++ 10 ∷ c ∷ line)) ≡ Accepted row = grind (arith, nat_tests) in
      let one = one-row version last (columns_of version) all row (eqb (length all) (columns_of version)) refl
      (ap (table_judged version last) (sym (table-is (c ∷ line) all r.alone)) ∙ table) in
      record { fields = all; followed = r.followed; size = one.0; is = one.1 }

-- rows, each behind the one before it
abbrev Chain : ScriptVersion → ℕ → List (List (List ℕ)) → List ScriptRow → Type 0
Chain version last [] [] = Unit {0}
Chain version last (fields ∷ more) (row ∷ rows) = (script_row_in version 1 last fields ≡ Ok row) × Chain version row.round more rows
Chain version last _ _ = ⊥

abbrev with_end : List ℕ → List ℕ
with_end line = line ++ 10 ∷ []

-- lines that were accepted, by their records
record AreRowLines (version : ScriptVersion) (last : ℕ) (lines : List (List ℕ)) (rows : List ScriptRow) : Type 0 where
  found : List (List (List ℕ))
  read : (n : ℕ) → length found < n → records_from default_config n st.StartRecord (flat_map with_end lines) ≡ found
  few : length found ≤ length (flat_map with_end lines)
  even : (row : ℕ) → position_from (λ fields. not (eqb (length fields) (columns_of version))) row found ≡ None
  chain : Chain version last found rows

none-read : (n : ℕ) → 0 < n → records_from default_config n st.StartRecord [] ≡ []
unfolding records_from next_record
none-read zero some = absurd (omega arith)
none-read (suc n) some = refl

more-read : (n : ℕ) (line rest : List ℕ) (fields : List (List ℕ)) (found : List (List (List ℕ))) →
    ((tail : List ℕ) → next_record default_config st.StartRecord [] [] (line ++ 10 ∷ tail) ≡ Some (fields, st.StartRecord, tail))
    → ((m : ℕ) → length found < m → records_from default_config m st.StartRecord rest ≡ found) → suc (length found) < n →
    records_from default_config n st.StartRecord (with_end line ++ rest) ≡ fields ∷ found
unfolding records_from
more-read zero line rest fields found here behind some = absurd (omega arith)
more-read (suc n) line rest fields found here behind some =
    ap (λ t. records_next (records_from default_config n) (next_record default_config st.StartRecord [] [] t)) (append_assoc line (10 ∷ []) rest)
    ∙ ap (records_next (records_from default_config n)) (here rest)
    ∙ ap (λ r. fields ∷ r) (behind n (omega (arith, some)))

all-lines : (version : ScriptVersion) (last : ℕ) (lines : List (List ℕ)) → AllLinesPlain lines →
    AreRowLines version last (accepted_lines version last lines) (accepted version last lines)
all-lines version last [] plain = record { found = []; read = none-read; few = omega arith; even = λ row. refl; chain = tt }
all-lines version last (line ∷ lines) plain = by (λ n. all-lines version n lines plain.1) (judged version last line) refl
  where
    by : ((n : ℕ) → AreRowLines version n (accepted_lines version n lines) (accepted version n lines)) → (j : Judged) → judged version last line ≡ j
        → AreRowLines version last (next_line last line j (λ round. accepted_lines version round lines))
        (next_row last j (λ round. accepted version round lines))
    by behind (Accepted row) is =
        let here = row-line version last line row plain.0 is in
        let rest = behind row.round in
        record {
          found = here.fields ∷ rest.found;
          read = λ n some. more-read n line (flat_map with_end (accepted_lines version row.round lines)) here.fields rest.found here.followed rest.read some;
          few = (let a = length-append (with_end line) (flat_map with_end (accepted_lines version row.round lines)) in let b =
              length-append line (10 ∷ []) in let f = rest.few in omega (arith, a, b, f));
          even = λ n. ap (λ b. cond (not b) (Some n) (position_from (λ fields. not (eqb (length fields) (columns_of version))) (n + 1) rest.found))
              (eq-eqb (length here.fields) (columns_of version) here.size) ∙ rest.even (n + 1);
          chain = (here.is, rest.chain);
        }
    by behind _ is = behind last

-- The rows of a chain, read one by one.
chain-long : (version : ScriptVersion) (last : ℕ) (found : List (List (List ℕ))) (rows : List ScriptRow) → Chain version last found rows →
    length found ≡ length rows
chain-long version last [] [] chain = refl
chain-long version last [] (row ∷ rows) chain = absurd chain
chain-long version last (fields ∷ found) [] chain = absurd chain
chain-long version last (fields ∷ found) (row ∷ rows) chain = ap suc (chain-long version row.round found rows chain.1)

chain-at : (version : ScriptVersion) (last : ℕ) (before : List (List ℕ)) (found : List (List (List ℕ))) (rows : List ScriptRow) (d : ScriptRow) →
    number_at before 0 ≡ last → Chain version last found rows → (k : ℕ) → k < length rows
    → script_row_in version 1 (number_at (get_or (before ∷ found) k []) 0) (get_or found k []) ≡ Ok (get_or rows k d)
chain-at version last before [] [] d same chain k less = absurd (omega (arith, less))
chain-at version last before [] (row ∷ rows) d same chain k less = absurd chain
chain-at version last before (fields ∷ found) [] d same chain k less = absurd chain
chain-at version last before (fields ∷ found) (row ∷ rows) d same chain zero less = ap (λ n. script_row_in version 1 n fields) same ∙ chain.0
chain-at version last before (fields ∷ found) (row ∷ rows) d same chain (suc k) less =
    chain-at version row.round fields found rows d (sym (IsRead-script_row_in version 1 last fields row chain.0).named) chain.1 k (omega (arith, less))

rows-in-order : {F : Type 0} (at : ℕ → Result ScriptRow F) (rows : List ScriptRow) (d : ScriptRow) → ((k : ℕ) → k < length rows → at k ≡ Ok (get_or rows k d)) →
    (n : ℕ) → n ≤ length rows → all_or_first at n ≡ Ok (take n rows)
rows-in-order at rows d gives zero few = refl
rows-in-order at rows d gives (suc n) few =
    ap (all_or_first at) (sym (add-one n)) ∙ all_or_first-ok at n (take n rows) (get_or rows n d) (rows-in-order at rows d gives n (omega (arith, few)))
    (gives n (omega (arith, few)))
    ∙ ap Ok (sym (take_more rows n d (omega (arith, few))) ∙ ap (λ m. take m rows) (add-one n))

first-zero : number_at [] 0 ≡ 0
unfolding number_up_to
first-zero = refl

abbrev row_at : ScriptVersion → List (List (List ℕ)) → ℕ → Result ScriptRow ScriptFault
row_at version found place = script_row_in version (place + 1) (number_at (get_or ([] ∷ found) place []) 0) (get_or found place [])

chain-rows : (version : ScriptVersion) (found : List (List (List ℕ))) (rows : List ScriptRow) → Chain version 0 found rows →
    all_or_first (row_at version found) (length found) ≡ Ok rows
chain-rows version [] [] chain = refl
chain-rows version [] (row ∷ rows) chain = absurd chain
chain-rows version (fields ∷ more) [] chain = absurd chain
chain-rows version (fields ∷ more) (row ∷ rows) chain =
    let found = fields ∷ more in
    let all = row ∷ rows in
    let gives : (k : ℕ) → k < length all → row_at version found k ≡ Ok (get_or all k row) =
    λ k less. row-same version (k + 1) (number_at (get_or ([] ∷ found) k []) 0) (get_or found k []) (get_or all k row)
    (chain-at version 0 [] found all row first-zero chain k less) in
    let long = chain-long version 0 found all chain in
    ap (all_or_first (row_at version found)) long ∙ rows-in-order (row_at version found) all row gives (length all) (omega arith) ∙
    ap Ok (take_all (length all) all (omega arith))

head-read : (header body : List ℕ) (k n : ℕ) (found : List (List (List ℕ))) → IsHeader header k → records_from default_config n st.StartRecord body ≡ found
    → records_from default_config (suc n) st.StartRecord (header ++ 10 ∷ body) ≡ header_fields header ∷ found
unfolding records_from
head-read header body k n found is behind = ap (records_next (records_from default_config n)) (is.read body) ∙ ap (λ r. header_fields header ∷ r) behind

-- The law.
pub accepted-script : (version : ScriptVersion) (text : List ℕ) → (Contains text 34 → ⊥) → length (accepted version 0 (lines_in text)) ≤ 200000
    → IsScriptOf version (text_with_header version (accepted_lines version 0 (lines_in text))) (accepted version 0 (lines_in text))
accepted-script version text none few =
    let rows : List ScriptRow = accepted version 0 (lines_in text) in
    let lines : List (List ℕ) = accepted_lines version 0 (lines_in text) in
    let are = all-lines version 0 (lines_in text) (lines-plain text none) in
    let long : length are.found ≡ length rows = chain-long version 0 are.found rows are.chain in
    record {
      table = record { columns = columns_of version; records = are.found };
      read = as-table version lines are.found are.read are.few are.even;
      rounds = script-is version are.found rows long few (chain-rows version are.found rows are.chain);
    }
  where
    as-table : (version : ScriptVersion) (lines : List (List ℕ)) (found : List (List (List ℕ))) →
        ((n : ℕ) → length found < n → records_from default_config n st.StartRecord (flat_map with_end lines) ≡ found)
        → length found ≤ length (flat_map with_end lines) → ((row : ℕ) → position_from (λ fields. not (eqb (length fields) (columns_of version))) row found ≡
        None)
        → table_of (header_of version) (text_with_header version lines) ≡ Ok (record { columns = columns_of version; records = found })
    as-table version lines found read short even =
        let is = IsHeader-of version in
        let body : List ℕ = flat_map with_end lines in
        let whole : List ℕ = header_of version ++ 10 ∷ body in
        let size : length whole ≡ length (header_of version) + suc (length body) = length-append (header_of version) (10 ∷ body) in
        let first : records_from default_config (suc (length whole)) st.StartRecord whole ≡ header_fields (header_of version) ∷ found =
        head-read (header_of version) body (columns_of version) (length whole) found is (read (length whole) (omega (arith, size, short))) in
        let all : records_of whole ≡ header_fields (header_of version) ∷ found =
        ap (records default_config) (is.marked body) ∙ ap (λ n. records_from default_config n st.StartRecord whole) (add-one (length whole)) ∙ first in
        let even_one = even 1 in
        grind (arith, nat_tests, all, is.same, is.columns, even_one)

    script-is : (version : ScriptVersion) (found : List (List (List ℕ))) (rows : List ScriptRow) → length found ≡ length rows → length rows ≤ 200000 →
        all_or_first (row_at version found) (length found) ≡ Ok rows
        → script_of version found ≡ Ok (map (round_of rows) (distinct (map (λ l. l.round) rows)))
    script-is version found rows long few gives = grind (arith, nat_tests, gives, long, few)
