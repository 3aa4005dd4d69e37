use Rattle.std.proofs.Common.{◌≡◌, ℕ, List, [], ◌∷◌, Bor, length, map, refl, sym, ◌∙◌, arith}
use Rattle.pool_io.proofs.Common.{false≢true, length-map, fields_of, header_fields}
use Rattle.pool_io.proofs.RecordList.{records_of-begin}
use Rattle.pool_io.proofs.IsRecord.{is_record-other}
use Rattle.pool_io.proofs.UnderHeader.{table_under, refused_under}
use Rattle.pool_io.proofs.records.rows.Goals as goal

pub returns-then-not-found-clause-refused : goal.returns-then-not-found-clause-refused
returns-then-not-found-clause-refused c known =
    let none = rw c.if-not-found.true at (c.in_ok-found.ensures.next c.args.bytes.now [] c.reader_of-reader.ensures) in
    rw none refl

pub returns-then-not-is_header-clause-refused : goal.returns-then-not-is_header-clause-refused
returns-then-not-is_header-clause-refused c known =
    let next = rw c.if-not-found.false at (c.in_ok-found.ensures.next c.args.bytes.now [] c.reader_of-reader.ensures) in
    let all = records_of-begin c.args.bytes.now (fields_of c.read_next.new.row ∷ []) c.read_next.new.reader.state next.rest next.reached in
    let words : map (λ (word : Bor (List ℕ)). word.now) c.as_slice.result.now ≡ header_fields c.args.header.now = rw c.as_slice.ensures.value c.in-Ok.ensures in
    let differ : fields_of c.read_next.new.row ≡ header_fields c.args.header.now → ⊥ = λ e. false≢true
    (sym c.if-not-is_header.true ∙ c.is_header.ensures.1 (e ∙ sym words)) in
    rw (all.1, is_record-other (fields_of c.read_next.new.row) (header_fields c.args.header.now) differ, c.len.ensures) refl

pub returns-clause-table : goal.returns-clause-table
returns-clause-table c =
    let next = rw c.if-not-found.false at (c.in_ok-found.ensures.next c.args.bytes.now [] c.reader_of-reader.ensures) in
    let words : map (λ (word : Bor (List ℕ)). word.now) c.as_slice.result.now ≡ header_fields c.args.header.now = rw c.as_slice.ensures.value c.in-Ok.ensures in
    let same = c.is_header.ensures.0 c.if-not-is_header.false ∙ words in
    let long : length (header_fields c.args.header.now) ≡ c.len-2.result = rw (← c.in-Ok.ensures, length-map) (omega arith) in
    table_under c.rows_after.result c.args.bytes.now c.args.header.now c.len-2.result c.read_next.new.reader (rw same at next) long c.rows_after.ensures.table

pub returns-clause-refused : goal.returns-clause-refused
returns-clause-refused c =
    let next = rw c.if-not-found.false at (c.in_ok-found.ensures.next c.args.bytes.now [] c.reader_of-reader.ensures) in
    let words : map (λ (word : Bor (List ℕ)). word.now) c.as_slice.result.now ≡ header_fields c.args.header.now = rw c.as_slice.ensures.value c.in-Ok.ensures in
    let same = c.is_header.ensures.0 c.if-not-is_header.false ∙ words in
    let long : length (header_fields c.args.header.now) ≡ c.len-2.result = rw (← c.in-Ok.ensures, length-map) (omega arith) in
    refused_under c.rows_after.result c.args.bytes.now c.args.header.now c.len-2.result c.read_next.new.reader (rw same at next) long
    c.rows_after.ensures.refused
