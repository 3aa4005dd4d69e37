use Rattle.std.proofs.Common.{◌≡◌, ◌≢◌, ◌+◌, ◌*◌, ◌∷◌, ◌∙◌, length, arith, sym, length-append, add-one}
use Rattle.pool_io.proofs.Common.{fields_of, cut_fields, cut_rows}
use Rattle.pool_io.proofs.CutFields.{length-cut_fields}
use Rattle.pool_io.proofs.CutRows.{cut_rows-append}
use Rattle.pool_io.proofs.EvenRows.{even_rows-all, even_rows-uneven}
use Rattle.pool_io.proofs.records.rows_after.Goals as goal

pub returns-then-not-found-clause-table : goal.returns-then-not-found-clause-table
returns-then-not-found-clause-table c bytes first read =
    let inv = c.records.invariant in
    let all = rw c.if-not-found.true at (c.in_ok-found.ensures.next bytes (first ∷ cut_rows c.records.count c.args.columns
    (cut_fields 0 c.records.ends.items c.records.bytes.items)) (inv.3 bytes first read)) in (
      cut_rows c.records.count c.args.columns (cut_fields 0 c.records.ends.items c.records.bytes.items),
      all,
      rw c.of.ensures
          (even_rows-all c.args.columns c.records.count (cut_fields 0 c.records.ends.items c.records.bytes.items) inv.0),
    )

pub returns-then-len-columns-clause-refused : goal.returns-then-len-columns-clause-refused
returns-then-len-columns-clause-refused c known bytes first read =
    let inv = c.records.invariant in
    let next = rw c.if-not-found.false at (c.in_ok-found.ensures.next bytes (first ∷ cut_rows c.records.count c.args.columns
    (cut_fields 0 c.records.ends.items c.records.bytes.items)) (inv.3 bytes first read)) in
    let uneven : length (fields_of c.read_next.new.row) ≢ c.args.columns = rw c.len.ensures at c.if-len-columns.true in
    even_rows-uneven bytes first (fields_of c.read_next.new.row) c.args.columns c.records.count (cut_fields 0 c.records.ends.items c.records.bytes.items)
    c.read_next.new.reader inv.0 uneven next

pub records-preserved : goal.records-preserved
records-preserved c =
    let inv = c.records.invariant in
    let even : length (fields_of c.read_next.new.row) ≡ c.args.columns = rw c.len.ensures at c.if-len-columns.false in
    let added = c.in_ok-append_fields.ensures.added in
    let flat : length (cut_fields 0 c.append_fields.new.ends.items c.append_fields.new.bytes.items) ≡ (c.records.count + 1) * c.args.columns =
    rw (added, length-append) (omega arith) in (
      flat,
      omega (arith, flat, length-cut_fields 0 c.append_fields.new.ends.items c.append_fields.new.bytes.items, c.in_ok-append_fields.ensures.small),
      c.in_ok-append_fields.ensures.ends,
      λ bytes first read.
          let next = rw c.if-not-found.false at (c.in_ok-found.ensures.next bytes (first ∷ cut_rows c.records.count c.args.columns
          (cut_fields 0 c.records.ends.items c.records.bytes.items)) (inv.3 bytes first read)) in
          rw (
            added,
            add-one,
            cut_rows-append c.records.count c.args.columns (cut_fields 0 c.records.ends.items c.records.bytes.items)
                (fields_of c.read_next.new.row) inv.0 even,
          ) next,
    )

pub of-requires-clause-flat : goal.of-requires-clause-flat
of-requires-clause-flat c = sym (length-cut_fields 0 c.records.ends.items c.records.bytes.items) ∙ c.records.invariant.0
