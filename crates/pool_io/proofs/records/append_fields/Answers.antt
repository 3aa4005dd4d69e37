use Rattle.std.proofs.Common.{◌≡◌, ◌+◌, [], ◌∷◌, ◌++◌, ◌<◌, true, take, length, arith, sym, ap, ◌∙◌, append_assoc, length-append}
use Rattle.pool_io.proofs.Common.{take_more, fields_of, cut_fields}
use Rattle.pool_io.proofs.CutFields.{cut_fields-more, ends_more}
use Rattle.std.specs.Result.{is_ok}
use Rattle.pool_io.proofs.FieldGet.{field_is_there, field_is}
use Rattle.pool_io.proofs.records.append_fields.Goals as goal

pub unwrap-field-requires : goal.unwrap-field-requires
unwrap-field-requires c = field_is_there c.get.result (fields_of c.args.row.now) c.loop-place.place (omega arith) c.get.ensures.value

pub loop-place-preserved : goal.loop-place-preserved
loop-place-preserved c =
    let inv = c.loop-place.invariant in
    let within : c.loop-place.place < length (fields_of c.args.row.now) = omega arith in
    let at = field_is c.get.result c.unwrap-field.result (fields_of c.args.row.now) c.loop-place.place c.unwrap-field.ensures c.get.ensures.value in
    let more = take_more (fields_of c.args.row.now) c.loop-place.place [] within in
    let extended : is_ok c.extend_from_slice.result ≡ true = rw c.if-is_err.false at c.is_err.ensures.negation in
    let pushed : is_ok c.push.result ≡ true = rw c.if-is_err-2.false at c.is_err-else-is_err.ensures.negation in
    let bytes = rw extended at c.extend_from_slice.ensures.items in
    let long : c.len.result ≡ length c.loop-place.bytes.items + length c.unwrap-field.result.now = c.len.ensures ∙ c.extend_from_slice.new.self.ok.0 ∙
    ap length bytes ∙ length-append c.loop-place.bytes.items c.unwrap-field.result.now in
    let ends = rw (pushed, long) at c.push.ensures.items in
    let old = cut_fields 0 c.args.ends.now.items c.args.bytes.now.items in
    let cut : cut_fields 0 c.push.new.self.items c.extend_from_slice.new.self.items ≡ old ++ take (c.loop-place.place + 1) (fields_of c.args.row.now) =
    rw (ends, bytes, more, at) (cut_fields-more 0 c.loop-place.ends.items c.loop-place.bytes.items c.unwrap-field.result.now inv.1 ∙
    ap (λ fields. fields ++ c.unwrap-field.result.now ∷ []) inv.0 ∙ append_assoc old (take c.loop-place.place (fields_of c.args.row.now))
    (c.unwrap-field.result.now ∷ [])) in
    (cut, rw (ends, bytes, length-append) (ends_more 0 c.loop-place.ends.items (length c.loop-place.bytes.items) (length c.unwrap-field.result.now) inv.1))
