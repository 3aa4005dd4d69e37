use Rattle.pool_io.proofs.Common.{bytes_eq-Decides, fields_of}
use Rattle.pool_io.proofs.FieldGet.{field_is, field_is_none}
use Rattle.pool_io.proofs.records.is_field.Goals as goal

pub returns-in-Some : goal.returns-in-Some
returns-in-Some c =
    let at = field_is c.get.result c.in-Some.field (fields_of c.args.row.now) c.args.place c.in-Some.is c.get.ensures.value in
    let d = bytes_eq-Decides c.in-Some.field.now c.args.word.now in
    rw (at, c.eq.ensures) d

pub returns-in-None : goal.returns-in-None
returns-in-None c = absurd (field_is_none c.get.result (fields_of c.args.row.now) c.args.place c.requires c.in-None.is c.get.ensures.value)
