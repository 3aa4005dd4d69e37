use Rattle.pool_io.proofs.Common.{fields_of}
use Rattle.pool_io.proofs.NextRecord.{read_on}
use Rattle.pool_io.proofs.records.read_next.Goals as goal

pub returns-clause-next : goal.returns-clause-next
returns-clause-next c bytes rows h =
    read_on bytes rows c.args.reader.now c.read_byte_record.new.self c.in-Ok.found (fields_of c.read_byte_record.new.row) h
    (c.in-Ok.ensures.reads h.untrimmed h.ready) (c.in-Ok.ensures.ready h.untrimmed)
