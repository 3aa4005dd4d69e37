use Rattle.std.proofs.Common.{sym}
use Rattle.pool_io.proofs.Common.{cut_fields}
use Rattle.pool_io.proofs.CutRows.{length-cut_rows}
use Rattle.pool_io.proofs.table.Rows.len.Goals as goal

pub returns : goal.returns
returns c = rw (← c.self.view_is) (sym (length-cut_rows c.self.inside.count c.self.inside.columns
    (cut_fields 0 c.self.inside.ends.items c.self.inside.bytes.items)))
