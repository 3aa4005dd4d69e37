use Rattle.std.proofs.Common.{sym, refl}
use Rattle.input_rows.proofs.live.RowLemmas.{came-behind, row-behind}
use Rattle.input_rows.proofs.live.rows.LiveRows.step.Goals as goal

pub returns-in-Ok-Accepted-clause-behind : goal.returns-in-Ok-Accepted-clause-behind
returns-in-Ok-Accepted-clause-behind g c = (
  came-behind c.args.self.now.came c.args.self.now.least c.in-Ok-Accepted.row
      (row-behind c.args.self.now.version c.args.self.now.least c.deref.result.now c.in-Ok-Accepted.row
      (sym (rw c.in-Ok-Accepted.field-0-is at c.in-Ok-Accepted.ensures.judged))),
  refl,
)
