use Rattle.std.proofs.lemmas.Result.{err_from_is_err_and}
use Rattle.report_past.proofs.past.give_up.Goals as goal

pub returns-clause-fresh : goal.returns-clause-fresh
returns-clause-fresh c = (c.in_ok-journal.ensures.next, c.keeps.ensures)

pub returns-in_err-journal-clause-memory : goal.returns-in_err-journal-clause-memory
returns-in_err-journal-clause-memory c =
    let p = err_from_is_err_and c.from_residual.result c.from_residual.ensures.1 in rw p.1 p.2
