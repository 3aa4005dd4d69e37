use Rattle.request_book.specs.declared.values.outcome.Answer.TheVariants.{Overflow}
use Rattle.report_past.proofs.TakeLemmas.{tells_close}
use Rattle.report_past.proofs.close.is_close_line.Goals as goal

pub returns : goal.returns
returns c = tells_close c.is_entry_line-told.result c.args.line.now c.args.position c.args.batch (record { expired = c.empty.result; answer = Overflow })
    c.is_entry_line-told.ensures.line
