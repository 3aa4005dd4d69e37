use Rattle.std.proofs.Common.{subst}
use Rattle.report_past.proofs.TakeLemmas.{tells_none, tells_row}
use Rattle.request_book.specs.Book.{IsApplied}
use Rattle.request_book.specs.declared.values.command.Command.{Command}
use Rattle.report_past.proofs.row.answered.Goals as goal

pub copied-requires : goal.copied-requires
copied-requires c = c.requires

pub copied-requires-2 : goal.copied-requires-2
copied-requires-2 c = c.requires

pub returns-clause-told : goal.returns-clause-told
returns-clause-told c =
    let old = c.args.book.now in
    let reply = c.in_ok-reply.reply in
    let applied = subst (λ (x : Command). IsApplied old c.args.lane x reply c.apply.new.self) c.copied.ensures c.in_ok-reply.ensures.applied in
    tells_row c.is_entry_line-told.result old c.apply.new.self c.args.lane c.args.command.now c.copied-2.result reply c.args.line.now
    c.next_position-position.result c.is_entry_line-told.ensures.line applied c.copied-2.ensures c.next_position-position.ensures

pub returns-clause-untold : goal.returns-clause-untold
returns-clause-untold c =
    let old = c.args.book.now in
    let reply = c.in_ok-reply.reply in
    let applied = subst (λ (x : Command). IsApplied old c.args.lane x reply c.apply.new.self) c.copied.ensures c.in_ok-reply.ensures.applied in
    tells_none c.is_entry_line-told.result old c.apply.new.self c.args.lane c.args.command.now c.copied-2.result reply c.args.line.now
    c.next_position-position.result c.is_entry_line-told.ensures.line applied c.copied-2.ensures c.next_position-position.ensures
