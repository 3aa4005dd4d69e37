use Rattle.std.proofs.lemmas.Result.{on_ok_weaker}
use Rattle.dispatch_report.proofs.ReplyLemmas.{entry_put}
use Rattle.dispatch_report.specs.Entry.{command_text, reply_text}
use Rattle.dispatch_report.proofs.entry.put_entry.Goals as goal

pub returns-clause-printed : goal.returns-clause-printed
returns-clause-printed c =
    let e = c.args.entry.now in
    on_ok_weaker c.put_reply.result (entry_put c.args.position e.lane c.from.result (command_text e.command) (reply_text e.reply) c.args.line.now.items _ _ _
    c.from.ensures c.in_ok-put_fields.ensures c.in_ok-put_command.ensures.printed) c.put_reply.ensures.printed
