use Rattle.std.proofs.Common.{sym, ◌∙◌}
use Rattle.live_dispatch.proofs.DeskLemmas.{untold}
use Rattle.live_dispatch.proofs.desk.tell_close.Goals as goal

pub returns-else-is_closed : goal.returns-else-is_closed
returns-else-is_closed g c = untold c.args.notices.now c.args.reply.now _ (sym c.is_closed.ensures ∙ c.if-is_closed.false)
