use Rattle.std.proofs.Common.{◌∙◌}
use Rattle.live_dispatch.proofs.Common.{Entry, applied-fits}
use Rattle.live_dispatch.proofs.WriteLemmas.{entry-some}
use Rattle.live_dispatch.proofs.row.run_command.Goals as goal

pub returns-in-Ok-write_last-clause-taken : goal.returns-in-Ok-write_last-clause-taken
returns-in-Ok-write_last-clause-taken g c =
    let applied = c.in-Ok-apply.ensures.applied in
    record {
      reply = c.in-Ok-apply._reply;
      applied = applied;
      fits = applied-fits c.args.book.now c.apply.new.self c.args.lane c.args.command c.in-Ok-apply._reply c.in-Ok.sealed c.entries.ensures.kept applied
          c.in-Ok.ensures.snapshot;
      shown = c.in-Ok.ensures.snapshot;
    }

pub returns-in-Err-write_last-clause-wrote : goal.returns-in-Err-write_last-clause-wrote
returns-in-Err-write_last-clause-wrote g c =
    let applied = c.in-Ok-apply.ensures.applied in
    let e : Entry = record { lane = c.args.lane; command = c.args.command; reply = c.in-Ok-apply._reply } in
    entry-some _ c.args.proof c.next_position-position.result c.args.book.now c.args.lane c.args.command c.in-Ok-apply._reply c.apply.new.self.state
    c.in-Err-write_last.fault
    applied.stepped c.next_position-position.ensures (c.in-Err-write_last.ensures c.args.book.now.entries e (c.entries.ensures.entries ∙ applied.entries))
