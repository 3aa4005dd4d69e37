use Rattle.live_dispatch.proofs.WriteLemmas.{start-some, starts-none, starts-other}
use Rattle.live_dispatch.proofs.row.start_round.Goals.{in-Some+else-number-round, in_default}
use Rattle.live_dispatch.proofs.row.start_round.Goals as goal

pub returns : goal.returns
returns g c = elim c.match-last.branch [
  | in-Some+else-number-round w ↦ start-some _ c.args.last c.args.round c.write_round_start.result
      (starts-other c.args.last c.args.round w.in-Some.number w.in-Some.is w.if-number-round.false) c.write_round_start.ensures
  | in_default w ↦ start-some _ c.args.last c.args.round c.write_round_start.result (starts-none c.args.last c.args.round w.in_default.is)
      c.write_round_start.ensures
]
