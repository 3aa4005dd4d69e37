use Rattle.std.proofs.Common.{arith}
use Rattle.std.proofs.lemmas.Result.{on_ok_weaker}
use Rattle.travel_times.proofs.labels.Handing.{hubs_within}
use Rattle.travel_times.proofs.labels.draft.hand_over_one.Goals as goal

pub returns-clause-hubs : goal.returns-clause-hubs
returns-clause-hubs c = on_ok_weaker c.push.result
    (λ pushed. hubs_within _ c.args.node c.args.labels.now _ c.push.new.self c.of.result (rw c.of.ensures c.requires.start)
    (omega (arith, c.requires.node, c.requires.labels)) c.requires.hubs pushed) c.push.ensures
