use Rattle.std.proofs.Common.{arith}
use Rattle.travel_times.proofs.labels.Query.{no_walk_at_never}
use Rattle.travel_times.proofs.labels.labels.Labels.seconds.Goals as goal

pub returns-then-seconds : goal.returns-then-seconds
returns-then-seconds c = λ roads of.
    no_walk_at_never roads c.args.a c.args.b c.time-seconds.result of.network (omega (arith, of.forward_each, c.requires.from))
    (c.time-seconds.ensures roads of) c.if-seconds.true
