use Rattle.std.proofs.Common.{[]}
use Rattle.travel_times.proofs.Common.{replicate_more}
use Rattle.travel_times.proofs.labels.hops.no_hops.Goals as goal

pub loop-preserved : goal.loop-preserved
loop-preserved c = rw (c.in_ok-push.ensures.items, c.empty.ensures, c.loop.invariant) (replicate_more c.loop.counter [])
