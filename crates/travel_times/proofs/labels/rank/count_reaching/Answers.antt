use Rattle.std.proofs.Common.{arith}
use Rattle.std.proofs.lemmas.List.{take_all}
use Rattle.travel_times.proofs.labels.rank.count_reaching.Goals as goal

pub returns : goal.returns
returns c = rw (take_all c.loop-hop.hop-index c.args.hops.now (omega arith)) at c.loop-hop.invariant
