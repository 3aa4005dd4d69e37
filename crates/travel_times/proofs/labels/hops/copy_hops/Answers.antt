use Rattle.std.proofs.Common.{◌∙◌, arith}
use Rattle.std.proofs.lemmas.List.{take_all}
use Rattle.travel_times.proofs.labels.hops.copy_hops.Goals as goal

pub returns : goal.returns
returns c = c.loop-hop.invariant ∙ take_all c.loop-hop.hop-index c.args.leaving.now (omega arith)
