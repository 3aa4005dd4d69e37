use Rattle.std.proofs.Common.{slice_index, refl, arith}
use Rattle.rebalancing.proofs.TreePrices.{IsFalling-more}
use Rattle.rebalancing.proofs.tree.lower.Goals as goal

pub loop-vehicle-preserved : goal.loop-vehicle-preserved
loop-vehicle-preserved c =
    IsFalling-more c.args.vehicles.now c.args.by c.loop-vehicle.vehicle-index (slice_index c.args.vehicles.now c.loop-vehicle.vehicle-index) c.args.prices.now
    c.loop-vehicle.prices
    c.requires.within c.requires.distinct c.requires.enough (omega arith) refl c.loop-vehicle.invariant
