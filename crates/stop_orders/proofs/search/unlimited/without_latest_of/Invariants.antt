use Rattle.std.proofs.Common.{◌≡◌, take, map}
use Rattle.stop_orders.proofs.Common.{without_latest}
use Rattle.stop_orders.proofs.search.unlimited.without_latest_of.Given as goal

abbrev pub invariant-loop-leg : goal.invariant-loop-leg
invariant-loop-leg l = l.unlimited.items ≡ map without_latest (take l.leg-index l.legs)
