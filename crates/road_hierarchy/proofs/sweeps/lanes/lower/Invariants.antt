use Rattle.std.proofs.Common.{◌≤◌, All}
use Rattle.road_hierarchy.specs.work.sweeps.Lanes.{LowersBlock}
use Rattle.road_hierarchy.specs.work.sweeps.Sweep.{far}
use Rattle.road_hierarchy.proofs.sweeps.lanes.lower.Given as goal

abbrev pub invariant-loop-k : goal.invariant-loop-k
invariant-loop-k l = record { lowers : LowersBlock l.k l.from l.seconds l.initial.to l.to; low : All (λ cell. cell ≤ far) l.to }
