use Rattle.std.proofs.Common.{◌<◌, length, reverse}
use Rattle.route_drive.proofs.Common.{IsWalkBack, found_at}
use Rattle.route_drive.proofs.walk.steps_to.Given as goal

abbrev pub invariant-loop-at : goal.invariant-loop-at
invariant-loop-at l = record {
  within : l.at < length l.tree.found.items;
  back : IsWalkBack l.network l.times (found_at l.tree.found.items l.at).node (found_at l.tree.found.items l.number).node (reverse l.steps.items);
}

abbrev pub decreases-loop-at : goal.decreases-loop-at
decreases-loop-at l = l.at
