use Rattle.std.proofs.Common.{◌-◌, length}
use Rattle.route_drive.proofs.Common.{IsGrowing}
use Rattle.route_drive.proofs.tree.shortest_tree.Given as goal

abbrev pub invariant-loop-next : goal.invariant-loop-next
invariant-loop-next l = IsGrowing l.network.arcs l.times l.start l.most l.next l.tree.seen.items l.tree.found.items

abbrev pub decreases-loop-next : goal.decreases-loop-next
decreases-loop-next l = length l.times - l.next
