use Rattle.route_drive.proofs.walk.shortest_walk.Goals as goal

pub returns : goal.returns
returns c = rw c.in_ok-arcs.ensures at c.shortest_walk_with.ensures
