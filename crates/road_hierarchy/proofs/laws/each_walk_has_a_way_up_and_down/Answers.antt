use Rattle.road_hierarchy.proofs.Peeling.{walk_is_up_down}
use Rattle.road_hierarchy.proofs.laws.each_walk_has_a_way_up_and_down.Goals as goal

pub returns : goal.returns
returns c = walk_is_up_down
