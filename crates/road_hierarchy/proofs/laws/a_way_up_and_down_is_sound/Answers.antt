use Rattle.road_hierarchy.proofs.Peeling.{up_down_is_walk}
use Rattle.road_hierarchy.proofs.laws.a_way_up_and_down_is_sound.Goals as goal

pub returns : goal.returns
returns c = up_down_is_walk
