-- The hops that leave a node are its arcs: what a search over a network's nodes cites.
use Rattle.std.proofs.Common.{rules, ◌≡◌, ℕ, ◌==◌, true}
use Rattle.road_network.proofs.Common.{Arc, hop_of, arc_from}

from_is : (node : ℕ) (arc : Arc) → (arc.from == node) ≡ true → arc_from node (hop_of arc) ≡ arc
from_is node arc test = search rules
