use Rattle.std.proofs.Common.{◌≡◌, ℕ, zero, suc, ◌-◌, ◌≤◌, List, slice_index, ap, arith}
use Rattle.road_network.specs.Storage.{start_at}
use Rattle.travel_times.proofs.search.arcs.start_of.Goals as goal

-- a node's hops begin where those of the node before end
start_is : (ends : List ℕ) (node : ℕ) → 1 ≤ node → slice_index ends (node - 1) ≡ start_at ends node
start_is ends zero some = absurd (omega (arith, some))
start_is ends (suc node) some = let same : suc node - 1 ≡ node = omega arith in ap (slice_index ends) same

pub returns-else-node-eq0 : goal.returns-else-node-eq0
returns-else-node-eq0 c = start_is c.args.ends.now c.args.node (omega arith)
