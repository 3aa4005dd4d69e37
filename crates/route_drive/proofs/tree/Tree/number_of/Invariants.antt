use Rattle.std.proofs.Common.{◌≢◌, ℕ, ◌<◌}
use Rattle.route_drive.proofs.Common.{found_at}
use Rattle.route_drive.proofs.tree.Tree.number_of.Given as goal

abbrev pub invariant-loop-number : goal.invariant-loop-number
invariant-loop-number l = (k : ℕ) → k < l.number → (found_at l.self.found.items k).node ≢ l.node
