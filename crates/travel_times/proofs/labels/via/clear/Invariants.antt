use Rattle.std.proofs.Common.{ℕ, ◌<◌, length}
use Rattle.travel_times.proofs.Common.{IsAmongHubs}
use Rattle.travel_times.proofs.labels.via.clear.Given as goal

abbrev pub invariant-loop-hub : goal.invariant-loop-hub
invariant-loop-hub l = (node : ℕ) → node < length l.via → IsAmongHubs l.label l.hub-index l.via node
