use Rattle.travel_times.proofs.Common.{HasSpread}
use Rattle.travel_times.proofs.labels.via.spread.Given as goal

abbrev pub invariant-loop-hub : goal.invariant-loop-hub
invariant-loop-hub l = HasSpread l.label l.hub-index l.via
