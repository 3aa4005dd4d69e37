use Rattle.std.proofs.Common.{◌≡◌, map, take}
use Rattle.dispatch_engine.proofs.Common.{travel_time, move_line}
use Rattle.dispatch_engine.proofs.outcome.moves.told_moves.Given as goal

abbrev pub invariant-loop-place : goal.invariant-loop-place
invariant-loop-place l = l.moves.items ≡ map (move_line (travel_time l.times) l.settled l.vehicles l.riders) (take l.place-index l.pairs)
