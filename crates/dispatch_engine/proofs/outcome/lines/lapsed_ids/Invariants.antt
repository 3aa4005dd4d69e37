use Rattle.std.proofs.Common.{◌≡◌, take, map, filter}
use Rattle.dispatch_engine.proofs.outcome.lines.lapsed_ids.Given as goal

abbrev pub invariant-loop-rider : goal.invariant-loop-rider
invariant-loop-rider l = l.ids.items ≡ map (λ r. r.id) (filter (λ r. r.lapsed) (take l.rider-index l.rider-items))
