use Rattle.std.proofs.Common.{◌≡◌, ℕ, take, map}
use Rattle.dispatch_engine.proofs.Common.{rider_id}
use Rattle.dispatch_engine.proofs.outcome.lines.rr_lines.Given as goal

abbrev pub invariant-loop-first : goal.invariant-loop-first
invariant-loop-first l = l.lines.items ≡ map (λ (pair : ℕ × ℕ). (rider_id l.settled pair.0, rider_id l.settled pair.1)) (take l.first-index l.pairs)
