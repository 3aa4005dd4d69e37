use Rattle.std.proofs.Common.{◌≡◌, ℕ, map, take, pos, neg_ℤ}
use Rattle.rebalancing.proofs.best_moves.negated.Given as goal

abbrev pub invariant-loop-price : goal.invariant-loop-price
invariant-loop-price l = l.potentials.items ≡ map (λ (p : ℕ). neg_ℤ (pos p)) (take l.price-index l.prices)
