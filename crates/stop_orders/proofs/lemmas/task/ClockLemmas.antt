use Rattle.std.proofs.Common.{ℕ, ◌+◌, ◌<◌, ◌≤◌, List, [], ◌∷◌, arith, rules}
use Rattle.stop_orders.proofs.Common.{never, IsTravelTime, Visit, Pickup, Dropoff, boarding_of, room_after, lateness, ServesFrom, delay_from}

-- more room stays more room
pub room_after-le : (v : Visit) (r s owed : ℕ) → boarding_of v ≤ r → r + owed ≤ s → room_after v r + owed ≤ room_after v s
room_after-le (Pickup place latest party) r s owed b h = omega arith
room_after-le (Dropoff place latest ideal party) r s owed b h = omega arith

-- an earlier drop-off has no more delay
pub lateness-le : (v : Visit) (a b : ℕ) → a ≤ b → lateness v a ≤ lateness v b
lateness-le (Pickup place latest party) a b h = omega arith
lateness-le (Dropoff place latest ideal party) a b h = omega arith

-- from p at second f one reaches whatever one reaches from q at second g, no later
pub record AtLeastAsSoon (tau : ℕ → ℕ → ℕ) (p f q g : ℕ) : Type 0 where
  pub soon : (x : ℕ) → tau q x < never → (tau p x < never) × (f + tau p x ≤ g + tau q x)

-- at one place it is enough to be there earlier
pub soon_there : (tau : ℕ → ℕ → ℕ) (p f g : ℕ) → f ≤ g → AtLeastAsSoon tau p f p g
soon_there tau p f g h = record { soon = λ x r. (r, omega arith) }

-- it is enough to get to the other place by then
pub soon_over : (points : ℕ) (tau : ℕ → ℕ → ℕ) → IsTravelTime points tau → (p f q g : ℕ) → tau p q < never → f + tau p q ≤ g → AtLeastAsSoon tau p f q g
soon_over points tau t p f q g reach h = search rules

module _ (tau : ℕ → ℕ → ℕ) (dwell : ℕ) where
  -- who is as soon, with as much room, serves what the other serves, with no more delay
  pub ServesFrom-soon : (vs : List Visit) (p f r q g s : ℕ) → AtLeastAsSoon tau p f q g → s ≤ r → ServesFrom tau dwell q g s vs →
      ServesFrom tau dwell p f r vs × (delay_from tau dwell p f vs ≤ delay_from tau dwell q g vs)
  ServesFrom-soon [] p f r q g s soon room serves = (tt, omega arith)
  ServesFrom-soon (v ∷ vs) p f r q g s soon room serves = search (rules, room_after-le, soon_there, lateness-le, (ServesFrom-soon vs))
