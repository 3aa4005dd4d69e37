-- What may stand in a lane.
use Rattle.std.proofs.Common.{◌≢◌, ℕ}
use Rattle.dispatch_engine.proofs.Common.{Command, Seal, Close, MayStand, IsPlain}

-- a command of a lane other than the first is plain
pub stands-plain : (lane : ℕ) (command : Command) → lane ≢ 0 → MayStand lane command → IsPlain command
stands-plain lane (Seal now) other stands = absurd (other stands)
stands-plain lane (Close batch outcome) other stands = absurd stands
stands-plain lane _ other stands = tt
