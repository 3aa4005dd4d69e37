-- Rounds as they are built.
use Rattle.std.specs.Prelude.{◌≡◌, ◌≢◌, ℕ, List, ◌++◌, length}
use Rattle.request_book.specs.declared.values.command.Command.{Command}
use Rattle.input_rows.specs.script.Round.{NumberedLanes, lane_at}

-- a lane gained commands at its end
pub record Adds (lane : ℕ) (more : List Command) (old new : NumberedLanes) : Type 0 where
  pub size : length new.lanes ≡ length old.lanes
  pub own : lane_at new lane ≡ lane_at old lane ++ more
  pub others : (k : ℕ) → k ≢ lane → lane_at new k ≡ lane_at old k
