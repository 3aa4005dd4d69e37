use Rattle.std.specs.Prelude.{◌≡◌, ℕ, ◌≤◌, List, [], ◌∷◌, ◌++◌, length, replicate, slice_index_or, slice_set}
use Rattle.std.specs.List.{All}
use Rattle.request_book.specs.declared.values.command.Command.{Command}
use Rattle.request_book.specs.declared.values.command.Command.TheVariants.{Seal, Close}

-- a round's number, and its lanes with their commands in order
pub record NumberedLanes : Type 0 where
  pub number : ℕ
  pub lanes : List (List Command)

-- the commands of a lane
abbrev pub lane_at : NumberedLanes → ℕ → List Command
lane_at round lane = slice_index_or round.lanes lane []

-- the round of a number, without commands
abbrev pub empty_round : ℕ → NumberedLanes
empty_round number = record { number = number; lanes = replicate 16 [] }

-- a round with one more command at the end of a lane
abbrev pub with_command : NumberedLanes → ℕ → Command → NumberedLanes
with_command round lane command = record round { lanes = slice_set round.lanes lane (lane_at round lane ++ command ∷ []) }

-- a command may stand in a lane: a seal in lane 0 alone, and a close in none
abbrev pub MayStand : ℕ → Command → Type 0
MayStand lane (Seal _) = lane ≡ 0
MayStand lane (Close _ _) = ⊥
MayStand lane _ = Unit {0}

-- what every round keeps
pub record IsRound (round : NumberedLanes) : Type 0 where
  pub named : round.number ≤ 1000000000
  pub sixteen : length round.lanes ≡ 16
  pub stand : (lane : ℕ) → All (MayStand lane) (lane_at round lane)
