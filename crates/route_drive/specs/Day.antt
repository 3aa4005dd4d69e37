-- Days: scripts of submits and seals, whose vehicles the program drives.
use Rattle.std.specs.Prelude.{ℕ, Bool, true, false, not, List, ◌∷◌, Option, None, Some, length, take, drop, unwrap_or, option_and_then, slice_index_or, nat_lt, if◌then◌else◌, map}
use Rattle.std.specs.List.{list_any}
use Rattle.std.specs.Option.{option_or}
use Rattle.pool_base.specs.InOrder.{first_fault}
use Rattle.request_book.specs.declared.values.command.Command.{Command}
use Rattle.request_book.specs.declared.values.command.Command.TheVariants.{Submit, Seal}
use Rattle.stop_orders.specs.task.Settled.{greatest}
use Rattle.input_rows.specs.script.Round.{NumberedLanes, empty_round, lane_at}
use Rattle.route_drive.specs.declared.day.DayFault.{DayFault}
use Rattle.route_drive.specs.declared.day.DayFault.TheVariants as fault

-- the command may stand in a day
abbrev pub is_of_day : Command → Bool
is_of_day (Submit rider origin destination time party) = true
is_of_day (Seal now) = true
is_of_day _ = false

-- the command is a seal
abbrev pub is_seal_command : Command → Bool
is_seal_command (Seal now) = true
is_seal_command _ = false

-- the second of the seal with which commands begin, if they do
abbrev pub first_seal : List Command → Option ℕ
first_seal (Seal now ∷ commands) = Some now
first_seal _ = None

-- the second of a round's seal: that with which its lane 0 begins
abbrev pub seal_of : NumberedLanes → Option ℕ
seal_of round = first_seal (lane_at round 0)

-- a lane has a command that may not stand in a day
abbrev pub lane_fault : NumberedLanes → ℕ → Option DayFault
lane_fault round lane =
    if list_any (λ c. not (is_of_day c)) (lane_at round lane) then Some (fault.Command round.number lane) else None

-- lane 0 has a seal that isn't its first command
abbrev pub seals_fault : NumberedLanes → Option DayFault
seals_fault round = if list_any is_seal_command (drop 1 (lane_at round 0)) then Some (fault.Seals round.number) else None

-- why a round is refused behind seals up to a second, if it is: by a lane, by a seal that isn't first, or by a seal that is
-- earlier than the latest before it
abbrev pub round_fault : ℕ → NumberedLanes → Option DayFault
round_fault latest round =
    option_or (first_fault (lane_fault round) (length round.lanes)) (option_or (seals_fault round)
    (option_and_then (λ now. if nat_lt now latest then Some (fault.SealBack round.number) else None) (seal_of round)))

-- the greatest second of the rounds' seals, 0 without a seal
abbrev pub latest_seal : List NumberedLanes → ℕ
latest_seal rounds = greatest (map (λ round. unwrap_or (seal_of round) 0) rounds)

-- the first refusal of a script's rounds, each behind the seals before it; a script without one is a day
abbrev pub day_fault : List NumberedLanes → Option DayFault
day_fault rounds = first_fault (λ k. round_fault (latest_seal (take k rounds)) (slice_index_or rounds k (empty_round 0))) (length rounds)
