-- What is counted of a driven day: who was picked up and dropped, the worst wait and the worst delay.
use Rattle.std.specs.Prelude.{◌≡◌, ℕ, ◌+◌, ◌-◌, ◌^◌, Bool, true, false, min, nat_lt, if◌then◌else◌, List, MatchOption, length, map, filter}
use Rattle.std.specs.List.{AllZip, flat_map}
use Rattle.std.specs.Option.{option_map_or}
use Rattle.dispatch_report.specs.declared.day.DayCounts.{DayCounts}
use Rattle.pool_base.specs.TravelTime.{never}
use Rattle.request_book.specs.values.State.{find_rider}
use Rattle.request_book.specs.declared.values.command.Command.{Command}
use Rattle.request_book.specs.declared.values.command.Command.TheVariants.{Pickup, Dropoff}
use Rattle.request_book.specs.declared.values.journal.Entry.{Entry}
use Rattle.request_book.specs.declared.values.reply.Reply.{Reply}
use Rattle.request_book.specs.declared.values.reply.Reply.TheVariants.{Picked, Dropped}
use Rattle.request_book.specs.declared.values.rider.BookRider.{BookRider}
use Rattle.road_network.specs.Roads.{Roads, index_in}
use Rattle.road_network.specs.Walk.{IsTimeBetween}
use Rattle.stop_orders.specs.task.Settled.{greatest}
use Rattle.route_drive.specs.declared.day_run.DayRound.{DayRound}
use Rattle.route_drive.specs.Entering.{second_of}

-- the entries of all journals, in order
abbrev pub entries_of : List DayRound → List Entry
entries_of made = flat_map (λ r. r.journal.entries) made

-- a reply is `picked`
abbrev pub is_picked : Reply → Bool
is_picked Picked = true
is_picked reply = false

-- a reply is `dropped`
abbrev pub is_dropped : Reply → Bool
is_dropped Dropped = true
is_dropped reply = false

-- the entries that are answered `picked`
abbrev pub picked_among : List Entry → List Entry
picked_among entries = filter (λ e. is_picked e.reply) entries

-- the entries that are answered `dropped`
abbrev pub dropped_among : List Entry → List Entry
dropped_among entries = filter (λ e. is_dropped e.reply) entries

-- the rider of a pickup or drop-off
abbrev pub rider_of : Command → ℕ
rider_of (Pickup vehicle rider time) = rider
rider_of (Dropoff vehicle rider time) = rider
rider_of command = 0

-- how long a rider waited from the request to the pickup
abbrev pub wait_of : List BookRider → Entry → ℕ
wait_of riders e = option_map_or (λ r. second_of e.command - r.time) (find_rider (rider_of e.command) riders) 0

-- the ideal second of a drop-off: that of the request, and after it a shortest walk, if there is one
abbrev pub ideal_dropoff : ℕ → ℕ → ℕ
ideal_dropoff time seconds = if nat_lt seconds never then time + seconds else time

-- how long after the ideal second a rider was dropped, or 0
abbrev pub IsDelayOf : Roads → List BookRider → Entry → ℕ → Type 0
IsDelayOf roads riders e delay =
    MatchOption (find_rider (rider_of e.command) riders) (delay ≡ 0)
    (λ r. (seconds : ℕ) × IsTimeBetween roads.arcs (index_in roads.nodes r.origin) (index_in roads.nodes r.destination) seconds
    × (delay ≡ second_of e.command - ideal_dropoff r.time seconds))

-- the counts of entries, where these are the riders whom they name
pub record AreCounts (roads : Roads) (riders : List BookRider) (entries : List Entry) (counts : DayCounts) : Type 0 where
  -- a count stands still at the greatest u64
  pub picked_is : counts.picked ≡ min (length (picked_among entries)) (2 ^ 64 - 1)
  pub dropped_is : counts.dropped ≡ min (length (dropped_among entries)) (2 ^ 64 - 1)
  pub wait_is : counts.worst_wait ≡ greatest (map (wait_of riders) (picked_among entries))
  pub delays : List ℕ
  pub delays_are : AllZip (IsDelayOf roads riders) (dropped_among entries) delays
  pub delay_is : counts.worst_delay ≡ greatest delays
