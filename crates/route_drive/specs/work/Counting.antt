-- Who was picked up and who was dropped, as it is counted.
use Rattle.std.specs.Prelude.{◌≡◌, ℕ, ◌-◌, List, ◌++◌, MatchOption, map}
use Rattle.std.specs.Option.{option_map_or}
use Rattle.request_book.specs.values.State.{find_rider}
use Rattle.request_book.specs.declared.values.command.Command.{Command}
use Rattle.request_book.specs.declared.values.journal.Entry.{Entry}
use Rattle.request_book.specs.declared.values.rider.BookRider.{BookRider}
use Rattle.road_network.specs.Roads.{Roads, index_in}
use Rattle.road_network.specs.Walk.{IsTimeBetween}
use Rattle.route_drive.specs.declared.counts.Served.{Served}
use Rattle.route_drive.specs.declared.counts.ServedRider.{ServedRider}
use Rattle.route_drive.specs.Counts.{dropped_among, ideal_dropoff, picked_among, rider_of}
use Rattle.route_drive.specs.Entering.{second_of}

-- the rider of a pickup or drop-off, and its second
abbrev pub served_by : Command → ServedRider
served_by command = record { rider = rider_of command; second = second_of command }

abbrev pub all_served_by : List Entry → List ServedRider
all_served_by entries = map (λ e. served_by e.command) entries

-- whom entries served is noted behind those of earlier entries
pub record AddsServed (entries : List Entry) (before after : Served) : Type 0 where
  pub picked : after.picked.items ≡ before.picked.items ++ all_served_by (picked_among entries)
  pub dropped : after.dropped.items ≡ before.dropped.items ++ all_served_by (dropped_among entries)

-- these were served by entries
pub record AreServed (entries : List Entry) (served : Served) : Type 0 where
  pub picked : served.picked.items ≡ all_served_by (picked_among entries)
  pub dropped : served.dropped.items ≡ all_served_by (dropped_among entries)

-- how long a rider waited from the request to the pickup
abbrev pub waited : List BookRider → ServedRider → ℕ
waited riders served = option_map_or (λ r. served.second - r.time) (find_rider served.rider riders) 0

-- how long after the ideal second a rider was dropped, or 0
abbrev pub IsDelayed : Roads → List BookRider → ServedRider → ℕ → Type 0
IsDelayed roads riders served delay =
    MatchOption (find_rider served.rider riders) (delay ≡ 0)
    (λ r. (seconds : ℕ) × IsTimeBetween roads.arcs (index_in roads.nodes r.origin) (index_in roads.nodes r.destination) seconds
    × (delay ≡ served.second - ideal_dropoff r.time seconds))
