-- What a driven day keeps, entry by entry: nobody is late, no promise lapses, and no vehicle is above its seats.
use Rattle.std.specs.Prelude.{◌≡◌, ℕ, ◌+◌, ◌≤◌, false, List, [], ◌∷◌, Some, None, IfSome, All, map}
use Rattle.pool_base.specs.Times.{travel_time}
use Rattle.pool_base.specs.declared.times.Times.{Times}
use Rattle.request_book.specs.values.Batch.{Batch}
use Rattle.request_book.specs.values.Kept.{IsFleet}
use Rattle.request_book.specs.values.Vehicle.{HasSeats}
use Rattle.request_book.specs.declared.values.promise.Promise.{Promise}
use Rattle.request_book.specs.declared.values.vehicle.Vehicle.{Vehicle}
use Rattle.dispatch_engine.specs.lanes.Run.{state_after_run}
use Rattle.dispatch_engine.specs.limits.Settling.{IsSettled}
use Rattle.request_book.specs.Book.{opening}
use Rattle.request_book.specs.Consistent.{IsNode}
use Rattle.request_book.specs.values.State.{find_rider}
use Rattle.request_book.specs.register.Step.{step}
use Rattle.request_book.specs.declared.values.command.Command.{Command}
use Rattle.request_book.specs.declared.values.command.Command.TheVariants.{Report, Pickup, Dropoff, Close}
use Rattle.request_book.specs.declared.values.journal.Entry.{Entry}
use Rattle.request_book.specs.declared.values.outcome.Answer.{Answer}
use Rattle.request_book.specs.declared.values.reply.Reply.{Reply}
use Rattle.request_book.specs.declared.values.reply.Reply.TheVariants.{Placed, Picked, Dropped, Closed}
use Rattle.request_book.specs.declared.values.rider.BookRider.{BookRider}
use Rattle.request_book.specs.declared.values.rider.Status.TheVariants.{Promised}
use Rattle.request_book.specs.declared.values.state.State.{State}
use Rattle.rider_limits.specs.declared.settings.Settings.{Settings}
use Rattle.road_network.specs.Roads.{Roads, IsNetwork, index_in}
use Rattle.road_network.specs.Walk.{IsTimeBetween}
use Rattle.input_rows.specs.script.Round.{IsRound, NumberedLanes}
use Rattle.stop_orders.specs.declared.task.settled.Settled.{Settled}
use Rattle.travel_times.specs.table.Table.{AreTravelTimes}
use Rattle.route_drive.specs.declared.day_run.DayRound.{DayRound}
use Rattle.dispatch_report.specs.declared.day.DayCounts.{DayCounts}
use Rattle.route_drive.specs.Counts.{AreCounts, entries_of, ideal_dropoff}
use Rattle.route_drive.specs.Day.{day_fault}
use Rattle.route_drive.specs.Driven.{IsDrivenDay, planned_in}

-- a drop-off at a second is at most so much later than the ideal one
pub record IsDroppedInTime (roads : Roads) (delay : ℕ) (r : BookRider) (second : ℕ) : Type 0 where
  pub seconds : ℕ
  pub between : IsTimeBetween roads.arcs (index_in roads.nodes r.origin) (index_in roads.nodes r.destination) seconds
  pub in_time : second ≤ ideal_dropoff r.time seconds + delay

-- a batch that is closed: by the travel times between its points and the limits that follow from them no vehicle is
-- late and no promise has lapsed, whether it gets a plan or has too many rows; and its plan tells none
pub record IsClosedInTime (settings : Settings) (roads : Roads) (s : State) (answer : Answer) : Type 0 where
  pub batch : Batch
  pub sealed : s.sealed ≡ Some batch
  pub settles : (points : List ℕ) (times : Times) (settled : Settled) → AreTravelTimes roads.arcs (map (index_in roads.nodes) points) times → IsSettled settings points (travel_time times) batch settled
      → All (λ v. v.late ≡ false) settled.vehicles × All (λ r. r.lapsed ≡ false) settled.riders
  pub tells : IfSome (planned_in answer) (λ planned. (planned.late ≡ []) × (planned.lapsed ≡ []))

-- a command picks a rider up by a second, if it does
abbrev pub IsPickedBy : ℕ → ℕ → Command → Type 0
IsPickedBy rider limit (Pickup vehicle other second) = other ≡ rider → second ≤ limit
IsPickedBy rider limit command = Unit {0}

-- what a state keeps, with the entries that are still to come: no vehicle has more persons than seats, and who is
-- promised a pickup isn't picked up later
pub record StateKeeps (s : State) (entries : List Entry) : Type 0 where
  pub seats : All HasSeats s.vehicles
  pub promises : (rider : ℕ) (r : BookRider) (promise : Promise) → find_rider rider s.riders ≡ Some r → r.status ≡ Promised promise
      → All (λ e. IsPickedBy rider promise.pickup e.command) entries

module _ (settings : Settings) (roads : Roads) where
  -- what an entry keeps in the state in which it comes: each report is answered `placed`; each pickup is answered
  -- `picked`, and comes within the wait; each drop-off is answered `dropped`, and comes within the delay; each close is
  -- answered `closed`, and no vehicle is late and no promise lapses in its batch
  abbrev pub EntryKeeps : State → Command → Reply → Type 0
  EntryKeeps s (Report vehicle node second) reply = reply ≡ Placed
  EntryKeeps s (Pickup vehicle rider second) reply = (reply ≡ Picked) × (r : BookRider) × (find_rider rider s.riders ≡ Some r) × (second ≤ r.time + settings.wait)
  EntryKeeps s (Dropoff vehicle rider second) reply = (reply ≡ Dropped) × (r : BookRider) × (find_rider rider s.riders ≡ Some r) × IsDroppedInTime roads settings.delay r second
  EntryKeeps s (Close batch outcome) reply = (reply ≡ Closed) × IsClosedInTime settings roads s outcome.answer
  EntryKeeps s command reply = Unit {0}

  -- entries keep this, one after the other, from a state
  abbrev pub EntriesKeep : State → List Entry → Type 0
  EntriesKeep s [] = StateKeeps s []
  EntriesKeep s (e ∷ es) = EntryKeeps s e.command e.reply × StateKeeps s (e ∷ es) × EntriesKeep (step roads.nodes settings.wait s e.command).0 es

  -- rounds are those of a driven day, and it keeps all promises: nobody is late, no promise lapses, and no vehicle is above its
  -- seats
  pub record IsKeptDay (s : State) (rounds : List NumberedLanes) (made : List DayRound) : Type 0 where
    pub driven : IsDrivenDay settings roads s rounds made
    pub keeps : EntriesKeep s (entries_of made)

  -- rounds are those of such a day, and these are its counts, of which the worst are within the limits
  pub record IsRunOfDay (s : State) (rounds : List NumberedLanes) (made : List DayRound) (run : DayCounts) : Type 0 where
    pub day : IsKeptDay s rounds made
    pub counts : AreCounts roads (state_after_run settings roads s (map (λ r. r.journal) made)).riders (entries_of made) run
    pub in_wait : run.worst_wait ≤ settings.wait
    pub in_delay : run.worst_delay ≤ settings.delay

-- a driven day keeps its promises: all its entries do, from the state of a fleet before its first round
abbrev pub DaysKeep : Type 0
DaysKeep = (settings : Settings) (roads : Roads) (vehicles : List Vehicle) (rounds : List NumberedLanes) (made : List DayRound)
    → IsNetwork roads → IsFleet vehicles → All (λ v. IsNode roads.nodes v.node) vehicles → All IsRound rounds → day_fault rounds ≡ None
    → IsDrivenDay settings roads (opening vehicles) rounds made
    → EntriesKeep settings roads (opening vehicles) (entries_of made)
