use Rattle.std.proofs.Common.{◌≡◌, ℕ, ◌<◌, ◌≤◌, List, length, get_or, Option, Some, None, MatchOption, sym, ◌∙◌, subst, arith}
use Rattle.dispatch_engine.proofs.Common.{
  get_or_default,
  Graph,
  IsRowOf,
  HasNoRow,
  choice_at,
  riders_at,
  cost_at,
  no_row,
  ChosenTrip,
  Settings,
  Settled,
  Stop,
  Task,
  IsTrip,
  trip_task,
  IsLeastDelay,
  Serves,
  order_delay,
  vehicle_id,
  told_stops,
  IsTripOf,
}
use Rattle.plan_rules.specs.Plan.{IsLawful}
use Rattle.trip_graph.specs.batch.Answer.{IsTripGraphOf}

-- a row of the trip graph: its trip, and the least delay of an order of the vehicle that serves it
pub record IsServedRow (tau : ℕ → ℕ → ℕ) (settled : Settled) (graph : Graph) (v row : ℕ) : Type 0 where
  pub within : row < length graph.rows
  pub trip : IsTrip (length settled.riders) (riders_at graph row)
  pub size : length (riders_at graph row) ≤ 6
  pub costs : IsLeastDelay tau (trip_task settled v (riders_at graph row)) (cost_at graph row)

-- what is chosen for a vehicle is what stands at its number
pub choice_read : (chosen : List (Option ℕ)) (v : ℕ) (x : Option ℕ) → v < length chosen → get_or chosen v x ≡ choice_at chosen v
choice_read chosen v x h = get_or_default chosen v x None h

module _ (settings : Settings) (tau : ℕ → ℕ → ℕ) (settled : Settled) (graph : Graph) (chosen : List (Option ℕ))
    (exact : IsTripGraphOf settings tau settled graph) (lawful : IsLawful graph chosen) where
  pub chosen_long : (v : ℕ) → v < length settled.vehicles → v < length chosen
  chosen_long v h = omega (arith, exact.vehicle_total, lawful.plan.sized)

  own_choice : (v : ℕ) → v < length settled.vehicles → MatchOption (choice_at chosen v) (HasNoRow graph v) (IsRowOf graph v)
  own_choice v h = lawful.plan.own v (omega (arith, exact.vehicle_total))

  pub served_row : (v row : ℕ) → v < length settled.vehicles → choice_at chosen v ≡ Some row → IsServedRow tau settled graph v row
  served_row v row h choice =
      let own : IsRowOf graph v row = rw choice at (own_choice v h) in
      let right = exact.right row no_row own.within in
      record {
        within = own.within;
        trip = right.served.riders;
        size = (exact.good.rows row own.within).few;
        costs = subst (λ n. IsLeastDelay tau (trip_task settled n (riders_at graph row)) (cost_at graph row)) own.own right.least;
      }

-- a serving order of least delay has the delay of any other such order
pub least_same : (tau : ℕ → ℕ → ℕ) (task : Task) (stops : List Stop) (cost : ℕ) → IsLeastDelay tau task cost → Serves tau task stops
    → ((others : List Stop) → Serves tau task others → order_delay tau task stops ≤ order_delay tau task others) → order_delay tau task stops ≡ cost
least_same tau task stops cost known serves least =
    let below = known.least stops serves in
    let above = least known.stops known.serves in
    omega (arith, known.has_delay)

-- the trip that a search finds is that of the chosen row
pub trip_found : (nodes : List ℕ) (tau : ℕ → ℕ → ℕ) (settled : Settled) (graph : Graph) (chosen : List (Option ℕ)) (v row : ℕ) (task : Task) (stops : List Stop)
    (delay : ℕ) (trip : ChosenTrip)
    → choice_at chosen v ≡ Some row → IsServedRow tau settled graph v row → trip.vehicle ≡ vehicle_id settled v → trip.cost ≡ cost_at graph row →
    task ≡ trip_task settled v (riders_at graph row)
    → Serves tau task stops → delay ≡ order_delay tau task stops → ((others : List Stop) → Serves tau task others → delay ≤ order_delay tau task others)
    → trip.stops.items ≡ told_stops nodes tau settled v (riders_at graph row) stops → IsTripOf nodes tau settled graph chosen v trip
trip_found nodes tau settled graph chosen v row task stops delay trip choice served id cost same serves has_delay least told =
    let own = trip_task settled v (riders_at graph row) in
    let own_serves = subst (λ (t : Task). Serves tau t stops) same serves in
    let own_delay = subst (λ (t : Task). delay ≡ order_delay tau t stops) same has_delay in
    let own_least = subst (λ (t : Task). (others : List Stop) → Serves tau t others → delay ≤ order_delay tau t others) same least in
    let costs = least_same tau own stops (cost_at graph row) served.costs own_serves (λ others s. subst (λ d. d ≤ order_delay tau own others) own_delay
    (own_least others s)) in
    record { row = row; chooses = choice; vehicle = id; cost = cost; stops = stops; serves = own_serves; delay = costs ∙ sym cost; told = told }
