-- The row of which a trip tells.
use Rattle.std.proofs.Common.{rules, ◌≡◌, ℕ, List, sym, ap, ◌∙◌, subst}
use Rattle.report_audit.proofs.Common.{
  Graph,
  riders_at,
  cost_at,
  ChosenTrip,
  Settled,
  Stop,
  Task,
  trip_task,
  Serves,
  order_delay,
  vehicle_id,
  told_stops,
  TellsRow,
}

module _ (points : List ℕ) (tau : ℕ → ℕ → ℕ) (settled : Settled) (graph : Graph) (v row : ℕ) (trip : ChosenTrip) (riders : List ℕ) (task : Task)
    (riders_are : riders ≡ riders_at graph row) (task_is : task ≡ trip_task settled v riders) where
  same_task : task ≡ trip_task settled v (riders_at graph row)
  same_task = task_is ∙ ap (trip_task settled v) riders_are

  pub tells_serves : (tells : TellsRow points tau settled graph v row trip) → Serves tau task tells.stops
  tells_serves tells = subst (λ (t : Task). Serves tau t tells.stops) (sym same_task) tells.serves

  pub tells_delay : (tells : TellsRow points tau settled graph v row trip) → order_delay tau task tells.stops ≡ trip.cost
  tells_delay tells = ap (λ (t : Task). order_delay tau t tells.stops) same_task ∙ tells.delay

  pub tells_told : (tells : TellsRow points tau settled graph v row trip) → trip.stops.items ≡ told_stops points tau settled v riders tells.stops
  tells_told tells = tells.told ∙ ap (λ (rs : List ℕ). told_stops points tau settled v rs tells.stops) (sym riders_are)

  pub tells_from : (stops : List Stop) → trip.vehicle ≡ vehicle_id settled v → trip.cost ≡ cost_at graph row → Serves tau task stops →
      order_delay tau task stops ≡ trip.cost
      → trip.stops.items ≡ told_stops points tau settled v riders stops → TellsRow points tau settled graph v row trip
  tells_from stops vehicle cost serves delay told = search (rules, same_task)
