use Rattle.std.proofs.Common.{◌≡◌, ℕ, ◌<◌, ◌≤◌, List, [], ◌∷◌, ◌++◌, length, get_or, ap, ◌∙◌, sym, subst, arith}
use Rattle.dispatch_engine.proofs.Common.{
  IsSound,
  get_or_default,
  AllZip,
  PlannedStop,
  Settled,
  Stop,
  Task,
  SettledVehicle,
  IsTrip,
  no_vehicle,
  trip_task,
  vehicle_at,
  IsTask,
  IsOrderOf,
  ReachesAll,
  order_delay,
  told_stops,
  IsLateOrder,
}
use Rattle.stop_orders.proofs.lemmas.task.DoneLemmas.{length-IsOrder}

pub all_zip_push : {A B : Type 0} (R : A → B → Type 0) (xs : List A) (ys : List B) (x : A) (y : B) → AllZip R xs ys → R x y →
    AllZip R (xs ++ x ∷ []) (ys ++ y ∷ [])
all_zip_push R [] [] x y h r = (r, tt)
all_zip_push R [] (b ∷ ys) x y h r = absurd h
all_zip_push R (a ∷ xs) [] x y h r = absurd h
all_zip_push R (a ∷ xs) (b ∷ ys) x y h r = (h.0, all_zip_push R xs ys x y h.1 r)

-- a trip of nobody
pub no_trip : (riders : ℕ) → IsTrip riders []
no_trip riders = record { rising = λ i lt. absurd (omega arith); within = λ i d lt. absurd (omega arith) }

pub valid_task : (settled : Settled) (v points : ℕ) (tau : ℕ → ℕ → ℕ) (task : Task) → ((k : ℕ) × IsSound k points tau settled) → v < length settled.vehicles →
    task ≡ trip_task settled v [] → IsTask points task
valid_task settled v points tau task sound within same = subst (IsTask points) (sym same)
    ((sound.1.each v within).tasks [] (no_trip (length settled.riders)) (omega arith))

-- what is read of a vehicle is what stands at its number
pub vehicle_read : (settled : Settled) (vehicles : List SettledVehicle) (v : ℕ) (x : SettledVehicle) → vehicles ≡ settled.vehicles →
    v < length settled.vehicles → get_or vehicles v x ≡ vehicle_at settled v
vehicle_read settled vehicles v x e h = ap (λ (list : List SettledVehicle). get_or list v x) e ∙ get_or_default settled.vehicles v x no_vehicle h

-- passengers alone have at most ten stops
pub passengers_few : (points : ℕ) (task : Task) (stops : List Stop) → IsTask points task → task.riders.items ≡ [] → IsOrderOf task stops → length stops ≤ 10
passengers_few points task stops valid alone order =
    let short = length-IsOrder (length task.riders.items) (length task.aboard.items) stops valid.rider_count order in
    omega (arith, short, ap length alone, valid.passenger_count)

-- what is found of a task's passengers
pub record IsFoundLate (tau : ℕ → ℕ → ℕ) (task : Task) (stops : List Stop) (delay : ℕ) : Type 0 where
  pub order : IsOrderOf task stops
  pub reaches : ReachesAll tau task stops
  pub has_delay : order_delay tau task stops ≡ delay
  pub least : (others : List Stop) → IsOrderOf task others → ReachesAll tau task others → delay ≤ order_delay tau task others

pub late_order : (points : List ℕ) (tau : ℕ → ℕ → ℕ) (settled : Settled) (v delay : ℕ) (lines : List PlannedStop) (task : Task) (stops : List Stop) →
    task ≡ trip_task settled v []
    → IsFoundLate tau task stops delay → lines ≡ told_stops points tau settled v [] stops → IsLateOrder points tau settled v delay lines
late_order points tau settled v delay lines task stops same found told =
    let own : IsFoundLate tau (trip_task settled v []) stops delay = subst (λ (t : Task). IsFoundLate tau t stops delay) same found in
    record { stops = stops; order = own.order; reaches = own.reaches; has_delay = own.has_delay; least = own.least; told = told }
