use Rattle.std.proofs.lemmas.Bool.Decides.{nat_tests}
use Rattle.std.proofs.Common.{rules, ◌≡◌, ℕ, ◌+◌, ◌<◌, ◌≤◌, List, [], ◌∷◌, ◌++◌, length, map, get_or, ap, ◌∙◌, arith, zero-add}
use Rattle.dispatch_engine.proofs.Common.{
  length-map,
  get_or-map,
  Rider,
  Leg,
  SettledRider,
  SettledVehicle,
  IsLeg,
  IsTask,
  no_rider,
  vehicle_task,
  slice_get-get_or,
  Settings,
  request_at,
  no_request,
  kept_leg,
  ArePlain,
  CanBeKept,
  promised_limit,
  kept_legs,
}
use Rattle.std.specs.List.{All, sum_by}
use Rattle.std.proofs.lemmas.List.Sums.{sum_by-append}

pub sum_by_push : {X : Type 0} (f : X → ℕ) (xs : List X) (y : X) → sum_by f (xs ++ y ∷ []) ≡ sum_by f xs + f y
sum_by_push f xs y = sum_by-append f xs (y ∷ []) ∙ ap (λ (n : ℕ). sum_by f xs + n) (zero-add (f y))

-- a promise never comes after the wait
pub promised_limit_under : (wait : ℕ) (r : Rider) → promised_limit wait r ≤ r.time + wait
promised_limit_under wait r = grind arith

pub kept_leg_valid : (points wait : ℕ) (request : Rider) (leg : Leg) → CanBeKept points wait request leg → IsLeg points (kept_leg wait request leg)
kept_leg_valid points wait request leg can = search (rules, promised_limit_under)

-- all legs of a list that is made of valid ones are valid
pub legs_valid : (points : ℕ) (f : ℕ → Leg) (trip : List ℕ) → All (λ k. IsLeg points (f k)) trip → All (IsLeg points) (map f trip)
legs_valid points f trip h k d lt = grind (arith, nat_tests, (length-map trip f), (get_or-map f trip k 0 d))

pub kept_legs_valid : (points wait : ℕ) (requests : List Rider) (riders : List SettledRider) (trip : List ℕ)
    → ((k : ℕ) → k < length requests → CanBeKept points wait (request_at requests k) (get_or riders k no_rider).leg)
    → All (λ k. k < length requests) trip → All (IsLeg points) (kept_legs wait requests riders trip)
kept_legs_valid points wait requests riders trip can within = search (rules, legs_valid, kept_leg_valid)

-- a vehicle's task with valid legs is valid
pub task_with_legs : (points dwell : ℕ) (v : SettledVehicle) (legs : List Leg) → IsTask points (vehicle_task dwell v []) → All (IsLeg points) legs →
    length legs ≤ 6
    → IsTask points (vehicle_task dwell v legs)
task_with_legs points dwell v legs task valid few = search rules

-- a plain rider's leg can have its pickup changed
pub plain_can_be_kept : (settings : Settings) (points : List ℕ) (tau : ℕ → ℕ → ℕ) (requests : List Rider) (riders : List SettledRider) →
    ArePlain settings points tau requests riders
    → (k : ℕ) → k < length requests → CanBeKept (length points) settings.wait (request_at requests k) (get_or riders k no_rider).leg
plain_can_be_kept settings points tau requests riders plain k h =
    let one = plain.each k (request_at requests k) (slice_get-get_or requests k no_request h) in
    record { valid = one.valid; latest = one.leg.latest_pickup }
