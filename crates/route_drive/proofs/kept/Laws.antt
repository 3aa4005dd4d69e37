-- The laws of driven days.
use Rattle.std.proofs.lemmas.Bool.Decides.{nat_tests}
use Rattle.std.proofs.Common.{[], arith, ◌≡◌, ℕ, ◌+◌, ◌≤◌, cond, List, ◌∷◌, All, Some, ap, None, IfSome}
use Rattle.route_drive.proofs.Common.{
  travel_time,
  AnswersWith,
  IsGoodOutcome,
  IsGoodPlan,
  Batch,
  Vehicle,
  after_answer,
  opening,
  find_vehicle,
  step,
  Pickup,
  Dropoff,
  Close,
  Answer,
  PlannedStop,
  Reply,
  Picked,
  Dropped,
  Closed,
  State,
  look_up-nil,
  reached-consistent,
  IsNode,
  state_after,
  BookRider,
  All-nil,
  Settings,
  Roads,
  IsKept,
  IsDayState,
  IsDone,
  IsServing,
  KeepsBounds,
  ShowsRiders,
  AreReported,
  IsClosedInTime,
  closed,
  planned_in,
  stops_with,
  IsFleet,
  Outcome,
}
use Rattle.route_drive.proofs.kept.Replies.{close_is}
use Rattle.route_drive.proofs.kept.States.{pickup_done, dropoff_done, stepped}
use Rattle.route_drive.proofs.kept.Trips.{all_in_time, nothing_lapses}
use Rattle.route_drive.proofs.kept.Made.{closed_kept, closed_bounds}
use Rattle.request_book.specs.declared.values.outcome.Answer.TheVariants as answer

-- a vehicle's next stop is answered picked or dropped, and the vehicle then serves the stops after it, each at its
-- second, while every other vehicle goes on as it was and no promised pickup is put off
pub stops_are_answered : (settings : Settings) (roads : Roads) (s : State) (v : Vehicle) (free : ℕ) (stop : PlannedStop) (stops : List PlannedStop) →
    IsDayState roads s → find_vehicle v.id s.vehicles ≡ Some v
    → v.time ≤ free → IsServing settings roads s.riders v free (stop ∷ stops)
    → IsDone settings roads s (cond stop.pick (Pickup v.id stop.rider stop.second) (Dropoff v.id stop.rider stop.second)) (cond stop.pick Picked Dropped) v.id
    stop.node stop.second (stop.second + settings.dwell) stops
stops_are_answered settings roads s v free stop stops day at early serves = grind (
  arith,
  nat_tests,
  (pickup_done settings roads s day v at free stop stops early),
  (dropoff_done settings roads s day v at free stop stops early),
)

-- in a batch that is sealed while every vehicle serves its stops, no vehicle is late and no promise lapses
pub no_promise_lapses : (settings : Settings) (roads : Roads) (s : State) (stops : ℕ → List PlannedStop) (b : Batch) (outcome : Outcome) →
    IsKept settings roads s stops → ShowsRiders s b → AreReported s b
    → s.sealed ≡ Some b → IsGoodOutcome settings roads b outcome → IsClosedInTime settings roads s outcome.answer
no_promise_lapses settings roads s stops b outcome kept shows early sealed good = record {
  batch = b;
  sealed = sealed;
  settles = λ points times settled table limits. all_in_time settings roads s stops b settled points times kept shows early limits table;
  tells = by outcome.answer good.answer;
}
  where
    by : (a : Answer) → AnswersWith settings good.points (travel_time good.times) good.settled (IsGoodPlan settings) a →
        IfSome (planned_in a) (λ planned. (planned.late ≡ []) × (planned.lapsed ≡ []))
    by answer.Overflow is = tt
    by (answer.Planned planned) is = nothing_lapses settings roads s stops b good.settled good.points good.times kept shows early good.limits good.table planned
        is

-- after the close of such a batch every vehicle serves the stops of its chosen trip, or after an overflow those that it
-- had, and nobody who had a promise is promised a later pickup
pub closes_keep : (settings : Settings) (roads : Roads) (s : State) (stops : ℕ → List PlannedStop) (b : Batch) (outcome : Outcome) →
    IsKept settings roads s stops → ShowsRiders s b → AreReported s b
    → s.sealed ≡ Some b → IsGoodOutcome settings roads b outcome → IsKept settings roads (closed s b outcome) (stops_with (planned_in outcome.answer) stops) ×
    KeepsBounds s (closed s b outcome)
unfolding after_answer
closes_keep settings roads s stops b outcome kept shows early sealed good = by outcome.answer (close_is roads.nodes settings.wait s b outcome sealed)
    good.answer
  where
    by : (a : Answer) → step roads.nodes settings.wait s (Close b.number outcome) ≡ (
      record s { riders = after_answer b.riders a s.riders; sealed = None },
      Closed,
    )
        → AnswersWith settings good.points (travel_time good.times) good.settled (IsGoodPlan settings) a
        → IsKept settings roads (record s { riders = after_answer b.riders a s.riders; sealed = None }) (stops_with (planned_in a) stops) × KeepsBounds s
        (record s { riders = after_answer b.riders a s.riders; sealed = None })
    by answer.Overflow is good_answer = (
      record {
        state = stepped settings roads s (record s { sealed = None }) (Close b.number outcome) kept.state (ap (λ (p : State × Reply). p.0) is)
            (λ x r p f t. let was = kept.state.promises x r p f t in record {
              last = was.last;
              sealed = was.sealed;
              asked = was.asked;
              vehicle =
                  was.vehicle;
              at = was.at;
            });
        each = kept.each;
      },
      λ x limit was. record { of = was.of; found = was.found; bound = was.bound },
    )
    by (answer.Planned planned) is good_plan = (
      closed_kept settings roads s stops b good.settled good.points good.times kept shows early good.limits good.table planned good_plan
          (Close b.number outcome) Closed is,
      closed_bounds settings roads s stops b good.settled good.points good.times kept shows early good.limits good.table planned good_plan,
    )

-- the state with which a day begins: nothing is on its way, nobody is promised or aboard
pub opening_is_kept : (settings : Settings) (roads : Roads) (vehicles : List Vehicle) → IsFleet vehicles → All (λ v. IsNode roads.nodes v.node) vehicles →
    IsKept settings roads (opening vehicles) (λ id. [])
unfolding state_after
opening_is_kept settings roads vehicles fleet named = record {
  state = record {
    consistent = reached-consistent roads.nodes settings.wait vehicles [] fleet;
    named = record {
      riders = All-nil (λ (r : BookRider). IsNode roads.nodes r.origin × IsNode roads.nodes r.destination);
      vehicles = named;
      sealed =
          λ b e. absurd cc;
    };
    promises = λ x r p found status. absurd (let none = look_up-nil (λ (r : BookRider). r.id) x in cc);
  };
  each = λ id v found. record {
    reached = tt;
    seats = tt;
    right = tt;
    calls = λ x r at. absurd (let none = look_up-nil (λ (r : BookRider). r.id) x in cc);
    few = omega arith;
  };
}
