-- What is entered of a vehicle before a seal, command by command.
use Rattle.std.proofs.Common.{◌≡◌, ℕ, ◌+◌, ◌<◌, ◌≤◌, true, cond, List, [], ◌∷◌, ◌++◌, map, Option, Some, refl, sym, ap, ◌∙◌, subst, arith, inl, inr, rules}
use Rattle.route_drive.proofs.Common.{
  AllByRecursion,
  cases_lt,
  Vehicle,
  IsNode,
  find_rider,
  find_vehicle,
  step,
  Command,
  Report,
  PlannedStop,
  Reply,
  Placed,
  Picked,
  Dropped,
  BookRider,
  State,
  All-look_up,
  Settings,
  Roads,
  IsNetwork,
  has_node,
  NodeAt,
  IsReported,
  due,
  goal_of,
  standing_after,
  stop_command,
  to_come,
  AreReached,
  IsRightStop,
  IsServing,
  IsDayState,
  IsDone,
  nat_tests,
}
use Rattle.route_drive.proofs.kept.Lists.{all_weaker}
use Rattle.route_drive.proofs.kept.Riders.{right_cases}
use Rattle.route_drive.proofs.kept.Keeping.{OneKeeps, report_one, stop_one}
use Rattle.route_drive.proofs.kept.States.{report_done, vehicle_id}
use Rattle.route_drive.proofs.kept.Laws.{stops_are_answered}
use Rattle.route_drive.proofs.kept.Reported.{reported_there}

-- what is to be entered of a vehicle: its stops that are due, and then its report; or nothing more
pub data IsPending (settings : Settings) (roads : Roads) (now : ℕ) (riders : List BookRider) (v : Vehicle) (target : Option ℕ) (commands : List Command)
    (left : List PlannedStop) : Type 0 where
  waits : (free : ℕ) (stops : List PlannedStop) (there : NodeAt) → v.time ≤ free → IsServing settings roads riders v free stops
      → IsReported roads now (standing_after settings.dwell (record { node = v.node; second = v.time; free = free }) (due now stops))
      (goal_of target (to_come now stops)) there
      → commands ≡ map (stop_command v.id) (due now stops) ++ Report v.id there.node there.second ∷ [] → left ≡ to_come now stops
      → IsPending settings roads now riders v target commands left
  over : now ≤ v.time → IsServing settings roads riders v v.time left → AllByRecursion (λ stop. now < stop.second) left → commands ≡ [] →
      IsPending settings roads now riders v target commands left

-- where the first stop is later, all are
all_later : (roads : Roads) (dwell now node free : ℕ) (stops : List PlannedStop) → now < free → AreReached roads dwell node free stops →
    AllByRecursion (λ stop. now < stop.second) stops
all_later roads dwell now node free [] late reached = tt
all_later roads dwell now node free (stop ∷ stops) late reached = search (rules, (all_later roads dwell now stop.node (stop.second + dwell) stops))

none_due : (now : ℕ) (stops : List PlannedStop) → AllByRecursion (λ stop. now < stop.second) stops → (due now stops ≡ []) × (to_come now stops ≡ stops)
none_due now [] all = (refl, refl)
none_due now (stop ∷ stops) all = grind (arith, nat_tests, all.0, none_due now stops all.1)

-- the stops of a vehicle that are still to be entered, once no report follows them
pub record IsRunning (settings : Settings) (roads : Roads) (riders : List BookRider) (v : Vehicle) (commands : List Command) : Type 0 where
  pub free : ℕ
  pub stops : List PlannedStop
  pub early : v.time ≤ free
  pub serves : IsServing settings roads riders v free stops
  pub told : commands ≡ map (stop_command v.id) stops

-- the first of a vehicle's commands is answered, and leaves this of its riders and of the vehicle
pub record IsEnteredOne (settings : Settings) (roads : Roads) (s : State) (v : Vehicle) (command : Command) (P : List BookRider → Vehicle → Type 0) : Type 0
  where
    pub reply : Reply
    pub node : ℕ
    pub time : ℕ
    pub free : ℕ
    pub stops : List PlannedStop
    pub done : IsDone settings roads s command reply v.id node time free stops
    pub keeps : OneKeeps settings roads s command (step roads.nodes settings.wait s command).1
    pub pending : P done.t.riders done.own.v

-- the next stop of a vehicle is
stop_next : (settings : Settings) (roads : Roads) (s : State) → IsDayState roads s → (v : Vehicle) (free : ℕ) (stop : PlannedStop) (stops : List PlannedStop)
    (command : Command) (P : List BookRider → Vehicle → Type 0)
    → find_vehicle v.id s.vehicles ≡ Some v → v.time ≤ free → IsServing settings roads s.riders v free (stop ∷ stops) → stop_command v.id stop ≡ command
    → ((riders : List BookRider) (u : Vehicle) → u.id ≡ v.id → u.node ≡ stop.node → u.time ≡ stop.second →
    IsServing settings roads riders u (stop.second + settings.dwell) stops → P riders u)
    → IsEnteredOne settings roads s v command P
stop_next settings roads s day v free stop stops command P at early serves is then =
    let done = stops_are_answered settings roads s v free stop stops day at early serves in
    subst (λ command. IsEnteredOne settings roads s v command P) is (record {
      reply = cond stop.pick Picked Dropped;
      node = stop.node;
      time = stop.second;
      free = stop.second + settings.dwell;
      stops = stops;
      done = done;
      keeps = stop_one settings roads s v.id v.id stop.node stop.second (stop.second + settings.dwell) stop stops day serves.right.0 done;
      pending = then done.t.riders done.own.v (vehicle_id v.id done.t.vehicles done.own.v done.own.at) done.own.there done.own.by done.own.serves;
    })

pub run_next : (settings : Settings) (roads : Roads) (s : State) → IsDayState roads s → (v : Vehicle) (free : ℕ) (stops : List PlannedStop) (command : Command)
    (commands : List Command)
    → find_vehicle v.id s.vehicles ≡ Some v → v.time ≤ free → IsServing settings roads s.riders v free stops →
    command ∷ commands ≡ map (stop_command v.id) stops
    → IsEnteredOne settings roads s v command (λ riders u. IsRunning settings roads riders u commands)
run_next settings roads s day v free [] command commands at early serves told = absurd cc
run_next settings roads s day v free (stop ∷ stops) command commands at early serves told =
    grind (arith, nat_tests, (stop_next settings roads s day v free stop stops command))

module _ (settings : Settings) (roads : Roads) (net : IsNetwork roads) (now : ℕ) (s : State) (day : IsDayState roads s) where
  -- the stops of a vehicle are nodes of the network
  stops_named : (v : ℕ) (stops : List PlannedStop) → AllByRecursion (IsRightStop settings roads s.riders v) stops →
      AllByRecursion (λ (stop : PlannedStop). has_node roads.nodes stop.node ≡ true) stops
  stops_named v stops right = all_weaker (IsRightStop settings roads s.riders v) (λ (stop : PlannedStop). has_node roads.nodes stop.node ≡ true)
      (λ stop own. elim (right_cases settings roads s.riders v stop own) [
        | inl right ↦ subst (λ n. has_node roads.nodes n ≡ true) (sym right.1.node) (named stop.rider right.1.rider right.1.found).0
        | inr right ↦ subst (λ n. has_node roads.nodes n ≡ true) (sym right.1.node) (named stop.rider right.1.rider right.1.found).1
      ]) stops right
    where
      named : (x : ℕ) (r : BookRider) → find_rider x s.riders ≡ Some r → IsNode roads.nodes r.origin × IsNode roads.nodes r.destination
      named x r found = All-look_up (λ (r : BookRider). r.id) (λ (r : BookRider). IsNode roads.nodes r.origin × IsNode roads.nodes r.destination) x s.riders r
          day.named.riders found

  report_next : (v : Vehicle) (free : ℕ) (target : Option ℕ) (stops : List PlannedStop) (there : NodeAt) (command : Command) (commands : List Command)
      (left : List PlannedStop)
      → find_vehicle v.id s.vehicles ≡ Some v → v.time ≤ free → IsServing settings roads s.riders v free stops →
      AllByRecursion (λ stop. now < stop.second) stops
      → IsReported roads now (standing_after settings.dwell (record { node = v.node; second = v.time; free = free }) (due now stops))
      (goal_of target (to_come now stops)) there
      → command ∷ commands ≡ map (stop_command v.id) (due now stops) ++ Report v.id there.node there.second ∷ [] → left ≡ to_come now stops
      → IsEnteredOne settings roads s v command (λ riders u. IsPending settings roads now riders u target commands left)
  report_next v free target stops there command commands left at early serves later reported told left_is =
      let none = none_due now stops later in
      let here : has_node roads.nodes v.node ≡ true = All-look_up (λ (v : Vehicle). v.id) (λ (v : Vehicle). IsNode roads.nodes v.node) v.id s.vehicles v
      day.named.vehicles at in
      let is = reported_there roads net settings.dwell now (record { node = v.node; second = v.time; free = free }) here early target there stops
      (stops_named v.id stops serves.right) later serves.reached
      (subst (λ ss. IsReported roads now (record { node = v.node; second = v.time; free = free }) (goal_of target ss) there) none.1
      (subst (λ ds. IsReported roads now (standing_after settings.dwell (record { node = v.node; second = v.time; free = free }) ds)
      (goal_of target (to_come now stops)) there) none.0 reported)) in
      let done = report_done settings roads s day v at free there.node there.second stops is.named is.later serves is.reached in
      let one : Report v.id there.node there.second ≡ command = cc (told, none.0) in
      let rest : commands ≡ [] = cc (told, none.0) in
      let by : done.own.v.time ≡ there.second = done.own.by in
      let same : stops ≡ left = sym (left_is ∙ none.1) in
      subst (λ command. IsEnteredOne settings roads s v command (λ riders u. IsPending settings roads now riders u target commands left)) one (record {
        reply = Placed;
        node = there.node;
        time = there.second;
        free = there.second;
        stops = stops;
        done = done;
        keeps = report_one settings roads s v.id there.node there.second v.id there.node there.second there.second stops day done;
        pending = subst (IsPending settings roads now done.t.riders done.own.v target commands) same
            (IsPending.over (let h = is.by in omega (arith, h, by)) (subst (λ f. IsServing settings roads done.t.riders done.own.v f stops) (sym by)
            done.own.serves) later rest);
      })

  pub entered_next : (v : Vehicle) (target : Option ℕ) (command : Command) (commands : List Command) (left : List PlannedStop) →
      find_vehicle v.id s.vehicles ≡ Some v
      → IsPending settings roads now s.riders v target (command ∷ commands) left → IsEnteredOne settings roads s v command
      (λ riders u. IsPending settings roads now riders u target commands left)
  entered_next v target command commands left at (IsPending.over by serves later none) = absurd cc
  entered_next v target command commands left at (IsPending.waits free [] there early serves reported told left_is) =
      report_next v free target [] there command commands left at early serves tt reported told left_is
  entered_next v target command commands left at (IsPending.waits free (stop ∷ stops) there early serves reported told left_is) =
      elim (cases_lt now stop.second) [
        | inl late ↦ report_next v free target (stop ∷ stops) there command commands left at early serves
            (late, all_later roads settings.dwell now stop.node (stop.second + settings.dwell) stops (omega (arith, late)) serves.reached.1) reported
            told left_is
        | inr le ↦
            let first : (due now (stop ∷ stops) ≡ stop ∷ due now stops) × (to_come now (stop ∷ stops) ≡ to_come now stops) = grind (arith, nat_tests, le) in
            let one : stop_command v.id stop ≡ command = cc (told, first.0) in
            let rest : commands ≡ map (stop_command v.id) (due now stops) ++ Report v.id there.node there.second ∷ [] = cc (told, first.0) in
            let is : IsReported roads now (standing_after settings.dwell
            (record { node = stop.node; second = stop.second; free = stop.second + settings.dwell })
            (due now stops)) (goal_of target (to_come now stops)) there =
            subst (λ ss. IsReported roads now (standing_after settings.dwell
            (record { node = stop.node; second = stop.second; free = stop.second + settings.dwell }) (due now stops)) (goal_of target ss) there) first.1
            (subst (λ ds. IsReported roads now (standing_after settings.dwell (record { node = v.node; second = v.time; free = free }) ds)
            (goal_of target (to_come now (stop ∷ stops))) there) first.0 reported) in
            stop_next settings roads s day v free stop stops command (λ riders u. IsPending settings roads now riders u target commands left) at early
            serves one
            (λ riders u id node time on.
            IsPending.waits (stop.second + settings.dwell) stops there (omega (arith, time)) on
            (subst (λ n. IsReported roads now (standing_after settings.dwell (record { node = n; second = u.time; free = stop.second + settings.dwell })
            (due now stops)) (goal_of target (to_come now stops)) there) (sym node)
            (subst (λ t. IsReported roads now (standing_after settings.dwell (record { node = stop.node; second = t; free = stop.second + settings.dwell })
            (due now stops)) (goal_of target (to_come now stops)) there) (sym time) is))
            (rest ∙ ap (λ n. map (stop_command n) (due now stops) ++ Report n there.node there.second ∷ []) (sym id)) (left_is ∙ first.1))
      ]
