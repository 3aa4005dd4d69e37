-- All that is entered before a seal, with requests of any lanes between.
use Rattle.std.proofs.Common.{
  ◌≡◌,
  ℕ,
  ◌<◌,
  ◌≤◌,
  Bool,
  false,
  eqb,
  List,
  [],
  ◌∷◌,
  ◌++◌,
  length,
  map,
  filter,
  Option,
  Some,
  None,
  refl,
  sym,
  ap,
  ◌∙◌,
  subst,
  arith,
  inl,
  inr,
  rules,
}
use Rattle.route_drive.proofs.Common.{
  AllByRecursion,
  cases_eq,
  cond-true,
  cond-false,
  option_map_or,
  filter-append,
  Vehicle,
  KeysDiffer,
  find_vehicle,
  step,
  Command,
  Report,
  Pickup,
  Dropoff,
  PlannedStop,
  Reply,
  BookRider,
  State,
  look_up-here,
  look_up-there,
  look_up-nil,
  Settings,
  Roads,
  IsNetwork,
  Course,
  AreEntered,
  IsEntered,
  due,
  stop_command,
  IsServing,
  IsDayState,
  course_of,
  IsReadyForSeal,
  LeavesAll,
  left_commands,
  eq-eqb,
  ne_eqb,
  cond_both,
  append-nil,
  nat_tests,
  look_up,
}
use Rattle.route_drive.proofs.kept.Lists.{skips, takes, all_weaker}
use Rattle.route_drive.proofs.kept.States.{vehicle_id}
use Rattle.route_drive.proofs.kept.Keeping.{OneKeeps}
use Rattle.route_drive.proofs.kept.Pending.{IsPending, entered_next, IsRunning, run_next, IsEnteredOne}

-- the vehicle of a command that is entered, and whether it is this one
abbrev pub vehicle_in : Command → Option ℕ
vehicle_in (Report v n t) = Some v
vehicle_in (Pickup v r t) = Some v
vehicle_in (Dropoff v r t) = Some v
vehicle_in command = None

pub is_for : ℕ → Command → Bool
is_for id command = option_map_or (λ v. eqb v id) (vehicle_in command) false

for_one : (id v : ℕ) (command : Command) → vehicle_in command ≡ Some v → is_for id command ≡ eqb v id
unfolding is_for
for_one id v command e = rw e refl

all_for : (v : ℕ) (commands : List Command) → AllByRecursion (λ c. vehicle_in c ≡ Some v) commands → filter (is_for v) commands ≡ commands
all_for v [] all = refl
all_for v (c ∷ commands) all = takes (is_for v) c commands (for_one v v c all.0 ∙ eq-eqb v v refl) ∙ ap (λ cs. c ∷ cs) (all_for v commands all.1)

none_for : (id v : ℕ) (commands : List Command) → (v ≡ id → ⊥) → AllByRecursion (λ c. vehicle_in c ≡ Some v) commands → filter (is_for id) commands ≡ []
none_for id v [] ne all = refl
none_for id v (c ∷ commands) ne all = skips (is_for id) c commands (for_one id v c all.0 ∙ ne_eqb v id ne) ∙ none_for id v commands ne all.1

stops_for : (v : ℕ) (stops : List PlannedStop) → AllByRecursion (λ c. vehicle_in c ≡ Some v) (map (stop_command v) stops)
stops_for v [] = tt
stops_for v (stop ∷ stops) = (
  cond_both stop.pick (Pickup v stop.rider stop.second) (Dropoff v stop.rider stop.second) (λ c. vehicle_in c ≡ Some v) (λ e. refl)
      (λ e. refl),
  stops_for v stops,
)

all_append : {X : Type 0} (P : X → Type 0) (xs ys : List X) → AllByRecursion P xs → AllByRecursion P ys → AllByRecursion P (xs ++ ys)
all_append P [] ys all rest = rest
all_append P (x ∷ xs) ys all rest = (all.0, all_append P xs ys all.1 rest)

-- what is entered of all vehicles, one after the other, each by a rule
abbrev pub EachEnters : (Vehicle → Course → List Command → Type 0) → List Vehicle → List Course → List Command → Type 0
EachEnters R (v ∷ vehicles) (course ∷ courses) commands =
    (own : List Command) × (rest : List Command) × R v course own × AllByRecursion (λ c. vehicle_in c ≡ Some v.id) own × EachEnters R vehicles courses rest ×
    (commands ≡ own ++ rest)
EachEnters R vehicles courses commands = commands ≡ []

pub entered_each : (roads : Roads) (dwell now : ℕ) (vehicles : List Vehicle) (courses : List Course) (entered : List Command) →
    AreEntered roads dwell now vehicles courses entered → EachEnters (IsEntered roads dwell now) vehicles courses entered
entered_each roads dwell now (v ∷ vehicles) (course ∷ courses) entered are = search (
  rules,
  all_append,
  stops_for,
  (entered_each roads dwell now vehicles courses are.1 are.3),
)
entered_each roads dwell now vehicles courses entered are = are

pub left_each : (vehicles : List Vehicle) (courses : List Course) → EachEnters (λ v course own. own ≡ map (stop_command v.id) course.stops.items) vehicles
    courses (left_commands vehicles courses)
left_each (v ∷ vehicles) (course ∷ courses) = (
  map (stop_command v.id) course.stops.items,
  left_commands vehicles courses,
  refl,
  stops_for v.id
      course.stops.items,
  left_each vehicles courses,
  refl,
)
left_each vehicles courses = refl

module _ (R : Vehicle → Course → List Command → Type 0) (id : ℕ) where
  -- of an id that no vehicle has, nothing is entered
  nothing_for : (vehicles : List Vehicle) (courses : List Course) (entered : List Command) → find_vehicle id vehicles ≡ None →
      EachEnters R vehicles courses entered → filter (is_for id) entered ≡ []
  nothing_for (v ∷ vehicles) (course ∷ courses) entered none are = elim (cases_eq v.id id) [
    | inl e ↦ absurd (let h = look_up-here (λ (v : Vehicle). v.id) id v vehicles e in cc)
    | inr ne ↦
        ap (filter (is_for id)) are.5 ∙ filter-append (is_for id) are.0 are.1
        ∙ ap (λ cs. cs ++ filter (is_for id) are.1) (none_for id v.id are.0 ne are.3)
        ∙ nothing_for vehicles courses are.1 (sym (look_up-there (λ (v : Vehicle). v.id) id v vehicles ne) ∙ none) are.4
  ]
  nothing_for vehicles courses entered none are = ap (filter (is_for id)) are

  -- what is entered of a vehicle is its own part
  pub part_of : (vehicles : List Vehicle) (courses : List Course) (entered : List Command) (w : Vehicle) → KeysDiffer (λ v. v.id) vehicles →
      length courses ≡ length vehicles
      → find_vehicle id vehicles ≡ Some w → EachEnters R vehicles courses entered → R w (course_of vehicles courses id) (filter (is_for id) entered)
  unfolding KeysDiffer
  part_of [] courses entered w differ same found are = absurd (let n = look_up-nil (λ (v : Vehicle). v.id) id in cc)
  part_of (v ∷ vehicles) [] entered w differ same found are = absurd (omega arith)
  part_of (v ∷ vehicles) (course ∷ courses) entered w differ same found are =
      let split : filter (is_for id) entered ≡ filter (is_for id) are.0 ++ filter (is_for id) are.1 = ap (filter (is_for id)) are.5 ∙
      filter-append (is_for id) are.0 are.1 in
      elim (cases_eq v.id id) [
        | inl e ↦
            let is : v ≡ w = cc (look_up-here (λ (v : Vehicle). v.id) id v vehicles e, found) in
            let none : find_vehicle id vehicles ≡ None = subst (λ k. find_vehicle k vehicles ≡ None) e differ.0 in
            let part : filter (is_for id) entered ≡ are.0 =
            split ∙ ap (λ cs. cs ++ filter (is_for id) are.1) (ap (λ k. filter (is_for k) are.0) (sym e) ∙ all_for v.id are.0 are.3)
            ∙ ap (λ cs. are.0 ++ cs) (nothing_for vehicles courses are.1 none are.4) ∙ append-nil are.0 in
            subst (λ cs. R w (course_of (v ∷ vehicles) (course ∷ courses) id) cs) (sym part)
            (subst (λ c. R w c are.0) (sym (cond-true (eqb v.id id) course (course_of vehicles courses id) (eq-eqb v.id id e)))
            (subst (λ v. R v course are.0) is are.2))
        | inr ne ↦
            let part : filter (is_for id) entered ≡ filter (is_for id) are.1 = split ∙ ap (λ cs. cs ++ filter (is_for id) are.1)
            (none_for id v.id are.0 ne are.3) in
            subst (λ cs. R w (course_of (v ∷ vehicles) (course ∷ courses) id) cs) (sym part)
            (subst (λ c. R w c (filter (is_for id) are.1)) (sym (cond-false (eqb v.id id) course (course_of vehicles courses id) (ne_eqb v.id id ne)))
            (part_of vehicles courses are.1 w differ.1 (omega (arith, same)) (sym (look_up-there (λ (v : Vehicle). v.id) id v vehicles ne) ∙ found) are.4))
      ]

-- a command that is entered is of a vehicle that there is
abbrev pub IsOwned : State → Command → Type 0
IsOwned s command = (id : ℕ) × (v : Vehicle) × (vehicle_in command ≡ Some id) × (find_vehicle id s.vehicles ≡ Some v)

-- lists with the same ids have the same vehicles to find
pub found_by_ids : (xs ys : List Vehicle) (id : ℕ) (v : Vehicle) → map (λ v. v.id) ys ≡ map (λ v. v.id) xs → find_vehicle id xs ≡ Some v →
    (u : Vehicle) × (find_vehicle id ys ≡ Some u)
unfolding look_up
found_by_ids (x ∷ xs) (y ∷ ys) id v same found =
    elim (cases_eq x.id id) [
      | inl e ↦ (y, grind (arith, nat_tests, same))
      | inr ne ↦ let rest = found_by_ids xs ys id v (cc) (grind (arith, nat_tests)) in (rest.0, grind (arith, nat_tests, same))
    ]
found_by_ids xs ys id v same found = absurd cc

-- a way of entering what vehicles still have to do: it stays to be entered where a vehicle goes on serving, and the first
-- of a vehicle's commands is answered
pub record IsWay (settings : Settings) (roads : Roads) (P : List BookRider → ℕ → Vehicle → List Command → Type 0) : Type 0 where
  pub stays : (riders others : List BookRider) (id : ℕ) (v : Vehicle) (commands : List Command)
      → ((free : ℕ) (stops : List PlannedStop) → IsServing settings roads riders v free stops → IsServing settings roads others v free stops) →
      P riders id v commands → P others id v commands
  pub next : (s : State) (id : ℕ) (v : Vehicle) (command : Command) (commands : List Command) → IsDayState roads s → find_vehicle v.id s.vehicles ≡ Some v →
      P s.riders id v (command ∷ commands)
      → IsEnteredOne settings roads s v command (λ riders u. P riders id u commands)

-- before a seal its stops that are due and its report, and at the end of a day all its stops
pub pending_way : (settings : Settings) (roads : Roads) (now : ℕ) (target : ℕ → Option ℕ) (left : ℕ → List PlannedStop) → IsNetwork roads →
    IsWay settings roads (λ riders id v commands. IsPending settings roads now riders v (target id) commands (left id))
pending_way settings roads now target left net = record {
  stays = λ riders others id v commands serve pending. moved riders others id v commands serve pending;
  next = λ s id v command commands day at pending. entered_next settings roads net now s day v (target id) command commands (left id) at pending;
}
  where
    moved : (riders others : List BookRider) (id : ℕ) (v : Vehicle) (commands : List Command)
        → ((free : ℕ) (stops : List PlannedStop) → IsServing settings roads riders v free stops → IsServing settings roads others v free stops)
        → IsPending settings roads now riders v (target id) commands (left id) → IsPending settings roads now others v (target id) commands (left id)
    moved riders others id v commands serve (IsPending.waits free stops there early serves reported told is) =
        IsPending.waits free stops there early (serve free stops serves) reported told is
    moved riders others id v commands serve (IsPending.over by serves later none) = IsPending.over by (serve v.time (left id) serves) later none

pub running_way : (settings : Settings) (roads : Roads) → IsWay settings roads (λ riders id v commands. IsRunning settings roads riders v commands)
running_way settings roads = record {
  stays = λ riders others id v commands serve runs. record {
    free = runs.free;
    stops = runs.stops;
    early = runs.early;
    serves =
        serve runs.free runs.stops runs.serves;
    told = runs.told;
  };
  next = λ s id v command commands day at runs. run_next settings roads s day v runs.free runs.stops command commands at runs.early runs.serves runs.told;
}

abbrev pub ArePending : (List BookRider → ℕ → Vehicle → List Command → Type 0) → State → List Command → Type 0
ArePending P s entered = (id : ℕ) (v : Vehicle) → find_vehicle id s.vehicles ≡ Some v → P s.riders id v (filter (is_for id) entered)

module _ (settings : Settings) (roads : Roads) (P : List BookRider → ℕ → Vehicle → List Command → Type 0) (way : IsWay settings roads P) where
  pub record IsOneOn (s : State) (command : Command) (entered : List Command) : Type 0 where
    pub keeps : OneKeeps settings roads s command (step roads.nodes settings.wait s command).1
    pub state : IsDayState roads (step roads.nodes settings.wait s command).0
    pub pending : ArePending P (step roads.nodes settings.wait s command).0 entered

  pub one_on : (s : State) (command : Command) (entered : List Command) → IsDayState roads s → ArePending P s (command ∷ entered) → IsOwned s command →
      IsOneOn s command entered
  one_on s command entered day pending owned =
      let same : owned.1.id ≡ owned.0 = vehicle_id owned.0 s.vehicles owned.1 owned.3 in
      let at : find_vehicle owned.1.id s.vehicles ≡ Some owned.1 = ap (λ k. find_vehicle k s.vehicles) same ∙ owned.3 in
      let own : filter (is_for owned.0) (command ∷ entered) ≡ command ∷ filter (is_for owned.0) entered =
      takes (is_for owned.0) command entered (for_one owned.0 owned.0 command owned.2 ∙ eq-eqb owned.0 owned.0 refl) in
      let next = way.next s owned.0 owned.1 command (filter (is_for owned.0) entered) day at
      (subst (P s.riders owned.0 owned.1) own (pending owned.0 owned.1 owned.3)) in
      let done = next.done in
      let is : done.t ≡ (step roads.nodes settings.wait s command).0 = sym (ap (λ (p : State × Reply). p.0) done.is) in
      record {
        keeps = next.keeps;
        state = subst (IsDayState roads) is done.state;
        pending = subst (λ t. ArePending P t entered) is (λ j w found. elim (cases_eq owned.0 j) [
          | inl e ↦
              let there : find_vehicle j done.t.vehicles ≡ Some done.own.v = ap (λ k. find_vehicle k done.t.vehicles) (sym e ∙ sym same) ∙ done.own.at in
              let own : done.own.v ≡ w = cc in
              subst (λ j. P done.t.riders j w (filter (is_for j) entered)) e (subst (λ w. P done.t.riders owned.0 w (filter (is_for owned.0) entered)) own
              next.pending)
          | inr ne ↦
              let ne' : owned.1.id ≡ j → ⊥ = λ e. ne (sym same ∙ e) in
              let rest : filter (is_for j) (command ∷ entered) ≡ filter (is_for j) entered = skips (is_for j) command entered
              (for_one j owned.0 command owned.2 ∙ ne_eqb owned.0 j ne) in
              way.stays s.riders done.t.riders j w (filter (is_for j) entered) (λ free stops serves. done.others.serve j w free stops ne' found serves)
              (subst (P s.riders j w) rest (pending j w (done.others.found j w ne' found)))
        ]);
      }

  -- a request leaves what is to be entered
  pub asked_pending : (s t : State) (entered : List Command) → ArePending P s entered → LeavesAll settings roads s t → ArePending P t entered
  asked_pending s t entered pending leaves id v found =
      let was : find_vehicle id s.vehicles ≡ Some v = ap (find_vehicle id) (sym leaves.vehicles) ∙ found in
      way.stays s.riders t.riders id v (filter (is_for id) entered) (λ free stops serves. leaves.serve id v free stops was serves) (pending id v was)

pub still_owned : (s t : State) (entered : List Command) → map (λ v. v.id) t.vehicles ≡ map (λ v. v.id) s.vehicles → AllByRecursion (IsOwned s) entered →
    AllByRecursion (IsOwned t) entered
still_owned s t entered ids all = all_weaker (IsOwned s) (IsOwned t) (λ c own. let u = found_by_ids s.vehicles t.vehicles own.0 own.1 ids
    own.3 in (own.0, u.0, own.2, u.1)) entered all

-- once nothing is to be entered any more
pub finished : (settings : Settings) (roads : Roads) (now : ℕ) (target : ℕ → Option ℕ) (left : ℕ → List PlannedStop) (s : State) → IsDayState roads s
    → ((id : ℕ) (v : Vehicle) → find_vehicle id s.vehicles ≡ Some v → IsPending settings roads now s.riders v (target id) [] (left id)) →
    IsReadyForSeal settings roads now s left
finished settings roads now target left s day pending = record {
  kept = record { state = day; each = λ id v found. (over id v (pending id v found)).1 };
  reported = λ id v found. (over id v (pending id v found)).0;
  later = λ id v found. (over id v (pending id v found)).2;
}
  where
    nonempty : (cs : List Command) (c : Command) → cs ++ c ∷ [] ≡ [] → ⊥
    nonempty [] c e = cc
    nonempty (d ∷ cs) c e = cc

    over : (id : ℕ) (v : Vehicle) → IsPending settings roads now s.riders v (target id) [] (left id) →
        (now ≤ v.time) × IsServing settings roads s.riders v v.time (left id) × AllByRecursion (λ stop. now < stop.second) (left id)
    over id v (IsPending.over by serves later told) = (by, serves, later)
    over id v (IsPending.waits free stops there early serves reported told is) = absurd (nonempty (map (stop_command v.id) (due now stops))
        (Report v.id there.node there.second) (sym told))

-- everything that is entered is of a vehicle that there is
pub owners : (s : State) (R : Vehicle → Course → List Command → Type 0) (vehicles : List Vehicle) (courses : List Course) (entered : List Command) →
    AllByRecursion (λ v. find_vehicle v.id s.vehicles ≡ Some v) vehicles
    → EachEnters R vehicles courses entered → AllByRecursion (IsOwned s) entered
owners s R (v ∷ vehicles) (course ∷ courses) entered all are = search (rules, all_append, all_weaker, (owners s R vehicles courses are.1 all.1 are.4))
owners s R vehicles courses entered all are = subst (AllByRecursion (IsOwned s)) (sym are) tt
