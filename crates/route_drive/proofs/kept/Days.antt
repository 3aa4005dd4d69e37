-- A driven day, round by round.
use Rattle.std.proofs.Common.{◌≡◌, ℕ, ◌≤◌, List, [], ◌∷◌, ◌++◌, length, map, Option, Some, None, unwrap_or, refl, sym, ap, ◌∙◌, subst, arith, All, MatchOption}
use Rattle.route_drive.proofs.Common.{
  AllByRecursion,
  option_map_or,
  Vehicle,
  next_position,
  look_up,
  RepliesAreSteps,
  state_after,
  find_vehicle,
  Command,
  Seal,
  Entry,
  Journal,
  Planned,
  PlannedStop,
  State,
  rounds-join,
  Settings,
  Roads,
  IsNetwork,
  NumberedLanes,
  lane_at,
  ClosesAreGood,
  IsRoundRun,
  IsRun,
  Course,
  seal_of,
  AreDriven,
  IsDrivenRound,
  IsPrecededBy,
  courses_after,
  courses_left,
  left_course,
  plan_in,
  planned_course,
  AreEntered,
  to_come,
  course_of,
  IsKept,
  IsServing,
  stops_with,
  longest,
  second_of,
  flat_map,
  nat_tests,
}
use Rattle.route_drive.proofs.kept.DayRounds.{AreDayRounds, IsDayLane, IsDayRound}
use Rattle.route_drive.proofs.DriveLemmas.{courses_each}
use Rattle.route_drive.proofs.LeaveLemmas.{count_stays, ids_stay}
use Rattle.route_drive.proofs.kept.Keeping.{AllKeep, all_append}
use Rattle.route_drive.proofs.kept.Mixed.{IsMixed, IsRequest, asked_only, mixed, mixed_asked}
use Rattle.route_drive.proofs.kept.Rounds.{Ends, asked_end, seal_round}
use Rattle.route_drive.proofs.kept.States.{vehicle_id}

-- what is on its way for a vehicle is found by its id alone
course_by_ids : (xs ys : List Vehicle) (courses : List Course) (id : ℕ) → map (λ v. v.id) xs ≡ map (λ v. v.id) ys →
    course_of xs courses id ≡ course_of ys courses id
course_by_ids [] [] courses id same = refl
course_by_ids (x ∷ xs) (y ∷ ys) [] id same = refl
course_by_ids (x ∷ xs) (y ∷ ys) (course ∷ courses) id same = grind (arith, nat_tests, same, course_by_ids xs ys courses id)
course_by_ids xs ys courses id same = absurd cc

-- a change of all courses that leaves nothing as it is
course_mapped : (f : Course → Course) → f (record { stops = record { items = [] }; target = None }) ≡ record { stops = record { items = [] }; target = None } →
    (vehicles : List Vehicle) (courses : List Course) (id : ℕ)
    → course_of vehicles (map f courses) id ≡ f (course_of vehicles courses id)
course_mapped f none [] courses id = sym none
course_mapped f none (v ∷ vehicles) [] id = sym none
course_mapped f none (v ∷ vehicles) (course ∷ courses) id = grind (arith, nat_tests, course_mapped f none vehicles courses id)

-- courses made of the vehicles
course_made : (f : Vehicle → Course) (vehicles : List Vehicle) (id : ℕ) (v : Vehicle) → find_vehicle id vehicles ≡ Some v →
    course_of vehicles (map f vehicles) id ≡ f v
unfolding look_up
course_made f [] id v found = absurd cc
course_made f (w ∷ vehicles) id v found = grind (arith, nat_tests, course_made f vehicles id v)

-- the stops that are left after a seal, if there is one
abbrev pub left_stops : Option ℕ → List PlannedStop → List PlannedStop
left_stops None stops = stops
left_stops (Some now) stops = to_come now stops

-- what is on its way after a round, for a vehicle
course_after : (s t : State) (round : NumberedLanes) (es : List Entry) (courses : List Course) (id : ℕ) (v : Vehicle) →
    map (λ v. v.id) t.vehicles ≡ map (λ v. v.id) s.vehicles → find_vehicle id t.vehicles ≡ Some v
    → (course_of t.vehicles (courses_after t round es courses) id).stops.items ≡ stops_with (plan_in es)
    (λ id. left_stops (seal_of round) (course_of s.vehicles courses id).stops.items) id
course_after s t round es courses id v ids found = by (plan_in es)
  where
    by : (o : Option Planned) → (course_of t.vehicles (option_map_or (λ planned. map (planned_course t.riders planned) t.vehicles) o
        (map (left_course (seal_of round)) courses)) id).stops.items ≡ stops_with o (λ id. left_stops (seal_of round)
        (course_of s.vehicles courses id).stops.items) id
    by None = grind (
      arith,
      nat_tests,
      course_mapped (left_course (seal_of round)) (grind arith) t.vehicles courses id,
      course_by_ids t.vehicles s.vehicles
          courses id ids,
    )
    by (Some planned) = grind (arith, nat_tests, course_made (planned_course t.riders planned) t.vehicles id v found, vehicle_id id t.vehicles v found)

-- the entries of journals, in order
abbrev pub entries_in : List Journal → List Entry
entries_in js = flat_map (λ j. j.entries) js

-- how a round is driven, by its seal
abbrev WayOf : Settings → Roads → State → List Course → NumberedLanes → NumberedLanes → Option ℕ → Type 0
WayOf settings roads s courses round driven seal =
    MatchOption seal (IsPrecededBy [] round driven)
    (λ now. (entered : List Command) × AreEntered roads settings.dwell now s.vehicles courses entered × All (λ c. second_of c ≤ longest) entered × IsPrecededBy
    entered round driven)

module _ (settings : Settings) (roads : Roads) where
  -- between two rounds: what is on its way is served, no batch is open, and no seal was later than a second
  pub record IsOnDay (s : State) (courses : List Course) (latest : ℕ) : Type 0 where
    pub kept : IsKept settings roads s (λ id. (course_of s.vehicles courses id).stops.items)
    pub each : length courses ≡ length s.vehicles
    pub closed : s.sealed ≡ None
    pub last : (last : ℕ) → s.last_seal ≡ Some last → last ≤ latest

  -- a round that is over
  record IsRoundOver (s : State) (courses : List Course) (latest : ℕ) (round : NumberedLanes) (es : List Entry) : Type 0 where
    all : AllKeep settings roads s es
    on : IsOnDay (state_after roads.nodes settings.wait s es) (courses_after (state_after roads.nodes settings.wait s es) round es courses)
        (unwrap_or (seal_of round) latest)

  over_by : (s : State) (courses : List Course) (latest : ℕ) (round : NumberedLanes) (es : List Entry) (last : Option ℕ) → length courses ≡ length s.vehicles
      → Ends settings roads s es (λ id. left_stops (seal_of round) (course_of s.vehicles courses id).stops.items) last →
      ((l : ℕ) → last ≡ Some l → l ≤ unwrap_or (seal_of round) latest)
      → IsRoundOver s courses latest round es
  over_by s courses latest round es last same ends before = record {
    all = ends.all;
    on = record {
      kept = record {
        state = ends.kept.state;
        each = λ id v found. subst (IsServing settings roads (state_after roads.nodes settings.wait s es).riders v v.time)
            (sym (course_after s (state_after roads.nodes settings.wait s es) round es courses id v (ids_stay roads.nodes settings.wait s es) found))
            (ends.kept.each id v found);
      };
      each = courses_each (state_after roads.nodes settings.wait s es) round es courses (same ∙ sym (count_stays roads.nodes settings.wait s es));
      closed = ends.sealed;
      last = λ l is. before l (sym ends.last_is ∙ is);
    };
  }

  -- a round of a day
  round_over : (s : State) (courses : List Course) (latest : ℕ) (round driven : NumberedLanes) (j : Journal) → IsNetwork roads → IsOnDay s courses latest →
      IsDayRound latest round
      → IsDrivenRound settings roads s courses round driven → j.base ≡ s → IsRoundRun settings roads driven j → IsRoundOver s courses latest round j.entries
  round_over s courses latest round driven j net on day is_driven base run = by day.own
    where
      replies : RepliesAreSteps roads.nodes settings.wait s j.entries
      replies = subst (λ t. RepliesAreSteps roads.nodes settings.wait t j.entries) base run.replies

      good : ClosesAreGood settings roads s j.entries
      good = subst (λ t. ClosesAreGood settings roads t j.entries) base run.closes

      in_order : (entered : List Command) → IsPrecededBy entered round driven → IsMixed None (lane_at driven 0) j.entries
      in_order entered preceded =
          mixed roads.nodes settings.wait s (lane_at driven) j.entries replies
          (λ lane other. subst (AllByRecursion IsRequest) (sym (preceded.others lane other)) (day.others lane other)) run.lanes

      by : IsDayLane latest round → IsRoundOver s courses latest round j.entries
      by (IsDayLane.asks none all) =
          let preceded : IsPrecededBy [] round driven = subst (WayOf settings roads s courses round driven) none is_driven in
          over_by s courses latest round j.entries s.last_seal on.each
          (subst (λ o. Ends settings roads s j.entries (λ id. left_stops o (course_of s.vehicles courses id).stops.items) s.last_seal) (sym none)
          (asked_end settings roads j.entries s (λ id. (course_of s.vehicles courses id).stops.items) s.last_seal on.kept on.closed refl
          (mixed_asked j.entries (lane_at round 0) all (asked_only roads.nodes settings.wait s j.entries replies)
          (subst (λ l. IsMixed None l j.entries) preceded.first (in_order [] preceded)))))
          (λ l is. subst (λ o. l ≤ unwrap_or o latest) (sym none) (on.last l is))
      by (IsDayLane.seals now cs is lane all le) =
          let way : WayOf settings roads s courses round driven (Some now) = subst (WayOf settings roads s courses round driven) is is_driven in
          let own : lane_at driven 0 ≡ way.0 ++ Seal now ∷ cs = way.3.first ∙ ap (λ l. way.0 ++ l) lane in
          let ends : Ends settings roads s j.entries (λ id. to_come now (course_of s.vehicles courses id).stops.items) (Some now) =
          seal_round settings roads s courses now way.0 cs j.entries net on.kept on.each on.closed
          (λ last h. let before = on.last last h in omega (arith, before, le)) way.1 all
          (subst (λ l. IsMixed None l j.entries) own (in_order way.0 way.3)) replies good in
          over_by s courses latest round j.entries (Some now) on.each
          (subst (λ o. Ends settings roads s j.entries (λ id. left_stops o (course_of s.vehicles courses id).stops.items) (Some now)) (sym is) ends)
          (λ l e. subst (λ o. l ≤ unwrap_or o latest) (sym is) (let same : now ≡ l = cc in omega (arith, same)))

  -- rounds of a day that are over, with one more journal after them
  pub record AreOver (s : State) (courses : List Course) (rounds : List NumberedLanes) (js : List Journal) (end : NumberedLanes) (j : Journal) : Type 0 where
    pub latest : ℕ
    pub all : AllKeep settings roads s (entries_in js)
    pub on : IsOnDay (state_after roads.nodes settings.wait s (entries_in js)) (courses_left settings roads courses rounds js) latest
    pub base : j.base ≡ state_after roads.nodes settings.wait s (entries_in js)
    pub run : IsRoundRun settings roads end j

  pub rounds_over : (rounds script : List NumberedLanes) (js : List Journal) (end : NumberedLanes) (j : Journal) (s : State) (position latest : ℕ)
      (courses : List Course) → IsNetwork roads → IsOnDay s courses latest
      → AreDayRounds latest rounds → AreDriven settings roads courses rounds script js → IsRun settings roads s position (script ++ end ∷ []) (js ++ j ∷ []) →
      AreOver s courses rounds js end j
  unfolding state_after
  rounds_over [] [] [] end j s position latest courses net on day driven run = record { latest = latest; all = tt; on = on; base = run.0; run = run.2 }
  rounds_over (r ∷ rounds) (d ∷ script) (k ∷ js) end j s position latest courses net on day driven run =
      let over : IsRoundOver s courses latest r k.entries = round_over s courses latest r d k net on day.0
      (subst (λ t. IsDrivenRound settings roads t courses r d) run.0 driven.0) run.0 run.2 in
      let left : state_after roads.nodes settings.wait k.base k.entries ≡ state_after roads.nodes settings.wait s k.entries =
      ap (λ t. state_after roads.nodes settings.wait t k.entries) run.0 in
      let rest : AreOver (state_after roads.nodes settings.wait s k.entries) (courses_after (state_after roads.nodes settings.wait k.base k.entries) r k.entries
      courses) rounds js end j =
      rounds_over rounds script js end j (state_after roads.nodes settings.wait s k.entries) (next_position position k.entries) (unwrap_or (seal_of r) latest)
      (courses_after (state_after roads.nodes settings.wait k.base k.entries) r k.entries courses) net
      (subst (λ t. IsOnDay (state_after roads.nodes settings.wait s k.entries) (courses_after t r k.entries courses) (unwrap_or (seal_of r) latest)) (sym left)
      over.on) day.1 driven.1 run.3 in
      let same = rounds-join roads.nodes settings.wait s k.entries (entries_in js) in
      record {
        latest = rest.latest;
        all = all_append settings roads k.entries (entries_in js) s over.all rest.all;
        on = subst (λ t. IsOnDay t (courses_left settings roads (courses_after (state_after roads.nodes settings.wait k.base k.entries) r k.entries courses)
            rounds js) rest.latest) (sym same) rest.on;
        base = rest.base ∙ sym same;
        run = rest.run;
      }
  rounds_over rounds script js end j s position latest courses net on day driven run = absurd driven
