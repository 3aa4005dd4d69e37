-- A day under way, round by round.
use Rattle.std.proofs.Common.{
  ◌≡◌,
  ◌≢◌,
  ℕ,
  zero,
  suc,
  ◌+◌,
  ◌-◌,
  ◌<◌,
  List,
  [],
  ◌∷◌,
  ◌++◌,
  length,
  get_or,
  map,
  take,
  drop,
  Some,
  refl,
  sym,
  ap,
  ◌∙◌,
  subst,
  arith,
  append-nil,
  All,
  rules,
}
use Rattle.route_drive.proofs.Common.{
  length-map,
  BookView,
  IsBook,
  next_position,
  state_after,
  Command,
  Entry,
  Journal,
  State,
  Settings,
  Roads,
  NumberedLanes,
  empty_round,
  lane_at,
  IsReady,
  IsRoundRun,
  IsRun,
  IsSameRun,
  journal_of,
  position_after_run,
  state_after_run,
  Course,
  DayRound,
  DayCounts,
  DriveFault,
  AreDriven,
  ComesTooLate,
  HasDrivenToTheEnd,
  IsDrivenRound,
  IsLateAnswer,
  IsTooLateDay,
  IsNewBook,
  courses_after,
  courses_from,
  courses_left,
  first_courses,
  number_after,
  AreCounts,
  entries_of,
  seal_of,
  EntersTooLate,
  IsInTime,
  left_commands,
  AddsServed,
  AreServed,
  HasCome,
  HasEnded,
  IsCounted,
  IsLastOn,
  IsLateAt,
  IsRoundOn,
  IsStoppedAt,
  IsTaken,
  IsUnderWay,
  Takes,
  second_of,
  longest,
  map_push,
  Any,
}
use Rattle.dispatch_engine.proofs.lemmas.lanes.RunLemmas.{position-more, run-more, state-more}
use Rattle.route_drive.proofs.LeaveLemmas.{count_stays}
use Rattle.route_drive.proofs.EntryLemmas.{served_more}
use Rattle.route_drive.specs.declared.drive.Drive.{Drive}
use Rattle.route_drive.specs.declared.entering.Stopped.{Stopped}
use Rattle.route_drive.specs.declared.day_run.DriveFault.TheVariants as fault
use Rattle.route_drive.specs.declared.entering.Stopped.TheVariants as stop

-- as many courses as vehicles
pub courses_each : (s : State) (round : NumberedLanes) (es : List Entry) (courses : List Course) → length courses ≡ length s.vehicles →
    length (courses_after s round es courses) ≡ length s.vehicles
courses_each s round es courses same = search (rules, length-map)

-- an empty round has no command
pub nothing_at : (number lane : ℕ) → lane_at (empty_round number) lane ≡ []
nothing_at number lane = search rules

-- the number above the last round's
pub number_after_is : (rounds : List NumberedLanes) (r : NumberedLanes) → 0 < length rounds → r ≡ get_or rounds (length rounds - 1) r →
    r.number + 1 ≡ number_after rounds
number_after_is [] r h is = absurd (omega arith)
number_after_is (x ∷ []) r h is = ap (λ (n : NumberedLanes). n.number + 1) is
number_after_is (x ∷ y ∷ rounds) r h is =
    let e : length (x ∷ y ∷ rounds) - 1 ≡ suc (length (y ∷ rounds) - 1) = omega arith in
    number_after_is (y ∷ rounds) r (omega arith) (is ∙ ap (λ (k : ℕ). get_or (x ∷ y ∷ rounds) k r) e)

module _ (settings : Settings) (roads : Roads) where
  driven-more : (courses : List Course) (rs ds : List NumberedLanes) (js : List Journal) (r d : NumberedLanes) (j : Journal)
      → AreDriven settings roads courses rs ds js → IsDrivenRound settings roads j.base (courses_left settings roads courses rs js) r d
      → AreDriven settings roads courses (rs ++ r ∷ []) (ds ++ d ∷ []) (js ++ j ∷ [])
  driven-more courses [] [] [] r d j driven is = (is, tt)
  driven-more courses (q ∷ rs) (e ∷ ds) (k ∷ js) r d j driven is = (
    driven.0,
    driven-more
        (courses_after (state_after roads.nodes settings.wait k.base k.entries) q k.entries courses) rs ds js r d j driven.1 is,
  )
  driven-more courses rs ds js r d j driven is = absurd driven

  courses-more : (courses : List Course) (rs ds : List NumberedLanes) (js : List Journal) (r : NumberedLanes) (j : Journal)
      → AreDriven settings roads courses rs ds js
      → courses_left settings roads courses (rs ++ r ∷ []) (js ++ j ∷ []) ≡ courses_after (state_after roads.nodes settings.wait j.base j.entries) r j.entries
      (courses_left settings roads courses rs js)
  courses-more courses [] [] [] r j driven = refl
  courses-more courses (q ∷ rs) (e ∷ ds) (k ∷ js) r j driven = courses-more (courses_after (state_after roads.nodes settings.wait k.base k.entries) q k.entries
      courses) rs ds js r j driven.1
  courses-more courses rs ds js r j driven = absurd driven

  -- a day begins
  pub come_none : (Took : List DayRound → Type 0) (new : BookView) (drive : Drive) → Took [] → IsNewBook settings roads new → drive.book ≡ new
      → drive.courses.items ≡ first_courses settings roads new.state → AreServed [] drive.served → HasCome Took settings roads new.state [] drive
  come_none Took new drive took is same are nobody = search (rules, length-map)

  -- one more round is driven
  module _ (s : State) (rounds : List NumberedLanes) (drive : Drive) (made : List DayRound)
      (way : IsUnderWay settings roads s rounds drive.book drive.courses.items made) where
    abbrev js : List Journal
    js = map (λ (r : DayRound). r.journal) made

    -- the journals, the numbers and the run with one that is made
    made_more : (number : ℕ) (j : Journal) → map (λ (r : DayRound). r.journal) (made ++ (record { number = number; journal = j }) ∷ []) ≡ js ++ j ∷ []
    made_more number j = map_push (λ (r : DayRound). r.journal) made (record { number = number; journal = j })

    numbers_more : (number : ℕ) (j : Journal) → map (λ (r : DayRound). r.number) (made ++ (record { number = number; journal = j }) ∷ []) ≡ map
        (λ (r : NumberedLanes). r.number) rounds ++ number ∷ []
    numbers_more number j = map_push (λ (r : DayRound). r.number) made (record { number = number; journal = j }) ∙
        ap (λ (l : List ℕ). l ++ number ∷ []) way.numbers

    run_on : (driven : NumberedLanes) (j : Journal) → IsRoundRun settings roads driven j → j.base ≡ drive.book.base → j.first ≡ drive.book.first →
        IsRun settings roads s 0 (way.script ++ driven ∷ []) (js ++ j ∷ [])
    run_on driven j run base first = run-more settings roads s 0 way.script js driven j way.run (base ∙ way.base ∙ way.state) (first ∙ way.first) run

    way_more : (round : NumberedLanes) (Before After : List DayRound → Type 0) (drive' : Drive) (on : IsRoundOn settings roads round drive Before After drive')
        → IsUnderWay settings roads s (rounds ++ round ∷ []) drive'.book drive'.courses.items
        (made ++ (record { number = round.number; journal = on.journal }) ∷ [])
    way_more round Before After drive' on =
        let j : Journal = on.journal in
        let taken = on.taken in
        let more = made_more round.number j in
        let from : on.journal.base ≡ drive.book.state = taken.base ∙ way.base in
        let is : IsDrivenRound settings roads j.base (courses_from settings roads s rounds made) round on.driven =
        subst (λ (t : State). IsDrivenRound settings roads t (courses_from settings roads s rounds made) round on.driven) (sym from)
        (subst (λ (cs : List Course). IsDrivenRound settings roads drive.book.state cs round on.driven) way.courses_are on.is_driven) in
        let left : drive'.book.state ≡ state_after roads.nodes settings.wait j.base j.entries = taken.state ∙
        ap (λ (t : State). state_after roads.nodes settings.wait t j.entries) (sym taken.base) in
        let count : length drive'.book.state.vehicles ≡ length drive.book.state.vehicles =
        ap (λ (t : State). length t.vehicles) taken.state ∙ count_stays roads.nodes settings.wait drive.book.base j.entries ∙
        ap (λ (t : State). length t.vehicles) way.base in
        record {
          script = way.script ++ on.driven ∷ [];
          driven = rw more (driven-more (first_courses settings roads s) rounds way.script js round on.driven j way.driven is);
          numbers = numbers_more round.number j ∙ sym (map_push (λ (r : NumberedLanes). r.number) rounds round);
          run = rw more (run_on on.driven j taken.run taken.base taken.first);
          ready = taken.ready;
          entries = taken.entries;
          base = taken.base_is;
          state = taken.state ∙ ap (λ (t : State). state_after roads.nodes settings.wait t j.entries) (way.base ∙ way.state) ∙
              sym (state-more settings roads s js j) ∙ sym (ap (state_after_run settings roads s) more);
          first = taken.next ∙ ap (λ (p : ℕ). next_position p j.entries) way.first ∙ sym (position-more 0 js j) ∙ sym (ap (position_after_run 0) more);
          courses_are = on.courses_are ∙ ap (λ (t : State). courses_after t round j.entries drive.courses.items) left ∙
              ap (courses_after (state_after roads.nodes settings.wait j.base j.entries) round j.entries) way.courses_are
              ∙ sym (courses-more (first_courses settings roads s) rounds way.script js round j way.driven) ∙
              sym (ap (courses_left settings roads (first_courses settings roads s) (rounds ++ round ∷ [])) more);
          each = ap length on.courses_are ∙ courses_each drive'.book.state round j.entries drive.courses.items (way.each ∙ sym count);
        }

    -- the last round is driven
    day_done : (Before After : List DayRound → Type 0) (drive' : Drive) (on : IsLastOn settings roads (number_after rounds) drive Before After drive')
        → HasDrivenToTheEnd settings roads s rounds (made ++ (record { number = number_after rounds; journal = on.journal }) ∷ [])
    day_done Before After drive' on =
        let j : Journal = on.journal in
        let number = number_after rounds in
        let end : NumberedLanes = record on.driven { number = number } in
        let run : IsRoundRun settings roads end j = record { replies = on.taken.run.replies; closes = on.taken.run.closes; lanes = on.taken.run.lanes } in
        let from : drive.book.state ≡ on.journal.base = sym way.base ∙ sym on.taken.base in
        let left : left_commands drive.book.state.vehicles drive.courses.items ≡ left_commands j.base.vehicles (courses_from settings roads s rounds made) =
        ap (λ (t : State). left_commands t.vehicles drive.courses.items) from ∙ ap (left_commands j.base.vehicles) way.courses_are in
        record {
          first = made;
          last = record { number = number; journal = j };
          parts = refl;
          script = way.script;
          end = end;
          driven = way.driven;
          left = record {
            number = refl;
            first = on.own ∙ left ∙ sym (ap (λ (l : List Command). left_commands j.base.vehicles (courses_from settings roads s rounds made) ++ l)
                (nothing_at number 0) ∙ append-nil _);
            others = λ lane ne. on.others lane ne ∙ sym (nothing_at number lane);
          };
          in_time = subst (All IsInTime) left on.in_time;
          numbers = numbers_more number j;
          run = rw (made_more number j) (run_on end j run on.taken.base on.taken.first);
        }

    -- the book is left in the state that the journals lead to
    state_done : (Before After : List DayRound → Type 0) (drive' : Drive) (on : IsLastOn settings roads (number_after rounds) drive Before After drive')
        → drive'.book.state ≡ state_after_run settings roads s (map (λ (r : DayRound). r.journal)
        (made ++ (record { number = number_after rounds; journal = on.journal }) ∷ []))
    state_done Before After drive' on =
        on.taken.state ∙ ap (λ (t : State). state_after roads.nodes settings.wait t on.journal.entries) (way.base ∙ way.state) ∙
        sym (state-more settings roads s js on.journal)
        ∙ sym (ap (state_after_run settings roads s) (made_more (number_after rounds) on.journal))

    -- the next round is too late, or the last one
    late_at : (all rest : List NumberedLanes) (n : ℕ) → all ≡ rounds ++ rest → ComesTooLate settings roads drive.book.state.vehicles drive.courses.items rest n
        → (rest ≡ [] → n ≡ number_after all) → IsTooLateDay settings roads s all n made
    late_at all rest n parts late end = search rules

  module _ (s : State) (rounds : List NumberedLanes) (Before After : List DayRound → Type 0) (drive : Drive)
      (come : HasCome Before settings roads s rounds drive) where
    pub come_more : (round : NumberedLanes) (drive' : Drive) → IsRoundOn settings roads round drive Before After drive' →
        HasCome After settings roads s (rounds ++ round ∷ []) drive'
    come_more round drive' on =
        let r : DayRound = record { number = round.number; journal = on.journal } in
        record {
          made = come.made ++ r ∷ [];
          taken = on.kept come.made come.taken;
          served = served_more come.made r drive.served drive'.served come.served on.served;
          way = way_more s rounds drive come.made come.way round Before After drive' on;
        }

    pub end_late : (answer : DriveFault) → IsLateAt (number_after rounds) (Any (λ (c : Command). longest < second_of c)
        (left_commands drive.book.state.vehicles drive.courses.items)) Before After answer → IsLateAnswer settings roads After s rounds answer
    end_late (fault.TooLate n) late = (
      come.made,
      late.1 come.made come.taken,
      late_at s rounds drive come.made come.way rounds [] n (sym (append-nil rounds))
          late.2 (λ _. late.0),
    )
    end_late fault.OutOfMemory late = tt

    pub round_late : (all rest : List NumberedLanes) (round : NumberedLanes) (answer : DriveFault) → all ≡ rounds ++ round ∷ rest →
        IsLateAt round.number ((now : ℕ) × (seal_of round ≡ Some now) × EntersTooLate roads settings.dwell now drive.book.state.vehicles drive.courses.items)
        Before After answer → IsLateAnswer settings roads After s all answer
    round_late all rest round (fault.TooLate n) parts late = (
      come.made,
      late.1 come.made come.taken,
      late_at s rounds drive come.made come.way all
          (round ∷ rest) n parts (sym late.0, late.2) (λ none. absurd (let e : suc (length rest) ≡ 0 = ap length none in omega (arith, e))),
    )
    round_late all rest round fault.OutOfMemory parts late = tt

-- a list at the round of a number
pub rounds_at : (rounds : List NumberedLanes) (i : ℕ) (r : NumberedLanes) → i < length rounds → r ≡ get_or rounds i r →
    rounds ≡ take i rounds ++ r ∷ drop (suc i) rounds
rounds_at [] i r h is = absurd (omega arith)
rounds_at (x ∷ rounds) zero r h is = ap (λ y. y ∷ rounds) (sym is)
rounds_at (x ∷ rounds) (suc i) r h is = ap (λ l. x ∷ l) (rounds_at rounds i r (omega arith) is)

-- a day without rounds makes none
no_map : (made : List DayRound) → map (λ (r : DayRound). r.number) made ≡ [] → made ≡ []
no_map [] none = refl
no_map (r ∷ made) none = absurd (let e : suc (length (map (λ (r : DayRound). r.number) made)) ≡ 0 = ap length none in omega (arith, e))

-- a day came to its end, and its counts are taken
pub day_ends : (settings : Settings) (roads : Roads) (s : State) (rounds : List NumberedLanes) (Before After : List DayRound → Type 0) (drive end : Drive)
    (run : DayCounts)
    → HasCome Before settings roads s rounds drive → HasEnded settings roads rounds drive Before After end
    → ((entries : List Entry) → AreServed entries end.served → AreCounts roads end.book.state.riders entries run)
    → IsCounted After settings roads s rounds run
day_ends settings roads s [] Before After drive end run come ended counts = search (rules, no_map)
day_ends settings roads s (q ∷ rounds) Before After drive end run come on counts =
    let r : DayRound = record { number = number_after (q ∷ rounds); journal = on.journal } in
    let made : List DayRound = come.made ++ r ∷ [] in record {
      made = made;
      taken = on.kept come.made come.taken;
      driven = day_done settings roads s (q ∷ rounds) drive come.made come.way Before After end on;
      counts = subst (λ (t : State). AreCounts roads t.riders (entries_of made) run) (state_done settings roads s (q ∷ rounds) drive come.made come.way Before
          After end on)
          (counts (entries_of made) (served_more come.made r drive.served end.served come.served on.served));
    }

-- a day that isn't empty ends with its last round
pub end_of : (settings : Settings) (roads : Roads) (rounds : List NumberedLanes) (number : ℕ) (drive end : Drive) (Before After : List DayRound → Type 0)
    → 0 < length rounds → number ≡ number_after rounds → IsLastOn settings roads number drive Before After end →
    HasEnded settings roads rounds drive Before After end
end_of settings roads [] number drive end Before After some is on = absurd (omega arith)
end_of settings roads (r ∷ rounds) number drive end Before After some is on = subst (λ (n : ℕ). IsLastOn settings roads n drive Before After end) is on

-- a round was run, and its journal taken
pub taken_is : (settings : Settings) (roads : Roads) (driven : NumberedLanes) (book after next : BookView) (journal : Journal) →
    IsRoundRun settings roads driven (journal_of after) → IsSameRun book after → IsBook after → IsReady settings roads after
    → journal ≡ record { first = after.first; base = after.base; entries = after.entries }
    → next ≡ record {
      nodes = after.nodes;
      wait = after.wait;
      first = next_position after.first after.entries;
      base = after.state;
      entries = [];
      state =
          after.state;
      spare = 0;
    }
    → IsTaken settings roads driven book next journal
taken_is settings roads driven book after next journal run same kept ready is next_is = search rules

-- a round as it is driven, by another number
renumbered : (settings : Settings) (roads : Roads) (driven : NumberedLanes) (number : ℕ) (book next : BookView) (journal : Journal) →
    IsTaken settings roads driven book next journal
    → IsTaken settings roads (record driven { number = number }) book next journal
renumbered settings roads driven number book next journal taken = assumption

pub round_on : (settings : Settings) (roads : Roads) (round driven : NumberedLanes) (drive drive' : Drive) (next : BookView) (journal : Journal)
    (Before After : List DayRound → Type 0)
    → IsDrivenRound settings roads drive.book.state drive.courses.items round (record driven { number = round.number })
    → IsTaken settings roads driven drive.book next journal → drive'.book ≡ next → drive'.courses.items ≡ courses_after next.state round journal.entries
    drive.courses.items
    → AddsServed journal.entries drive.served drive'.served → Takes Before After (record { number = round.number; journal = journal })
    → IsRoundOn settings roads round drive Before After drive'
round_on settings roads round driven drive drive' next journal Before After is taken same are adds takes = search rules

-- why a round stopped
pub stopped_late : (number : ℕ) (Late : Type 0) (Before : List DayRound → Type 0) (stopped : Stopped) (answer : DriveFault) →
    IsStoppedAt stopped number answer → (stopped ≡ stop.TooLate → Late) → IsLateAt number Late Before Before answer
stopped_late number Late Before stop.TooLate answer is late = subst (IsLateAt number Late Before Before) (sym is) (refl, (λ made is. is), late refl)
stopped_late number Late Before stop.OutOfMemory answer is late = subst (IsLateAt number Late Before Before) (sym is) tt

-- the last round was run and taken
pub last_on : (settings : Settings) (roads : Roads) (driven : NumberedLanes) (number : ℕ) (drive drive' : Drive) (next : BookView) (journal : Journal)
    (Before After : List DayRound → Type 0)
    → lane_at driven 0 ≡ left_commands drive.book.state.vehicles drive.courses.items → ((lane : ℕ) → lane ≢ 0 → lane_at driven lane ≡ []) →
    All IsInTime (left_commands drive.book.state.vehicles drive.courses.items)
    → IsTaken settings roads driven drive.book next journal → drive'.book ≡ next → AddsServed journal.entries drive.served drive'.served →
    Takes Before After (record { number = number; journal = journal })
    → IsLastOn settings roads number drive Before After drive'
last_on settings roads driven number drive drive' next journal Before After own others in_time taken same adds takes = search rules
