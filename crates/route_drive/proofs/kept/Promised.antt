-- A driven day keeps its promises.
use Rattle.std.proofs.Common.{◌≡◌, ℕ, eqb, List, [], ◌∷◌, ◌++◌, map, None, refl, sym, ap, ◌∙◌, subst, All, rules}
use Rattle.route_drive.proofs.Common.{
  length-map,
  Vehicle,
  BookView,
  IsBook,
  opening,
  IsNode,
  RepliesAreSteps,
  state_after,
  Entry,
  Journal,
  State,
  rounds-join,
  Settings,
  Roads,
  IsNetwork,
  IsRound,
  NumberedLanes,
  empty_round,
  IsRun,
  Course,
  DayRound,
  entries_of,
  day_fault,
  HasDrivenToTheEnd,
  IsDrivenDay,
  IsNewBook,
  IsPrecededBy,
  courses_from,
  first_courses,
  number_after,
  at_rest,
  left_commands,
  course_of,
  DaysKeep,
  EntriesKeep,
  IsKept,
  IsServing,
  AllByRecursion,
  lane_at,
  ClosesAreGood,
  HasSeats,
  IsFleet,
  cond_both,
  append-nil,
  map_push,
  flat_map-map,
}
use Rattle.route_drive.proofs.kept.DayRounds.{AreDayRounds, are_day_rounds}
use Rattle.route_drive.proofs.kept.Days.{AreOver, IsOnDay, entries_in, rounds_over}
use Rattle.route_drive.proofs.kept.Keeping.{all_append, entries_keep}
use Rattle.route_drive.proofs.kept.Laws.{opening_is_kept}
use Rattle.route_drive.proofs.kept.Mixed.{IsMixed, IsRequest, mixed}
use Rattle.route_drive.proofs.kept.Rounds.{Ends, last_round}
use Rattle.route_drive.proofs.DriveLemmas.{nothing_at}
use Rattle.route_drive.proofs.EntryLemmas.{entries_of-push}

-- at first nothing is on its way
at_rest_all : (vehicles : List Vehicle) (id : ℕ) → course_of vehicles (map (λ v. at_rest) vehicles) id ≡ at_rest
at_rest_all [] id = refl
at_rest_all (v ∷ vehicles) id = cond_both (eqb v.id id) at_rest (course_of vehicles (map (λ v. at_rest) vehicles) id) (λ c. c ≡ at_rest) (λ e. refl)
    (λ e. at_rest_all vehicles id)

module _ (settings : Settings) (roads : Roads) (net : IsNetwork roads) (vehicles : List Vehicle) (fleet : IsFleet vehicles)
    (named : All (λ v. IsNode roads.nodes v.node) vehicles) where
  first_day : IsOnDay settings roads (opening vehicles) (first_courses settings roads (opening vehicles)) 0
  first_day =
      let kept : IsKept settings roads (opening vehicles) (λ id. []) = opening_is_kept settings roads vehicles fleet named in
      record {
        kept = record {
          state = kept.state;
          each = λ id v found. subst (λ (c : Course). IsServing settings roads [] v v.time c.stops.items) (sym (at_rest_all vehicles id))
              (kept.each id v found);
        };
        each = length-map vehicles (λ v. at_rest);
        closed = refl;
        last = λ last e. absurd cc;
      }

  -- a day to its end
  to_the_end : (rounds : List NumberedLanes) (made : List DayRound) → All IsRound rounds → day_fault rounds ≡ None →
      HasDrivenToTheEnd settings roads (opening vehicles) rounds made → EntriesKeep settings roads (opening vehicles) (entries_of made)
  to_the_end rounds made whole day driven =
      let days : AreDayRounds 0 rounds = are_day_rounds rounds whole day in
      let js : List Journal = map (λ (r : DayRound). r.journal) driven.first in
      let courses : List Course = courses_from settings roads (opening vehicles) rounds driven.first in
      let es : List Entry = driven.last.journal.entries in
      let split : map (λ (r : DayRound). r.journal) made ≡ map (λ (r : DayRound). r.journal) driven.first ++ driven.last.journal ∷ [] =
      ap (map (λ (r : DayRound). r.journal)) driven.parts ∙ map_push (λ (r : DayRound). r.journal) driven.first driven.last in
      let over : AreOver settings roads (opening vehicles) (first_courses settings roads (opening vehicles)) rounds
      (map (λ (r : DayRound). r.journal) driven.first) driven.end driven.last.journal =
      rounds_over settings roads rounds driven.script (map (λ (r : DayRound). r.journal) driven.first) driven.end driven.last.journal (opening vehicles) 0 0
      (first_courses settings roads (opening vehicles)) net first_day days driven.driven
      (subst (IsRun settings roads (opening vehicles) 0 (driven.script ++ driven.end ∷ [])) split driven.run) in
      let t : State = state_after roads.nodes settings.wait (opening vehicles) (entries_in js) in
      let number : ℕ = number_after rounds in
      let preceded : IsPrecededBy (left_commands t.vehicles courses) (empty_round (number_after rounds)) driven.end =
      subst (λ (t : State). IsPrecededBy (left_commands t.vehicles courses) (empty_round (number_after rounds)) driven.end) over.base driven.left in
      let replies : RepliesAreSteps roads.nodes settings.wait t es = subst (λ (t : State). RepliesAreSteps roads.nodes settings.wait t es) over.base
      over.run.replies in
      let own : lane_at driven.end 0 ≡ left_commands t.vehicles courses = preceded.first ∙ ap (λ l. left_commands t.vehicles courses ++ l) (nothing_at number 0)
      ∙ append-nil (left_commands t.vehicles courses) in
      let ends : Ends settings roads t es (λ id. []) t.last_seal =
      last_round settings roads t courses es over.on.kept over.on.each over.on.closed
      (subst (λ cs. IsMixed None cs es) own (mixed roads.nodes settings.wait t (lane_at driven.end) es replies
      (λ lane other. subst (AllByRecursion IsRequest) (sym (preceded.others lane other ∙ nothing_at number lane)) tt) over.run.lanes))
      replies (subst (λ (t : State). ClosesAreGood settings roads t es) over.base over.run.closes) in
      let those : entries_of made ≡ entries_in js ++ es = ap entries_of driven.parts ∙ entries_of-push driven.first driven.last ∙
      ap (λ l. l ++ es) (sym (flat_map-map (λ (j : Journal). j.entries) (λ (r : DayRound). r.journal) driven.first)) in
      let seats : All HasSeats (state_after roads.nodes settings.wait (opening vehicles) (entries_in js ++ es)).vehicles =
      subst (λ (t : State). All HasSeats t.vehicles) (sym (rounds-join roads.nodes settings.wait (opening vehicles) (entries_in js) es))
      ends.kept.state.consistent.seats in
      subst (EntriesKeep settings roads (opening vehicles)) (sym those)
      (entries_keep settings roads (entries_in js ++ es) (opening vehicles) (all_append settings roads (entries_in js) es (opening vehicles) over.all ends.all)
      seats)

  -- a day without a round
  no_round : (made : List DayRound) → made ≡ [] → EntriesKeep settings roads (opening vehicles) (entries_of made)
  unfolding state_after
  no_round made none = search rules

pub days_keep : DaysKeep
days_keep settings roads vehicles [] made net fleet named whole day driven = no_round settings roads net vehicles fleet named made driven
days_keep settings roads vehicles (round ∷ rounds) made net fleet named whole day driven =
    to_the_end settings roads net vehicles fleet named (round ∷ rounds) made whole day driven

-- what is driven from a new book keeps its promises
pub new_book_keeps : (settings : Settings) (roads : Roads) (book : BookView) (rounds : List NumberedLanes) (made : List DayRound) →
    IsNewBook settings roads book → IsBook book → IsNetwork roads → All IsRound rounds
    → day_fault rounds ≡ None → IsDrivenDay settings roads book.state rounds made → EntriesKeep settings roads book.state (entries_of made)
new_book_keeps settings roads book rounds made new is net whole day driven =
    let named : All (λ (v : Vehicle). IsNode roads.nodes v.node) book.state.vehicles = subst
    (λ nodes. All (λ (v : Vehicle). IsNode nodes v.node) book.state.vehicles) new.nodes is.named.vehicles in
    let there : All (λ (v : Vehicle). IsNode roads.nodes v.node) new.vehicles = subst (λ (s : State). All (λ (v : Vehicle). IsNode roads.nodes v.node)
    s.vehicles) new.state named in
    subst (λ (s : State). EntriesKeep settings roads s (entries_of made)) (sym new.state)
    (days_keep settings roads new.vehicles rounds made net new.fleet there whole day (subst (λ (s : State). IsDrivenDay settings roads s rounds made) new.state
    driven))
