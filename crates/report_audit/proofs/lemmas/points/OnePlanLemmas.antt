-- A good outcome has one plan.
use Rattle.std.proofs.Common.{◌≡◌, ℕ, ◌<◌, Bool, true, false, not, List, [], ◌∷◌, length, filter, Option, Some, None, refl, sym, ap, subst, ◌∙◌, arith}
use Rattle.std.proofs.lemmas.List.{ext_get_or}
use Rattle.std.proofs.lemmas.List.Elements.{All-nil}
use Rattle.std.specs.List.{All, AllZip, range_with_len}
use Rattle.report_audit.proofs.Common.{
  All-cons,
  All-contains,
  AnswersWith,
  AreTrips,
  Batch,
  ChosenTrip,
  Graph,
  HasOwnIds,
  IsBestNear,
  IsGoodOutcome,
  IsGoodPlan,
  IsKept,
  IsOutcomeWith,
  IsPlan,
  IsTripGraphOf,
  IsTripOf,
  Planned,
  Posed,
  Roads,
  Settings,
  Settled,
  choice_at,
  travel_time,
  vehicle_at,
}
use Rattle.dispatch_engine.proofs.lemmas.limits.Promises.{filter_range_has}
use Rattle.dispatch_engine.specs.declared.outcome.point.Point.TheVariants as point
use Rattle.dispatch_engine.specs.outcome.Moves.{AreMoves, idle_vehicles}
use Rattle.dispatch_engine.specs.outcome.Told.{left_riders}
use Rattle.plan_rules.proofs.lemmas.PlanLemmas.{plan_choice}
use Rattle.report_audit.proofs.lemmas.points.IdLemmas.{own_ids}
use Rattle.report_audit.proofs.lemmas.points.TripLemmas.{no_choice, no_row_of_late, one_row, tells_of}
use Rattle.report_audit.specs.points.OnePlan.{HasOnePlan}
use Rattle.request_book.specs.declared.values.outcome.Answer.{Answer}
use Rattle.request_book.specs.declared.values.outcome.Answer.TheVariants as answer
use Rattle.request_book.specs.declared.values.outcome.Outcome.{Outcome}

-- what follows from two relations of lists holds of each item of the first
zip_both : {A B : Type 0} (R S : A → B → Type 0) (Q : A → Type 0) → ((x : A) (y : B) → R x y → S x y → Q x) → (xs : List A) (ys : List B) →
    AllZip R xs ys → AllZip S xs ys → All Q xs
zip_both R S Q by [] [] r s = All-nil Q
zip_both R S Q by [] (y ∷ ys) r s = absurd r
zip_both R S Q by (x ∷ xs) [] r s = absurd r
zip_both R S Q by (x ∷ xs) (y ∷ ys) r s = All-cons Q x xs (by x y r.0 s.0) (zip_both R S Q by xs ys r.1 s.1)

-- trips of a batch's graph are of one plan
module _ (points : List ℕ) (settings : Settings) (tau : ℕ → ℕ → ℕ) (settled : Settled) (graph : Graph) (own : HasOwnIds settled)
    (exact : IsTripGraphOf settings tau settled graph) where
  module _ (chosen other : List (Option ℕ)) (plan : IsPlan graph chosen) (also : IsPlan graph other) where
    abbrev IsSame : ℕ → Type 0
    IsSame v = v < graph.vehicles → choice_at chosen v ≡ choice_at other v

    same_trip : (v : ℕ) (trip : ChosenTrip) → IsTripOf points tau settled graph chosen v trip → IsTripOf points tau settled graph other v trip → IsSame v
    same_trip v trip one two within =
        one.chooses
        ∙ ap Some (one_row points settings tau settled graph own exact v one.row two.row trip (plan_choice graph chosen v one.row plan within one.chooses)
        (plan_choice graph other v two.row also within two.chooses) (tells_of points settings tau settled graph own exact chosen v trip one)
        (tells_of points settings tau settled graph own exact other v trip two))
        ∙ sym two.chooses

    same_choice : (trips : List ChosenTrip) → AreTrips points tau settled graph chosen trips → AreTrips points tau settled graph other trips →
        (v : ℕ) → v < graph.vehicles → (late : Bool) → (vehicle_at settled v).late ≡ late → choice_at chosen v ≡ choice_at other v
    same_choice trips one two v within true is =
        let none = no_row_of_late points settings tau settled graph own exact v (let n = exact.vehicle_total in omega (arith, n, within)) is in
        no_choice points settings tau settled graph own exact v none (choice_at chosen v) (plan.own v within)
        ∙ sym (no_choice points settings tau settled graph own exact v none (choice_at other v) (also.own v within))
    same_choice trips one two v within false is =
        let timely : List ℕ = filter (λ w. not (vehicle_at settled w).late) (range_with_len 0 (length settled.vehicles)) in
        All-contains IsSame timely v
        (zip_both (IsTripOf points tau settled graph chosen) (IsTripOf points tau settled graph other) IsSame same_trip timely trips one two)
        (filter_range_has (λ w. not (vehicle_at settled w).late) (length settled.vehicles) v (let n = exact.vehicle_total in omega (arith, n, within))
        (ap not is)) within

    one_chosen : (trips : List ChosenTrip) → AreTrips points tau settled graph chosen trips → AreTrips points tau settled graph other trips →
        chosen ≡ other
    one_chosen trips one two = ext_get_or None chosen other (plan.sized ∙ sym also.sized)
        (λ v within. same_choice trips one two v (let n = plan.sized in omega (arith, n, within)) (vehicle_at settled v).late refl)

module _ (settings : Settings) (planned : Planned) (p : Posed) (own : HasOwnIds p.settled) (exact : IsTripGraphOf settings p.tau p.settled p.graph) where
  one_plan : IsGoodPlan settings planned p → HasOnePlan planned p
  one_plan good =
      let told = good point.Plan in let best = good point.Best in let moves = good point.Moves in
      let only : (other : List (Option ℕ)) → IsPlan p.graph other → AreTrips p.points p.tau p.settled p.graph other planned.chosen → other ≡ told.chosen =
      λ other plan given. one_chosen p.points settings p.tau p.settled p.graph own exact other told.chosen plan told.plan planned.chosen given told.trips in
      record {
        chosen = told.chosen;
        lawful = told.holds.0;
        trips = told.trips;
        only = only;
        cost = told.holds.1;
        left = told.holds.2;
        best = subst (IsBestNear p.graph) (only best.chosen best.plan best.trips) best.holds;
        moves = subst (λ (c : List (Option ℕ)). AreMoves p.tau p.settled (idle_vehicles p.settled p.graph c) (left_riders p.graph c) planned.moves)
            (only moves.chosen moves.plan moves.trips) moves.holds;
      }

one_answer : (settings : Settings) (points : List ℕ) (tau : ℕ → ℕ → ℕ) (settled : Settled) → HasOwnIds settled → (a : Answer) →
    AnswersWith settings points tau settled (IsGoodPlan settings) a → AnswersWith settings points tau settled HasOnePlan a
one_answer settings points tau settled own answer.Overflow more = more
one_answer settings points tau settled own (answer.Planned planned) good = record {
  graph = good.graph;
  edges = good.edges;
  pairs = good.pairs;
  exact = good.exact;
  edges_exact = good.edges_exact;
  pairs_exact = good.pairs_exact;
  holds = one_plan settings planned
      (record { points = points; tau = tau; settled = settled; graph = good.graph; edges = good.edges; pairs = good.pairs }) own good.exact good.holds;
}

pub one_plan_of_good : (settings : Settings) (roads : Roads) (batch : Batch) (outcome : Outcome) → IsKept batch → IsGoodOutcome settings roads batch outcome →
    IsOutcomeWith settings roads batch HasOnePlan outcome
one_plan_of_good settings roads batch outcome kept good = record {
  points = good.points;
  times = good.times;
  settled = good.settled;
  nodes = good.nodes;
  table = good.table;
  limits = good.limits;
  expired = good.expired;
  answer = one_answer settings good.points (travel_time good.times) good.settled
      (own_ids settings good.points (travel_time good.times) batch good.settled kept good.limits) outcome.answer good.answer;
}
