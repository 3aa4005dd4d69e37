-- A good outcome's branches tell vehicles by their numbers among the batch's, and its rows are trips.
use Rattle.std.proofs.lemmas.Bool.Decides.{nat_tests}
use Rattle.std.proofs.Common.{
  rules,
  refl,
  Bool,
  not,
  nat_lt,
  Some,
  None,
  ◌≡◌,
  ◌==◌,
  ℕ,
  ◌<◌,
  ◌≤◌,
  ne_eqb,
  eq-eqb,
  List,
  [],
  ◌++◌,
  All,
  length,
  get_or,
  map,
  slice_get,
  unwrap_or,
  option_map,
  sym,
  ap,
  ◌∙◌,
  subst,
  arith,
}
use Rattle.report_audit.proofs.Common.{
  cond_both,
  position,
  position_or_len,
  get_or-map,
  length-map,
  position_or_len_is,
  prefix_len-le-length,
  All-append,
  All-cons,
  All-map,
  All-from_get_or,
  slice_get-get_or,
  slice_get-map,
  Batch,
  IsKept,
  Vehicle,
  AnswersWith,
  HasGraphsWith,
  IsGoodOutcome,
  IsGoodPlan,
  HasTrips,
  number_among,
  Node,
  Answer,
  Outcome,
  Planned,
  TripRowLine,
  Settings,
  Roads,
}
use Rattle.std.proofs.lemmas.List.Kept.{AllPairs-from_increasing}
use Rattle.dispatch_engine.specs.outcome.Told.{rider_id, trip_row_line}
use Rattle.dispatch_engine.specs.lemmas.outcome.Named.{vehicle_id}
use Rattle.plan_rules.specs.Graph.{Graph, IsRowOf, row_vehicle, no_row}
use Rattle.plan_rules.specs.GoodGraph.{IsGoodGraph}
use Rattle.plan_rules.specs.Multipliers.{Usable}
use Rattle.plan_rules.specs.Tree.{SearchTree, IsSoundTree, every_row, only_row, without_row}
use Rattle.plan_rules.specs.lemmas.Tree.{preorder}
use Rattle.plan_rules.proofs.lemmas.SearchTreeLemmas.{nodes_are}
use Rattle.plan_rules.specs.Tree.SearchTree.{Parted, Bounded, Closed}
use Rattle.plan_rules.specs.declared.node.Node.TheVariants.{Branch, Leaf, Dead}
use Rattle.plan_rules.specs.declared.row.TripRow.{TripRow}
use Rattle.pool_base.specs.Times.{travel_time}
use Rattle.dispatch_engine.specs.limits.Settling.{IsSettled}
use Rattle.request_book.specs.declared.values.outcome.Answer.TheVariants.{Overflow, Planned as Plan}
use Rattle.stop_orders.specs.declared.task.settled.Settled.{Settled}
use Rattle.dispatch_engine.specs.declared.outcome.point.Point.TheVariants as point

-- a branch names a row of the vehicle whose number it has in the order of these ids
abbrev pub IsNumbered : List ℕ → List TripRowLine → Node → Type 0
IsNumbered ids rows (Branch vehicle row) = number_among ids (unwrap_or (option_map (λ r. r.vehicle) (slice_get rows row)) 0) ≡ vehicle
IsNumbered ids rows (Leaf multipliers) = Unit {0}
IsNumbered ids rows Dead = Unit {0}

abbrev pub AreNumbered : List ℕ → Answer → Type 0
AreNumbered ids Overflow = Unit {0}
AreNumbered ids (Plan plan) = All (IsNumbered ids plan.rows) plan.tree

-- the first place among others, or their number
pub place_or_len : {X : Type 0} (p : X → Bool) (xs : List X) → unwrap_or (position p xs) (length xs) ≡ position_or_len p xs
place_or_len p xs = cond_both (nat_lt (position_or_len p xs) (length xs)) (Some (position_or_len p xs)) None
    (λ o. unwrap_or o (length xs) ≡ position_or_len p xs) (λ less. refl)
    (λ above. let low = prefix_len-le-length (λ x. not (p x)) xs in grind (arith, nat_tests, above, low))

no_vehicle : Vehicle
no_vehicle = record { id = 0; seats = 0; node = 0; time = 0; aboard = record { items = [] } }

-- the ids of the batch's vehicles
abbrev pub vehicle_ids : Batch → List ℕ
vehicle_ids batch = map (λ v. v.id) batch.vehicles

pub few_ids : (batch : Batch) → IsKept batch → length (vehicle_ids batch) ≤ 4294967295
few_ids batch kept = let n = length-map batch.vehicles (λ (v : Vehicle). v.id) in let m = kept.vehicle_count in omega (arith, n, m)

module _ (settings : Settings) (points : List ℕ) (tau : ℕ → ℕ → ℕ) (batch : Batch) (settled : Settled) (kept : IsKept batch)
    (is : IsSettled settings points tau batch settled) where
  told_id : (v : ℕ) → v < length settled.vehicles → get_or (vehicle_ids batch) v 0 ≡ vehicle_id settled v
  told_id v h =
      let n = is.vehicle_count in
      let low : v < length batch.vehicles = omega (arith, n, h) in
      get_or-map (λ (x : Vehicle). x.id) batch.vehicles v no_vehicle 0 low ∙ sym (is.placed v (get_or batch.vehicles v no_vehicle)
      (slice_get-get_or batch.vehicles v no_vehicle low)).id

  number_of : (v : ℕ) → v < length settled.vehicles → number_among (vehicle_ids batch) (vehicle_id settled v) ≡ v
  number_of v h =
      let ids : List ℕ = vehicle_ids batch in
      let n = is.vehicle_count in
      let m = length-map batch.vehicles (λ (x : Vehicle). x.id) in
      let most = few_ids batch kept in
      let low : v < length ids = omega (arith, n, m, h) in
      let here = told_id v h in
      let first : position_or_len (λ other. other == vehicle_id settled v) ids ≡ v =
      position_or_len_is (λ (other : ℕ). other == vehicle_id settled v) ids v 0 (omega (arith, low))
      (λ k less. let below = AllPairs-from_increasing ids kept.vehicles_rise k v 0 less low in ne_eqb (get_or ids k 0) (vehicle_id settled v)
      (λ e. absurd (omega (arith, e, here, below))))
      (λ within. eq-eqb (get_or ids v 0) (vehicle_id settled v) here) in
      omega (arith, first, low, most)

  module _ (graph : Graph) (good : IsGoodGraph graph) (count : graph.vehicles ≡ length settled.vehicles) (rows : List TripRowLine)
      (told : rows ≡ map (trip_row_line settled) graph.rows) where
    id_at : (k : ℕ) → k < length graph.rows → unwrap_or (option_map (λ (r : TripRowLine). r.vehicle) (slice_get rows k)) 0 ≡ vehicle_id settled
        (row_vehicle graph k)
    id_at k h = search (rules, slice_get-map, slice_get-get_or)

    branch_numbered : (v k : ℕ) → IsRowOf graph v k → IsNumbered (vehicle_ids batch) rows (Branch v k)
    branch_numbered v k row =
        let inside = (good.rows k row.within).vehicle in
        let own = row.own in
        let low : v < length settled.vehicles = omega (arith, inside, own, count) in
        let id = id_at k row.within ∙ ap (λ (w : ℕ). vehicle_id settled w) own in
        ap (λ (i : ℕ). number_among (vehicle_ids batch) i) id ∙ number_of v low

    tree_numbered : (tree : SearchTree) (usable : Usable) → IsSoundTree graph usable tree → All (IsNumbered (vehicle_ids batch) rows) (preorder tree)
    tree_numbered (Parted v k first second) usable sound =
        All-cons (IsNumbered (vehicle_ids batch) rows) (Branch v k) (preorder first ++ preorder second) (branch_numbered v k sound.0.row.row)
        (All-append (IsNumbered (vehicle_ids batch) rows) (preorder first) (preorder second) (tree_numbered first (only_row graph usable v k) sound.1)
        (tree_numbered second (without_row usable k) sound.2))
    tree_numbered (Bounded ms) usable sound = All-cons (IsNumbered (vehicle_ids batch) rows) (Leaf ms) [] tt (λ k d within. absurd (omega arith))
    tree_numbered Closed usable sound = All-cons (IsNumbered (vehicle_ids batch) rows) Dead [] tt (λ k d within. absurd (omega arith))

  plan_numbered : (plan : Planned) → HasGraphsWith settings points tau settled (IsGoodPlan settings plan) →
      All (IsNumbered (vehicle_ids batch) plan.rows) plan.tree
  plan_numbered plan good =
      let tree = (good.holds point.Bound).tree in
      subst (λ (nodes : List Node). All (IsNumbered (vehicle_ids batch) plan.rows) nodes) (sym (nodes_are _ _ _ tree.1))
      (tree_numbered good.graph good.exact.good good.exact.vehicle_total plan.rows (good.holds point.Graphs).3 tree.0 every_row tree.1.sound)

  pub answer_numbered : (answer : Answer) → AnswersWith settings points tau settled (IsGoodPlan settings) answer → AreNumbered (vehicle_ids batch) answer
  answer_numbered Overflow good = tt
  answer_numbered (Plan plan) good = plan_numbered plan good

pub good_trips : (settings : Settings) (points : List ℕ) (tau : ℕ → ℕ → ℕ) (settled : Settled) (answer : Answer) →
    AnswersWith settings points tau settled (IsGoodPlan settings) answer → HasTrips answer
good_trips settings points tau settled Overflow good = tt
good_trips settings points tau settled (Plan plan) good =
    subst (λ (rows : List TripRowLine). All (λ (row : TripRowLine). length row.riders.items ≤ 6) rows) (sym (good.holds point.Graphs).3)
    (All-map (λ (row : TripRowLine). length row.riders.items ≤ 6) (trip_row_line settled) good.graph.rows
    (All-from_get_or (λ (row : TripRow). length (trip_row_line settled row).riders.items ≤ 6) good.graph.rows no_row
    (λ k h. let e = length-map (get_or good.graph.rows k no_row).riders.items (λ (r : ℕ). rider_id settled r) in let n =
    (good.exact.good.rows k h).few in omega (arith, e, n))))

pub outcome_numbered : (settings : Settings) (roads : Roads) (batch : Batch) (outcome : Outcome) → IsKept batch → IsGoodOutcome settings roads batch outcome →
    AreNumbered (vehicle_ids batch) outcome.answer
outcome_numbered settings roads batch outcome kept good = answer_numbered settings good.points (travel_time good.times) batch good.settled kept good.limits
    outcome.answer good.answer

pub outcome_trips : (settings : Settings) (roads : Roads) (batch : Batch) (outcome : Outcome) → IsGoodOutcome settings roads batch outcome →
    HasTrips outcome.answer
outcome_trips settings roads batch outcome good = good_trips settings good.points (travel_time good.times) good.settled outcome.answer good.answer
