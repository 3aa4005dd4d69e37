-- An outcome is judged as itself, and lines that can be told are those of the outcome as which they are judged.
use Rattle.std.proofs.lemmas.Bool.Decides.{nat_tests}
use Rattle.std.proofs.Common.{
  ◌≡◌,
  ℕ,
  ◌≤◌,
  Bool,
  true,
  false,
  cond,
  nat_le,
  IfSome,
  List,
  [],
  ◌∷◌,
  ◌++◌,
  length,
  get_or,
  map,
  option_map,
  Option,
  Some,
  None,
  append_assoc,
  refl,
  sym,
  ap,
  ◌∙◌,
  subst,
  arith,
}
use Rattle.report_audit.proofs.Common.{
  cond-true,
  cond_both,
  length-map,
  All-head,
  All-tail,
  All-map,
  slice_get-map,
  Point,
  Node,
  follow_on,
  last_place,
  row_as_line,
  trip_as_line,
  late_as_line,
  tree_line,
  lines_of,
  BlockLine,
  Expired,
  Overflow,
  Lapsed,
  Late,
  Alone,
  Shared,
  TripRow,
  Trip,
  Out,
  Move,
  Cost,
  Bound,
  Nodes,
  Branch,
  Leaf,
  Dead,
  End,
  LateText,
  TripRowText,
  TripText,
  Answer,
  Outcome,
  Planned,
  TripRowLine,
  at_most,
  row_of,
  trip_of,
  late_of,
  node_of,
  judged_plan,
  judged_outcome,
  NamesRow,
  CanBeTold,
  HasTrips,
  stops_of,
  BlockLists,
  told_by,
}
use Rattle.std.specs.List.{All}
use Rattle.std.proofs.lemmas.Bool.{le-leb, leb-true}
use Rattle.dispatch_report.specs.declared.block_line.BlockLine.TheVariants.{Batch}
use Rattle.request_book.specs.declared.values.outcome.Answer.TheVariants.{Overflow as TooMany, Planned as Plan}
use Rattle.request_book.specs.declared.values.outcome.ChosenTrip.{ChosenTrip}
use Rattle.request_book.specs.declared.values.outcome.LateVehicle.{LateVehicle}
use Rattle.request_book.specs.declared.values.outcome.PlannedStop.{PlannedStop}
use Rattle.report_audit.specs.block.Fits.{HasFewStops}
use Rattle.report_audit.proofs.block.NumberedLemmas.{AreNumbered, IsNumbered}
use Rattle.report_audit.proofs.block.ShapeLemmas.{IsNodeLine, from, is_printed, nest, printed}
use Rattle.report_audit.proofs.block.BlockListsLemmas.{overflow_told, overflow_is_told, plan_is_told}
use Rattle.dispatch_engine.specs.declared.outcome.point.Point.TheVariants as point
use Rattle.plan_rules.specs.declared.node.Node.TheVariants as node

-- what lines tell of the parts of a plan
abbrev row_text : TripRowLine → TripRowText
row_text row = record { vehicle = row.vehicle; cost = row.cost; riders = row.riders.items }

abbrev trip_text : ChosenTrip → TripText
trip_text trip = record { vehicle = trip.vehicle; cost = trip.cost; stops = trip.stops.items }

abbrev late_text : LateVehicle → LateText
late_text late = record { vehicle = late.vehicle; delay = late.delay; stops = option_map (λ s. s.items) late.stops }

abbrev told_of : ℕ → List ℕ → Planned → BlockLists
told_of batch expired plan = record {
  batch = batch;
  expired = expired;
  overflow = false;
  lapsed = plan.lapsed;
  late = map late_text plan.late;
  rv = plan.rv;
  rr = plan.rr;
  rows = map row_text plan.rows;
  chosen = map trip_text plan.chosen;
  left = plan.left;
  moves = plan.moves;
  cost = plan.cost;
  bound = plan.bound;
  nodes = length plan.tree;
  tree = map (tree_line plan.rows) plan.tree;
}

fused : {X Y : Type 0} (K : Y → BlockLine) (g : X → Y) (xs : List X) → map (λ x. K (g x)) xs ≡ map K (map g xs)
fused K g [] = refl
fused K g (x ∷ xs) = ap (λ l. K (g x) ∷ l) (fused K g xs)

abbrev answered_by : List ℕ → Answer → Outcome
answered_by expired answer = record { expired = expired; answer = answer }

-- the lines of an outcome are what is told of it, printed
overflow_lines : (batch : ℕ) (expired : List ℕ) → lines_of true batch (answered_by expired TooMany) ≡ printed true (overflow_told batch expired)
overflow_lines batch expired = append_assoc (Batch batch ∷ map Expired expired) (Overflow ∷ []) (End ∷ [])

plan_lines : (batch : ℕ) (expired : List ℕ) (plan : Planned) → lines_of true batch (answered_by expired (Plan plan)) ≡ printed false
    (told_of batch expired plan)
plan_lines batch expired plan =
    let late = fused Late late_text plan.late in
    let rows = fused TripRow row_text plan.rows in
    let chosen = fused Trip trip_text plan.chosen in
    nest (Batch batch ∷ []) (map Expired expired) (map Lapsed plan.lapsed) (map late_as_line plan.late) (map Alone plan.rv) (map Shared plan.rr)
    (map row_as_line plan.rows)
    (map trip_as_line plan.chosen) (map Out plan.left) (map Move plan.moves) (Cost plan.cost ∷ Bound plan.bound ∷ Nodes (length plan.tree) ∷ [])
    (map (tree_line plan.rows) plan.tree) (End ∷ [])
    ∙ (λ i. Batch batch ∷ (map Expired expired ++ (map Lapsed plan.lapsed ++ (late i ++ (map Alone plan.rv ++ (map Shared plan.rr ++ (rows i ++ (chosen i
    ++ from 6 (told_of batch expired plan)))))))))

-- lists of few items are kept
kept : {X : Type 0} (most : ℕ) (xs : List X) → length xs ≤ most → at_most most xs ≡ xs
kept most xs few = cond-true (nat_le (length xs) most) xs [] (le-leb (length xs) most few)

few : {X : Type 0} (most : ℕ) (xs : List X) → length (at_most most xs) ≤ most
few most xs = cond_both (nat_le (length xs) most) xs [] (λ ys. length ys ≤ most) (λ low. leb-true (length xs) most low) (λ high. omega arith)

back : {X Y : Type 0} (f : X → Y) (g : Y → X) (P : X → Type 0) → ((x : X) → P x → g (f x) ≡ x) → (xs : List X) → All P xs → map g (map f xs) ≡ xs
back f g P same [] all = refl
back f g P same (x ∷ xs) all = ap (λ z. z ∷ map g (map f xs)) (same x (All-head P x xs all)) ∙ ap (λ zs. x ∷ zs) (back f g P same xs (All-tail P x xs all))

-- trees, there and back
tree_back : (ids : List ℕ) (rows : List TripRowText) (tree : List BlockLine) → All IsNodeLine tree → All (NamesRow rows) tree →
    map (tree_line (map row_of rows)) (map (node_of ids) tree) ≡ tree
tree_back ids rows [] drawn named = refl
tree_back ids rows (line ∷ lines) drawn named =
    ap (λ z. z ∷ map (tree_line (map row_of rows)) (map (node_of ids) lines)) (by line (All-head IsNodeLine line lines drawn)
    (All-head (NamesRow rows) line lines named))
    ∙ ap (λ zs. line ∷ zs) (tree_back ids rows lines (All-tail IsNodeLine line lines drawn) (All-tail (NamesRow rows) line lines named))
  where
    by : (line : BlockLine) → IsNodeLine line → NamesRow rows line → tree_line (map row_of rows) (node_of ids line) ≡ line
    by (Branch branch) is names = grind (arith, nat_tests, slice_get-map, names)
    by (Leaf multipliers) is names = refl
    by Dead is names = refl
    by _ is names = absurd is

tree_again : (ids : List ℕ) (rows : List TripRowLine) (tree : List Node) → All (IsNumbered ids rows) tree → map (node_of ids) (map (tree_line rows) tree) ≡ tree
tree_again ids rows tree numbered = back (tree_line rows) (node_of ids) (IsNumbered ids rows) by tree numbered
  where
    by : (n : Node) → IsNumbered ids rows n → node_of ids (tree_line rows n) ≡ n
    by (node.Branch v r) is = ap (λ w. node.Branch w r) is
    by (node.Leaf ms) is = refl
    by node.Dead is = refl

line_drawn : (rows : List TripRowLine) (n : Node) → IsNodeLine (tree_line rows n) × NamesRow (map row_text rows) (tree_line rows n)
line_drawn rows (node.Branch v r) = (tt, grind (arith, nat_tests, slice_get-map))
line_drawn rows n = (tt, tt)

-- lines that can be told are those of the outcome as which they are judged
pub lines_are : (ids : List ℕ) (lines : List BlockLine) → follow_on 0 lines ≡ true → last_place 0 lines ≡ 16 → ((q : Point) → CanBeTold q (told_by lines))
    → lines ≡ lines_of true (told_by lines).batch (judged_outcome ids (told_by lines))
lines_are ids lines f e can = by (is_printed lines f e)
  where
    by : ((overflow : Bool) × (t : BlockLists) × All IsNodeLine t.tree × (lines ≡ printed overflow t)) →
        lines ≡ lines_of true (told_by lines).batch (judged_outcome ids (told_by lines))
    by (true, t, drawn, is) =
        let told : told_by lines ≡ overflow_told t.batch t.expired = ap told_by is ∙ overflow_is_told t in
        is ∙ sym (overflow_lines t.batch t.expired) ∙ ap (λ (u : BlockLists). lines_of true u.batch (judged_outcome ids u)) (sym told)
    by (false, t, drawn, is) =
        let told : told_by lines ≡ record t { overflow = false } = ap told_by is ∙ plan_is_told t drawn in
        let can_so : (q : Point) → CanBeTold q (record t { overflow = false }) = λ q. subst (λ (u : BlockLists). CanBeTold q u) told (can q) in
        let late = back late_of late_text (λ late. IfSome late.stops (λ stops. length stops ≤ 10)) (λ late low. grind (arith, nat_tests, kept)) t.late
        (can_so point.Late) in
        let rows = back row_of row_text (λ row. length row.riders ≤ 6) (λ row low. grind (arith, nat_tests, kept)) t.rows (can_so point.Graphs) in
        let chosen = back trip_of trip_text (λ trip. length trip.stops ≤ 22) (λ trip low. grind (arith, nat_tests, kept)) t.chosen (can_so point.Trips) in
        let nodes : length (map (node_of ids) t.tree) ≡ t.nodes = length-map t.tree (node_of ids) ∙ sym (can_so point.Bound).0 in
        let tree = tree_back ids t.rows t.tree drawn (can_so point.Bound).1 in
        let same : told_of t.batch t.expired (judged_plan ids t) ≡ record t { overflow = false } =
        (λ i. record t { overflow = false; late = late i; rows = rows i; chosen = chosen i; nodes = nodes i; tree = tree i }) in
        is ∙ ap (printed false) (sym same) ∙ sym (plan_lines t.batch t.expired (judged_plan ids t)) ∙
        ap (λ (u : BlockLists). lines_of true u.batch (judged_outcome ids u)) (sym told)

-- no list of the outcome as which lines are judged is longer than there can be
pub judged_few : (ids : List ℕ) (t : BlockLists) → HasFewStops (judged_outcome ids t).answer × HasTrips (judged_outcome ids t).answer
judged_few ids t = by t.overflow
  where
    late_few : (late : LateText) → IfSome (late_of late).stops (λ stops. length stops.items ≤ 10)
    late_few late = at late.stops
      where
        at : (o : Option (List PlannedStop)) → IfSome (option_map (stops_of 10) o) (λ stops. length stops.items ≤ 10)
        at None = tt
        at (Some stops) = few 10 stops

    by : (b : Bool) → HasFewStops (cond b TooMany (Plan (judged_plan ids t))) × HasTrips (cond b TooMany (Plan (judged_plan ids t)))
    by true = (tt, tt)
    by false = (
      (
        All-map (λ late. IfSome late.stops (λ stops. length stops.items ≤ 10)) late_of t.late (λ k d within. late_few (get_or t.late k d)),
        All-map (λ trip. length trip.stops.items ≤ 22) trip_of t.chosen (λ k d within. few 22 (get_or t.chosen k d).stops),
      ),
      All-map (λ row. length row.riders.items ≤ 6) row_of t.rows (λ k d within. few 6 (get_or t.rows k d).riders),
    )

-- an outcome whose lists are no longer than there can be is judged as itself
pub record IsToldAs (ids : List ℕ) (batch : ℕ) (outcome : Outcome) (t : BlockLists) : Type 0 where
  pub number : t.batch ≡ batch
  pub same : judged_outcome ids t ≡ outcome
  pub can : (q : Point) → CanBeTold q t

none_told : (batch : ℕ) (expired : List ℕ) (q : Point) → CanBeTold q (overflow_told batch expired)
none_told batch expired point.Graphs = λ k d within. absurd (omega arith)
none_told batch expired point.Late = λ k d within. absurd (omega arith)
none_told batch expired point.Trips = λ k d within. absurd (omega arith)
none_told batch expired point.Bound = (refl, λ k d within. absurd (omega arith))
none_told batch expired q = tt

module _ (batch : ℕ) (expired : List ℕ) (plan : Planned) (stops : HasFewStops (Plan plan)) (trips : HasTrips (Plan plan)) where
  all_told : (q : Point) → CanBeTold q (told_of batch expired plan)
  all_told point.Graphs = All-map (λ row. length row.riders ≤ 6) row_text plan.rows trips
  all_told point.Late = All-map (λ late. IfSome late.stops (λ stops. length stops ≤ 10)) late_text plan.late
      (λ k d within. let low = stops.0 k d within in grind (arith, nat_tests, low))
  all_told point.Trips = All-map (λ trip. length trip.stops ≤ 22) trip_text plan.chosen stops.1
  all_told point.Bound = (
    sym (length-map plan.tree (tree_line plan.rows)),
    All-map (NamesRow (map row_text plan.rows)) (tree_line plan.rows) plan.tree
        (λ k d within. (line_drawn plan.rows (get_or plan.tree k d)).1),
  )
  all_told q = tt

  plan_again : (ids : List ℕ) → AreNumbered ids (Plan plan) → judged_plan ids (told_of batch expired plan) ≡ plan
  plan_again ids numbered =
      let late = back late_text late_of (λ late. IfSome late.stops (λ stops. length stops.items ≤ 10)) (λ late low. grind (arith, nat_tests, kept)) plan.late
      stops.0 in
      let rows = back row_text row_of (λ row. length row.riders.items ≤ 6) (λ row low. grind (arith, nat_tests, kept)) plan.rows trips in
      let chosen = back trip_text trip_of (λ trip. length trip.stops.items ≤ 22) (λ trip low. grind (arith, nat_tests, kept)) plan.chosen stops.1 in
      let tree = tree_again ids plan.rows plan.tree numbered in
      (λ i. record {
        lapsed = plan.lapsed;
        late = late i;
        rv = plan.rv;
        rr = plan.rr;
        rows = rows i;
        chosen = chosen i;
        left = plan.left;
        moves =
            plan.moves;
        cost = plan.cost;
        bound = plan.bound;
        tree = tree i;
      })

pub outcome_is_told : (ids : List ℕ) (batch : ℕ) (outcome : Outcome) → HasFewStops outcome.answer → HasTrips outcome.answer → AreNumbered ids outcome.answer →
    IsToldAs ids batch outcome (told_by (lines_of true batch outcome))
outcome_is_told ids batch outcome stops trips numbered = by outcome.answer stops trips numbered
  where
    by : (answer : Answer) → HasFewStops answer → HasTrips answer → AreNumbered ids answer →
        IsToldAs ids batch (answered_by outcome.expired answer) (told_by (lines_of true batch (answered_by outcome.expired answer)))
    by TooMany stops trips numbered =
        let t = sym (ap told_by (overflow_lines batch outcome.expired) ∙ overflow_is_told (overflow_told batch outcome.expired)) in
        subst (λ (u : BlockLists). IsToldAs ids batch (answered_by outcome.expired TooMany) u) t
        (record { number = refl; same = refl; can = none_told batch outcome.expired })
    by (Plan plan) stops trips numbered =
        let t = sym (ap told_by (plan_lines batch outcome.expired plan) ∙ plan_is_told (told_of batch outcome.expired plan)
        (All-map IsNodeLine (tree_line plan.rows) plan.tree (λ k d within. (line_drawn plan.rows (get_or plan.tree k d)).0))) in
        let same = ap (λ (x : Planned). answered_by outcome.expired (Plan x)) (plan_again batch outcome.expired plan stops trips ids numbered) in
        subst (λ (u : BlockLists). IsToldAs ids batch (answered_by outcome.expired (Plan plan)) u) t
        (record { number = refl; same = same; can = all_told batch outcome.expired plan stops trips })
