-- A batch has one trip graph, or more rows than are allowed, and never both.
use Rattle.std.proofs.Common.{
  ◌≡◌,
  ℕ,
  suc,
  ◌<◌,
  ◌≤◌,
  inl,
  inr,
  Bool,
  true,
  false,
  MatchBool,
  List,
  length,
  get_or,
  Contains,
  Option,
  Some,
  None,
  sym,
  ap,
  ◌∙◌,
  subst,
  add-one,
  arith,
}
use Rattle.std.specs.Cmp.{IsTotalOrder}
use Rattle.std.specs.declared.cmp.Ordering.TheVariants.{Less, Equal}
use Rattle.std.proofs.lemmas.Bool.{cases_order}
use Rattle.std.proofs.lemmas.Cmp.{nat_cmp_total, nat_list_cmp_total, on_total, then_total, tied_itself}
use Rattle.std.proofs.lemmas.List.{get_or_default, ext_get_or}
use Rattle.std.proofs.lemmas.List.Elements.{All-contains}
use Rattle.stop_orders.specs.declared.task.settled.Settled.{Settled}
use Rattle.stop_orders.specs.declared.task.task.Task.{Task}
use Rattle.stop_orders.specs.task.Settled.{IsRow, vehicle_at, trip_task}
use Rattle.stop_orders.specs.task.Task.{IsLeastDelay}
use Rattle.plan_rules.specs.declared.row.TripRow.{TripRow}
use Rattle.plan_rules.specs.Graph.{Graph, no_row, choice_at, row_cmp}
use Rattle.rider_limits.specs.declared.settings.Settings.{Settings}
use Rattle.trip_graph.specs.batch.Answer.{IsRowWith, IsTripGraphOf, HasMoreRows}
use Rattle.trip_graph.specs.lemmas.batch.Rows.{HoldRows, AreRowsOf}
use Rattle.report_audit.proofs.lemmas.points.SortedLemmas.{IsStrict, AreInOrder, in_order, same_members, no_longer}

abbrev pub RowBefore : TripRow → TripRow → Type 0
RowBefore a b = row_cmp a b ≡ Less

row_total : IsTotalOrder row_cmp
row_total =
    then_total (on_total (λ (r : TripRow). r.vehicle) nat_cmp_total)
    (then_total (on_total (λ (r : TripRow). length r.riders.items) nat_cmp_total) (on_total (λ (r : TripRow). r.riders.items) nat_list_cmp_total))

pub rows_strict : IsStrict RowBefore
rows_strict = record {
  irreflexive = λ r h. let tied = tied_itself row_total r in let no : Less ≡ Equal = sym h ∙ tied in cc;
  transitive = row_total.trans;
}

pub rows_in_order : (rows : List TripRow) → ((k : ℕ) → suc k < length rows → row_cmp (get_or rows k no_row) (get_or rows (suc k) no_row) ≡ Less) →
    AreInOrder RowBefore rows_strict no_row rows
rows_in_order rows up = in_order RowBefore rows_strict no_row rows (λ k within. rw add-one (up k (omega arith)))

-- rows that stand for the same vehicle and riders aren't one before the other
not_before : (a b : TripRow) → a.vehicle ≡ b.vehicle → a.riders.items ≡ b.riders.items → RowBefore a b → ⊥
not_before a b v r h = rows_strict.irreflexive a (rw (← v, ← r) at h)

-- a vehicle's row of these riders stands at one place
pub one_place : (rows : List TripRow) → AreInOrder RowBefore rows_strict no_row rows → (v : ℕ) (trip : List ℕ) (j k : ℕ) → IsRowWith rows v trip j →
    IsRowWith rows v trip k → j ≡ k
one_place rows up v trip j k a b = elim (cases_order j k) as (λ _. j ≡ k) [
  | inl same ↦ same
  | inr apart ↦ absurd (elim apart as (λ _. ⊥) [
    | inl less ↦ not_before (get_or rows j no_row) (get_or rows k no_row) (a.own ∙ sym b.own) (a.trip ∙ sym b.trip) (up j k less b.within)
    | inr less ↦ not_before (get_or rows k no_row) (get_or rows j no_row) (b.own ∙ sym a.own) (b.trip ∙ sym a.trip) (up k j less a.within)
  ])
]

pub one_least : (tau : ℕ → ℕ → ℕ) (task : Task) (a b : ℕ) → IsLeastDelay tau task a → IsLeastDelay tau task b → a ≡ b
one_least tau task a b least other = omega (arith, least.least other.stops other.serves, other.least least.stops least.serves)

module _ (tau : ℕ → ℕ → ℕ) (settled : Settled) (most : ℕ) where
  -- whatever is a row stands among them
  pub row_in : (rows : List TripRow) → AreRowsOf most tau settled rows → (row : TripRow) → IsRow most tau settled row.vehicle row.riders.items row.cost →
      Contains rows row
  row_in rows are row is =
      let found = are.whole row.vehicle row.riders.items is.served in
      let k = found.0 in let at : IsRowWith rows row.vehicle row.riders.items k = found.1 in
      let there : TripRow = get_or rows k no_row in
      let least : IsLeastDelay tau (trip_task settled row.vehicle row.riders.items) there.cost = rw (at.own, at.trip) at (are.right k no_row at.within).least in
      let cost : there.cost ≡ row.cost = one_least tau (trip_task settled row.vehicle row.riders.items) there.cost row.cost least is.least in
      let same : there ≡ row = λ i. record { vehicle = at.own i; riders = record { items = at.trip i }; cost = cost i } in
      (k, at.within, get_or_default rows k row no_row at.within ∙ same)

  row_also : (rows others : List TripRow) → AreRowsOf most tau settled rows → AreRowsOf most tau settled others → (row : TripRow) → Contains rows row →
      Contains others row
  row_also rows others are also row found = row_in others also row (All-contains (λ (r : TripRow). IsRow most tau settled r.vehicle r.riders.items r.cost) rows
      row are.right found)

  pub one_list_of_rows : (rows others : List TripRow) → AreInOrder RowBefore rows_strict no_row rows → AreInOrder RowBefore rows_strict no_row others →
      AreRowsOf most tau settled rows → AreRowsOf most tau settled others → rows ≡ others
  one_list_of_rows rows others up vp are also = same_members RowBefore rows_strict no_row rows others up vp (row_also rows others are also)
      (row_also others rows also are)

  pub no_more_rows : (rows : List TripRow) (allowed : ℕ) → AreInOrder RowBefore rows_strict no_row rows → AreRowsOf most tau settled rows →
      length rows ≤ allowed → HasMoreRows tau settled most allowed → ⊥
  no_more_rows rows allowed up are few more =
      omega (
        arith,
        more.more,
        no_longer RowBefore rows_strict no_row more.rows rows (rows_in_order more.rows more.order) up
            (λ row found. row_in rows are row (All-contains (λ (r : TripRow). IsRow most tau settled r.vehicle r.riders.items r.cost) more.rows row more.right
            found)),
      )

one_choice : (settled : Settled) (rows : List TripRow) → AreInOrder RowBefore rows_strict no_row rows → (held other : List (Option ℕ)) (v : ℕ) (late : Bool)
    → MatchBool late (choice_at held v ≡ None) ((k : ℕ) × (choice_at held v ≡ Some k) × IsRowWith rows v (vehicle_at settled v).held.items k)
    → MatchBool late (choice_at other v ≡ None) ((k : ℕ) × (choice_at other v ≡ Some k) × IsRowWith rows v (vehicle_at settled v).held.items k)
    → choice_at held v ≡ choice_at other v
one_choice settled rows up held other v true a b = a ∙ sym b
one_choice settled rows up held other v false a b =
    let same : a.0 ≡ b.0 = one_place rows up v (vehicle_at settled v).held.items a.0 b.0 a.2 b.2 in
    a.1 ∙ ap (λ (k : ℕ). Some k) same ∙ sym b.1

pub one_held : (settled : Settled) (vehicles : ℕ) (rows : List TripRow) → AreInOrder RowBefore rows_strict no_row rows → (held other : List (Option ℕ)) →
    HoldRows settled vehicles rows held → HoldRows settled vehicles rows other → held ≡ other
one_held settled vehicles rows up held other a b =
    ext_get_or None held other (a.count ∙ sym b.count)
    (λ v within. one_choice settled rows up held other v (vehicle_at settled v).late (a.each v (omega arith)) (b.each v (omega arith)))

module _ (settings : Settings) (tau : ℕ → ℕ → ℕ) (settled : Settled) where
  pub graph_in_order : (g : Graph) → IsTripGraphOf settings tau settled g → AreInOrder RowBefore rows_strict no_row g.rows
  graph_in_order g are = rows_in_order g.rows are.good.order

  rows_of : (g : Graph) → IsTripGraphOf settings tau settled g → AreRowsOf settings.trip tau settled g.rows
  rows_of g are = record { right = are.right; whole = are.whole }

  pub one_trip_graph : (a b : Graph) → IsTripGraphOf settings tau settled a → IsTripGraphOf settings tau settled b → a ≡ b
  one_trip_graph a b are also =
      let up = graph_in_order a are in let vp = graph_in_order b also in
      let rows : a.rows ≡ b.rows = one_list_of_rows tau settled settings.trip a.rows b.rows up vp (rows_of a are) (rows_of b also) in
      let hold : HoldRows settled (length settled.vehicles) b.rows a.held = subst (λ (r : List TripRow). HoldRows settled (length settled.vehicles) r a.held)
      rows (record { count = are.good.held.plan.sized ∙ are.vehicle_total; each = are.hold }) in
      let held : a.held ≡ b.held = one_held settled (length settled.vehicles) b.rows vp a.held b.held hold
      (record { count = also.good.held.plan.sized ∙ also.vehicle_total; each = also.hold }) in
      λ k. record {
        vehicles = (are.vehicle_total ∙ sym also.vehicle_total) k;
        riders = (are.rider_total ∙ sym also.rider_total) k;
        penalty = (are.left_out ∙ sym also.left_out) k;
        rows = rows k;
        held = held k;
      }

  pub graph_or_overflow : (g : Graph) → IsTripGraphOf settings tau settled g → HasMoreRows tau settled settings.trip settings.pairs → ⊥
  graph_or_overflow g are more = no_more_rows tau settled settings.trip g.rows settings.pairs (graph_in_order g are) (rows_of g are) are.few more
