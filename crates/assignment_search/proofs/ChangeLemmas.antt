-- What it costs to give one vehicle another row.
use Rattle.std.proofs.Common.{
  ◌≡◌,
  ℕ,
  zero,
  suc,
  ◌+◌,
  ◌*◌,
  ◌<◌,
  ◌≤◌,
  false,
  IsTrue,
  List,
  length,
  get_or,
  set,
  Option,
  Some,
  None,
  inl,
  inr,
  sym,
  ap,
  ◌∙◌,
  subst,
  arith,
}
use Rattle.assignment_search.proofs.Common.{
  cases_eq,
  sum_below,
  Graph,
  IsGoodGraph,
  riders_at,
  cost_at,
  has_rider,
  choice_at,
  is_in,
  must_be_served,
  IsLawful,
  choice_cost,
  cost_of,
  left_out,
  flag,
  flag-true,
  flag-false,
  sum_below_same,
  times_served_as_count,
  BettersNothing,
}
use Rattle.std.proofs.lemmas.List.{get_or_default, get_or-set_same, get_or-set_other}
use Rattle.plan_rules.specs.Graph.{no_row}
use Rattle.plan_rules.specs.declared.row.TripRow.{TripRow}
use Rattle.plan_rules.specs.lemmas.Plan.{choice_size}
use Rattle.plan_rules.proofs.lemmas.ServedLemmas.{served_or_left}

-- a sum over choices, where one of them is another
pub sum_set : (n : ℕ) (f : Option ℕ → ℕ) (chosen : List (Option ℕ)) (v : ℕ) (c : Option ℕ) → v < n → v < length chosen
    → sum_below n (λ w. f (choice_at (set chosen v c) w)) + f (choice_at chosen v) ≡ sum_below n (λ w. f (choice_at chosen w)) + f c
sum_set zero f chosen v c low within = absurd (omega arith)
sum_set (suc n) f chosen v c low within = elim (cases_eq v n) [
  | inl last ↦
      let below = sum_below_same n (λ w. f (choice_at (set chosen v c) w)) (λ w. f (choice_at chosen w))
      (λ w lt. ap f (get_or-set_other chosen v w c None (λ e. omega (arith, lt, last, e)))) in
      let new : f (choice_at (set chosen v c) n) ≡ f c = ap f (ap (choice_at (set chosen v c)) (sym last) ∙ get_or-set_same chosen v c None within) in
      let old : f (choice_at chosen v) ≡ f (choice_at chosen n) = ap (λ (w : ℕ). f (choice_at chosen w)) last in
      omega (arith, below, new, old)
  | inr before ↦
      let same : f (choice_at (set chosen v c) n) ≡ f (choice_at chosen n) = ap f (get_or-set_other chosen v n c None (λ e. before (sym e))) in
      omega (arith, sum_set n f chosen v c (omega (arith, low, before)) within, same)
]

-- a row that costs no less than the present one, each with the penalties of those whom only the other serves, betters nothing
pub dear_betters_nothing : (g : Graph) (chosen : List (Option ℕ)) (v j k : ℕ) → IsGoodGraph g → IsLawful g chosen → v < g.vehicles → choice_at chosen v ≡ Some j
    → cost_at g j + g.penalty * length (riders_at g k) ≤ cost_at g k + g.penalty * length (riders_at g j) → BettersNothing g chosen v k
unfolding cost_of
dear_betters_nothing g chosen v j k good lawful low chooses dear changed =
    let within : v < length chosen = subst (λ (n : ℕ). v < n) (sym lawful.plan.sized) low in
    let costs = sum_set g.vehicles (choice_cost g) chosen v (Some k) low within in
    let sizes = sum_set g.vehicles (choice_size g) chosen v (Some k) low within in
    let old_cost : choice_cost g (choice_at chosen v) ≡ cost_at g j = ap (choice_cost g) chooses in
    let old_size : choice_size g (choice_at chosen v) ≡ length (riders_at g j) = ap (choice_size g) chooses in
    let before = served_or_left g chosen good lawful in
    let after = served_or_left g (set chosen v (Some k)) good changed in
    let lefts : left_out g (set chosen v (Some k)) + length (riders_at g k) ≡ left_out g chosen + length (riders_at g j) = omega arith in
    let prices : g.penalty * (left_out g (set chosen v (Some k)) + length (riders_at g k)) ≡ g.penalty * (left_out g chosen + length (riders_at g j)) =
    ap (λ (n : ℕ). g.penalty * n) lefts in
    omega arith

-- a row without a rider whom the vehicle serves and who must be served makes no lawful plan
pub loss_betters_nothing : (g : Graph) (chosen : List (Option ℕ)) (v j k r : ℕ) → IsLawful g chosen → v < g.vehicles → choice_at chosen v ≡ Some j
    → IsTrue (must_be_served g r) → IsTrue (has_rider g j r) → has_rider g k r ≡ false → BettersNothing g chosen v k
loss_betters_nothing g chosen v j k r lawful low chooses must serves lacks changed =
    let within : v < length chosen = subst (λ (n : ℕ). v < n) (sym lawful.plan.sized) low in
    let times = sum_set g.vehicles (λ c. flag (is_in g c r)) chosen v (Some k) low within in
    let old = flag-true (is_in g (choice_at chosen v) r) (ap (λ (c : Option ℕ). is_in g c r) chooses ∙ serves) in
    let before = times_served_as_count g chosen g.vehicles r in
    let after = times_served_as_count g (set chosen v (Some k)) g.vehicles r in
    absurd (omega (arith, times, old, flag-false _ lacks, before, after, lawful.kept r must, changed.kept r must))

-- a row that is read is small
pub row_read : (g : Graph) (rows : List TripRow) (k : ℕ) (row : TripRow) → IsGoodGraph g → rows ≡ g.rows → k < length g.rows → row ≡ get_or rows k row →
    (row.cost ≤ 1000000000) × (length row.riders.items ≤ 6)
row_read g rows k row good is low read =
    let here : row ≡ get_or g.rows k no_row = read ∙ ap (λ (rs : List TripRow). get_or rs k row) is ∙ sym (get_or_default g.rows k no_row row low) in
    (rw here (good.rows k low).cheap, rw here (good.rows k low).few)
