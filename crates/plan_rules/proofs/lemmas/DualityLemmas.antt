-- Weak duality: a leaf value is at most the cost of each lawful plan of usable rows.
use Rattle.std.proofs.Common.{
  ◌≡◌,
  ◌==◌,
  ℕ,
  suc,
  ◌*◌,
  ◌<◌,
  ◌≤◌,
  true,
  ◌||◌,
  ltb,
  List,
  [],
  ◌∷◌,
  length,
  get_or,
  Option,
  Some,
  None,
  MatchOption,
  ℤ,
  pos,
  ◌+ℤ◌,
  ◌-ℤ◌,
  ◌≤ℤ◌,
  sym,
  ap,
  ◌∙◌,
  arith,
  eq-eqb,
  unwrap_or,
  rules,
}
use Rattle.plan_rules.proofs.Common.{
  nat_tests,
  IsStrictlyIncreasing,
  ints,
  int_min_is,
  and_from,
  sum_below,
  count_below,
  int_sum_below,
  Graph,
  row_at,
  riders_at,
  row_vehicle,
  IsRowOf,
  HasNoRow,
  choice_at,
  is_in,
  IsGraphRow,
  IsGoodGraph,
  IsLawful,
  choice_cost,
  cost_of,
  times_chosen,
  left_out,
  Usable,
  multiplier_at,
  multiplier_sum,
  reduced_cost,
  is_usable_by,
  vehicle_term,
  rider_term,
  leaf_value,
  is_choice_usable,
  is_within,
}
use Rattle.plan_rules.proofs.lemmas.SumLemmas.{
  flag,
  sum_below_scale,
  int_sum_same,
  int_sum_le,
  int_sum_plus,
  int_sum_minus,
  int_sum_pos,
  int_sum_zero,
  int_sum_swap,
  part,
  part-or,
  int_sum_single,
  int_sum_once,
  least_below_some,
  least_below_none,
  all_below_at,
}
use Rattle.plan_rules.proofs.lemmas.GraphLemmas.{has, tail_rises, head_apart, times_served_as_count}

-- the multipliers of rising riders, summed over all riders
pub multiplier_sum_is : (ms : List ℤ) (n : ℕ) (xs : List ℕ) → IsStrictlyIncreasing xs → ((i : ℕ) → i < length xs → get_or xs i 0 < n) →
    multiplier_sum ms xs ≡ int_sum_below n (λ r. part (has xs r) (multiplier_at ms r))
multiplier_sum_is ms n [] rises low = sym (int_sum_zero n)
multiplier_sum_is ms n (x ∷ xs) rises low =
    let rest = multiplier_sum_is ms n xs (tail_rises x xs rises) (λ i l. low (suc i) (omega arith)) in
    let first = int_sum_single n x (multiplier_at ms) (low 0 (omega arith)) in
    let split = int_sum_same n (λ r. part (x == r || has xs r) (multiplier_at ms r)) (λ r. part (x == r) (multiplier_at ms r) +ℤ part (has xs r)
    (multiplier_at ms r))
    (λ r l. part-or (x == r) (has xs r) (multiplier_at ms r) (head_apart x xs r rises)) in
    let both = int_sum_plus n (λ r. part (x == r) (multiplier_at ms r)) (λ r. part (has xs r) (multiplier_at ms r)) in
    omega (arith, ints)

-- what a choice's riders give, summed over all riders
abbrev pub riders_give : Graph → List ℤ → Option ℕ → ℤ
riders_give g ms c = int_sum_below g.riders (λ r. part (is_in g c r) (multiplier_at ms r))

-- what the riders of chosen rows give together
abbrev pub served_give : Graph → List ℤ → List (Option ℕ) → ℤ
served_give g ms chosen = int_sum_below g.riders (λ r. part (ltb 0 (times_chosen g chosen r)) (multiplier_at ms r))

-- what chosen rows cost, less what their riders give, where no rider is in two of them
pub choices_sum : (g : Graph) (ms : List ℤ) (chosen : List (Option ℕ)) → ((r : ℕ) → times_chosen g chosen r ≤ 1)
    → int_sum_below g.vehicles (λ v. pos (1024 * choice_cost g (choice_at chosen v)) -ℤ riders_give g ms (choice_at chosen v)) ≡
    (pos (1024 * sum_below g.vehicles (λ v. choice_cost g (choice_at chosen v))) -ℤ served_give g ms chosen)
choices_sum g ms chosen few =
    let apart = int_sum_minus g.vehicles (λ v. pos (1024 * choice_cost g (choice_at chosen v))) (λ v. riders_give g ms (choice_at chosen v)) in
    let costs = int_sum_pos g.vehicles (λ v. 1024 * choice_cost g (choice_at chosen v)) in
    let scaled = sum_below_scale g.vehicles 1024 (λ v. choice_cost g (choice_at chosen v)) in
    let swapped = int_sum_swap g.vehicles g.riders (λ v r. part (is_in g (choice_at chosen v) r) (multiplier_at ms r)) in
    let counted = int_sum_same g.riders (λ r. int_sum_below g.vehicles (λ v. part (is_in g (choice_at chosen v) r) (multiplier_at ms r)))
    (λ r. part (ltb 0 (times_chosen g chosen r)) (multiplier_at ms r))
    (λ r l. once r) in
    omega (arith, ints)
  where
    once : (r : ℕ) → int_sum_below g.vehicles (λ v. part (is_in g (choice_at chosen v) r) (multiplier_at ms r)) ≡ part (ltb 0 (times_chosen g chosen r))
        (multiplier_at ms r)
    once r =
        let count : times_chosen g chosen r ≡ count_below g.vehicles (λ v. is_in g (choice_at chosen v) r) = times_served_as_count g chosen g.vehicles r in
        let low : times_chosen g chosen r ≤ 1 = few r in
        int_sum_once g.vehicles (λ v. is_in g (choice_at chosen v) r) (multiplier_at ms r) (omega arith)
        ∙ ap (λ (n : ℕ). part (ltb 0 n) (multiplier_at ms r)) (sym count)

-- what served riders give, and the penalties of those who are left out
pub prices_sum : (g : Graph) (ms : List ℤ) (chosen : List (Option ℕ))
    → int_sum_below g.riders (λ r. part (ltb 0 (times_chosen g chosen r)) (multiplier_at ms r) +ℤ pos
    (1024 * (g.penalty * flag (times_chosen g chosen r == 0)))) ≡ served_give g ms chosen +ℤ pos (1024 * (g.penalty * left_out g chosen))
prices_sum g ms chosen = grind (
  arith,
  nat_tests,
  (int_sum_plus g.riders),
  (times_chosen g chosen),
  (int_sum_pos g.riders),
  (sum_below_scale g.riders 1024),
  (sum_below_scale g.riders g.penalty),
  (left_out g chosen),
)

at_some : (o : Option ℤ) (z d : ℤ) → o ≡ Some z → unwrap_or o d ≡ z
at_some o z d e = ap (λ (p : Option ℤ). unwrap_or p d) e

-- a vehicle's term is at most what its usable choice costs, less its riders' multipliers
vehicle_term_le : (g : Graph) (usable : Usable) (ms : List ℤ) (v : ℕ) (c : Option ℕ) → ((k : ℕ) → k < length g.rows →
    IsGraphRow g.vehicles g.riders (row_at g k)) → MatchOption c (HasNoRow g v) (IsRowOf g v) → is_choice_usable usable c ≡ true →
    vehicle_term g usable ms v ≤ℤ (pos (1024 * choice_cost g c) -ℤ riders_give g ms c)
vehicle_term_le g usable ms v None rows own may = grind (arith, nat_tests, (least_below_none (length g.rows)), (int_sum_zero g.riders))
vehicle_term_le g usable ms v (Some k) rows own may =
    let w = least_below_some (length g.rows) (is_usable_by g usable v) (reduced_cost g ms) k own.within
    (and_from (row_vehicle g k == v) (usable k) (eq-eqb (row_vehicle g k) v own.own) may) in
    let row = rows k own.within in
    let riders = multiplier_sum_is ms g.riders (riders_at g k) row.rising row.below in
    omega (arith, ints, at_some _ w.0 (pos 0) w.1, w.2, riders)

-- a rider's term is at most her multiplier where she is served, and the penalty where she is left out
rider_term_le : (g : Graph) (ms : List ℤ) (chosen : List (Option ℕ)) (r : ℕ) → IsLawful g chosen →
    rider_term g ms r ≤ℤ (part (ltb 0 (times_chosen g chosen r)) (multiplier_at ms r) +ℤ pos (1024 * (g.penalty * flag (times_chosen g chosen r == 0))))
rider_term_le g ms chosen r lawful = search (rules, ints, nat_tests, int_min_is)

-- the vehicles' terms together
vehicles_le : (g : Graph) (usable : Usable) (ms : List ℤ) (chosen : List (Option ℕ)) → IsGoodGraph g → IsLawful g chosen → is_within g usable chosen ≡ true
    → int_sum_below g.vehicles (vehicle_term g usable ms) ≤ℤ (pos (1024 * sum_below g.vehicles (λ v. choice_cost g (choice_at chosen v))) -ℤ served_give g ms
    chosen)
unfolding is_within
vehicles_le g usable ms chosen good lawful within =
    let each = int_sum_le g.vehicles (vehicle_term g usable ms) (λ v. pos (1024 * choice_cost g (choice_at chosen v)) -ℤ riders_give g ms (choice_at chosen v))
    (λ v l. vehicle_term_le g usable ms v (choice_at chosen v) good.rows (lawful.plan.own v l)
    (all_below_at g.vehicles (λ v. is_choice_usable usable (choice_at chosen v)) v within l)) in
    omega (arith, ints, choices_sum g ms chosen lawful.once)

-- the riders' terms together
riders_le : (g : Graph) (ms : List ℤ) (chosen : List (Option ℕ)) → IsLawful g chosen
    → int_sum_below g.riders (rider_term g ms) ≤ℤ (served_give g ms chosen +ℤ pos (1024 * (g.penalty * left_out g chosen)))
riders_le g ms chosen lawful = grind (arith, nat_tests, (int_sum_le g.riders), (times_chosen g chosen), (rider_term_le g ms chosen), (prices_sum g ms chosen))

-- weak duality
pub leaf_value_le : (g : Graph) (usable : Usable) (ms : List ℤ) (chosen : List (Option ℕ)) → IsGoodGraph g → IsLawful g chosen →
    is_within g usable chosen ≡ true → leaf_value g usable ms ≤ℤ pos (1024 * cost_of g chosen)
unfolding leaf_value cost_of
leaf_value_le g usable ms chosen good lawful within = grind (
  arith,
  nat_tests,
  (vehicles_le g usable ms chosen good lawful within),
  (riders_le g ms chosen lawful),
)
