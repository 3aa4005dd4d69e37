-- A leaf where no vehicle has a choice holds one plan, whose cost is the first-fit value.
use Rattle.std.proofs.Common.{
  ◌≡◌,
  ◌==◌,
  ℕ,
  zero,
  suc,
  ◌*◌,
  ◌<◌,
  ◌≤◌,
  Bool,
  true,
  false,
  ltb,
  List,
  length,
  Option,
  Some,
  None,
  MatchOption,
  ℤ,
  pos,
  ◌+ℤ◌,
  ◌-ℤ◌,
  ◌≤ℤ◌,
  refl,
  sym,
  ap,
  ◌∙◌,
  subst,
  ⊎_elim,
  arith,
  eq-eqb,
  eqb-true,
  unwrap_or,
  rules,
}
use Rattle.assignment_search.proofs.Common.{
  nat_tests,
  same_Some,
  none-some,
  ints,
  cases_eq,
  cases_lt,
  cases_Bool,
  and_from,
  and_parts,
  get_or_push,
  get_or_append_left,
  sum_below,
  count_below,
  int_sum_below,
  Graph,
  IsRowOf,
  HasNoRow,
  riders_at,
  row_vehicle,
  has_rider,
  choice_at,
  is_in,
  must_be_served,
  IsGoodGraph,
  IsPlan,
  IsLawful,
  choice_cost,
  cost_of,
  times_chosen,
  left_out,
  Usable,
  multiplier_at,
  is_usable_by,
  reduced_cost,
  vehicle_term,
  rider_term,
  leaf_value,
  first_fit_of,
  first_fit_below,
  first_fit,
  first_fit_value,
  MayUse,
  IsSoleRow,
  IsDeadEnd,
  Clash,
  Stranded,
  rounded_up,
  flag,
  flag-true,
  flag-false,
  part,
  int_sum_same,
  int_sum_le,
  int_sum_zero,
  least_below_some,
  least_below_none,
  least_below_found,
  count_below_found,
  times_served_as_count,
  times_served_some,
  in_choice,
  has_choice,
  HasUsable,
  IsFixed,
  IsSolePlan,
  false_from_ne_true,
}
use Rattle.plan_rules.proofs.lemmas.DualityLemmas.{choices_sum, multiplier_sum_is, prices_sum, riders_give, served_give}
use Rattle.plan_rules.proofs.lemmas.TreeLemmas.{rounded_up_mono}
use Rattle.assignment_search.proofs.lemmas.FirstFitLemmas.{length-first_fit}
use Rattle.assignment_search.proofs.lemmas.FirstFitValueLemmas.{first_fit_leaves_room, rider_term_is}

-- where two are counted, two pass
count_two_found : (n : ℕ) (p : ℕ → Bool) → 2 ≤ count_below n p → (j : ℕ) × (k : ℕ) × (j < k) × (k < n) × (p j ≡ true) × (p k ≡ true)
count_two_found zero p h = absurd (omega (arith, h))
count_two_found (suc n) p h = search (rules, cases_Bool, count_below_found, flag-true, flag-false, (count_two_found n p))

module _ (g : Graph) (u : Usable) (chosen : List (Option ℕ)) (good : IsGoodGraph g) (sized : length chosen ≡ g.vehicles) (sole : IsSolePlan g u chosen)
    (fixed : IsFixed g u) (has : HasUsable g u) (alive : IsDeadEnd g u → ⊥) where
  -- a choice may be used
  may_choice : (v k : ℕ) → v < g.vehicles → choice_at chosen v ≡ Some k → MayUse g u v k
  may_choice v k l e = pick (choice_at chosen v) (sole v l) e
    where
      pick : (c : Option ℕ) → MatchOption c ((j : ℕ) → MayUse g u v j → ⊥) (MayUse g u v) → c ≡ Some k → MayUse g u v k
      pick None h e = absurd (none-some k e)
      pick (Some j) h e = subst (MayUse g u v) (same_Some j k e) h

  own : (v : ℕ) → (c : Option ℕ) → MatchOption c ((j : ℕ) → MayUse g u v j → ⊥) (MayUse g u v) → MatchOption c (HasNoRow g v) (IsRowOf g v)
  own v None h = λ k row. let j = has v k row in h (j.0) (j.1)
  own v (Some k) h = h.row

  sole_is_plan : IsPlan g chosen
  sole_is_plan = record { sized = sized; own = λ v l. own v (choice_at chosen v) (sole v l) }

  only_choice : (v k : ℕ) → MayUse g u v k → IsSoleRow g u v k
  only_choice v k may = record { row = may; sole = λ j other. fixed v j k other may }

  sole_once : (r : ℕ) → times_chosen g chosen r ≤ 1
  sole_once r =
      ⊎_elim
      (λ (low : times_chosen g chosen r < 2). omega (arith, low))
      (λ (high : 2 ≤ times_chosen g chosen r).
      let w = count_two_found g.vehicles (λ v. is_in g (choice_at chosen v) r) (subst (λ (n : ℕ). 2 ≤ n) (times_served_as_count g chosen g.vehicles r) high) in
      let j = in_choice g (choice_at chosen (w.0)) r (w.4) in
      let k = in_choice g (choice_at chosen (w.1)) r (w.5) in
      let before : w.0 < w.1 = w.2 in
      let last : w.1 < g.vehicles = w.3 in
      absurd (alive (Clash (w.0) (w.1) (j.0) (k.0) r (λ (e : w.0 ≡ w.1). omega (arith, before, e))
      (only_choice (w.0) (j.0) (may_choice (w.0) (j.0) (omega (arith, before, last)) (j.1))) (only_choice (w.1) (k.0) (may_choice (w.1) (k.0) last (k.1)))
      (j.2) (k.2))))
      (cases_lt (times_chosen g chosen r) 2)

  -- who stands in a usable row is served
  sole_serves : (r k : ℕ) → k < length g.rows → u k ≡ true → has_rider g k r ≡ true → 1 ≤ times_chosen g chosen r
  sole_serves r k l may in_row =
      let low : row_vehicle g k < g.vehicles = (good.rows k l).vehicle in
      let row : IsRowOf g (row_vehicle g k) k = record { within = l; own = refl } in
      let here : MayUse g u (row_vehicle g k) k = record { row = row; usable_row = may } in
      let j = has_choice g (row_vehicle g k) k (choice_at chosen (row_vehicle g k)) (own (row_vehicle g k) (choice_at chosen (row_vehicle g k))
      (sole (row_vehicle g k) low)) row in
      let same : j.0 ≡ k = fixed (row_vehicle g k) (j.0) k (may_choice (row_vehicle g k) (j.0) low (j.1)) here in
      times_served_some g chosen g.vehicles r (row_vehicle g k) low (ap (λ (c : Option ℕ). is_in g c r) (j.1 ∙ ap Some same) ∙ in_row)

  sole_keeps : (r : ℕ) → must_be_served g r ≡ true → times_chosen g chosen r ≡ 1
  sole_keeps r must =
      ⊎_elim
      (λ (none : times_chosen g chosen r ≡ 0).
      absurd (alive (Stranded r must (λ k l may. false_from_ne_true (has_rider g k r) (λ e. omega (arith, none, sole_serves r k l may e))))))
      (λ (some : times_chosen g chosen r ≡ 0 → ⊥). omega (arith, some, sole_once r))
      (cases_eq (times_chosen g chosen r) 0)

  pub sole_is_lawful : IsLawful g chosen
  sole_is_lawful = record { plan = sole_is_plan; once = sole_once; kept = sole_keeps }

  -- ---- what it costs

  term_is : (ms : List ℤ) (v : ℕ) → v < g.vehicles → (c : Option ℕ) → choice_at chosen v ≡ c →
      vehicle_term g u ms v ≡ (pos (1024 * choice_cost g c) -ℤ riders_give g ms c)
  term_is ms v l None e =
      let none = least_below_none (length g.rows) (is_usable_by g u v) (reduced_cost g ms) foreign in
      omega (arith, ints, ap (λ (p : Option ℤ). unwrap_or p (pos 0)) none, int_sum_zero g.riders)
    where
      unfit : (c : Option ℕ) → MatchOption c ((j : ℕ) → MayUse g u v j → ⊥) (MayUse g u v) → c ≡ None → (j : ℕ) → MayUse g u v j → ⊥
      unfit None h e = h
      unfit (Some k) h e = absurd (none-some k (sym e))

      foreign : (k : ℕ) → k < length g.rows → is_usable_by g u v k ≡ false
      foreign k low = false_from_ne_true (is_usable_by g u v k) (λ is.
          let parts = and_parts (row_vehicle g k == v) (u k) is in
          unfit (choice_at chosen v) (sole v l) e k (record {
            row = record { within = low; own = eqb-true (row_vehicle g k) v (parts.0) };
            usable_row =
                parts.1;
          }))
  term_is ms v l (Some k) e =
      let may : MayUse g u v k = may_choice v k l e in
      let passes : is_usable_by g u v k ≡ true = and_from (row_vehicle g k == v) (u k) (eq-eqb (row_vehicle g k) v may.row.own) may.usable_row in
      let w = least_below_some (length g.rows) (is_usable_by g u v) (reduced_cost g ms) k may.row.within passes in
      let found = least_below_found (length g.rows) (is_usable_by g u v) (reduced_cost g ms) (w.0) (w.1) in
      let parts = and_parts (row_vehicle g (found.0) == v) (u (found.0)) (found.2) in
      let same : found.0 ≡ k = fixed v (found.0) k
      (record { row = record { within = found.1; own = eqb-true (row_vehicle g (found.0)) v (parts.0) }; usable_row = parts.1 }) may in
      let row = good.rows k may.row.within in
      let riders = multiplier_sum_is ms g.riders (riders_at g k) row.rising row.below in
      omega (arith, ints, found.3, ap (reduced_cost g ms) same, ap (λ (p : Option ℤ). unwrap_or p (pos 0)) w.1, riders)

  vehicles_are : (ms : List ℤ) → int_sum_below g.vehicles (vehicle_term g u ms) ≡ (pos (1024 * sum_below g.vehicles (λ v. choice_cost g (choice_at chosen v)))
      -ℤ served_give g ms chosen)
  vehicles_are ms =
      int_sum_same g.vehicles (vehicle_term g u ms) (λ v. pos (1024 * choice_cost g (choice_at chosen v)) -ℤ riders_give g ms (choice_at chosen v))
      (λ v l. term_is ms v l (choice_at chosen v) refl)
      ∙ choices_sum g ms chosen sole_once

-- a rider's term is at least her multiplier where she is served, and the penalty where she is left out
rider_term_ge : (g : Graph) (ms : List ℤ) (r t : ℕ) → multiplier_at ms r ≤ℤ pos (1024 * g.penalty) → (t ≡ 0 → multiplier_at ms r ≡ pos (1024 * g.penalty)) →
    (part (ltb 0 t) (multiplier_at ms r) +ℤ pos (1024 * (g.penalty * flag (t == 0)))) ≤ℤ rider_term g ms r
rider_term_ge g ms r t most all = grind (arith, ints, nat_tests, rider_term_is g ms r most, all)

riders_ge : (g : Graph) (ms : List ℤ) (chosen : List (Option ℕ)) → ((r : ℕ) → r < g.riders → multiplier_at ms r ≤ℤ pos (1024 * g.penalty)) →
    ((r : ℕ) → r < g.riders → times_chosen g chosen r ≡ 0 → multiplier_at ms r ≡ pos (1024 * g.penalty))
    → (served_give g ms chosen +ℤ pos (1024 * (g.penalty * left_out g chosen))) ≤ℤ int_sum_below g.riders (rider_term g ms)
riders_ge g ms chosen most all = grind (arith, nat_tests, (int_sum_le g.riders), (times_chosen g chosen), (rider_term_ge g ms), (prices_sum g ms chosen))

-- ---- the first-fit multipliers there

first_fit_read : (g : Graph) (u : Usable) (n r : ℕ) → r < n → multiplier_at (first_fit_below g u n) r ≡ first_fit_of g u (first_fit_below g u r) r
unfolding first_fit_below
first_fit_read g u zero r l = absurd (omega (arith, l))
first_fit_read g u (suc n) r l = search (rules, length-first_fit, get_or_push, get_or_append_left, cases_eq, (first_fit_read g u n r))

first_fit_left : (g : Graph) (u : Usable) (r : ℕ) → r < g.riders → ((k : ℕ) → k < length g.rows → u k ≡ true → has_rider g k r ≡ true → ⊥) →
    multiplier_at (first_fit g u) r ≡ pos (1024 * g.penalty)
first_fit_left g u r l nowhere = search (rules, first_fit_read, least_below_none, false_from_ne_true, and_parts)

-- ---- together

rounded_up_ge : (z : ℤ) (c : ℕ) → pos (1024 * c) ≤ℤ z → pos c ≤ℤ rounded_up z
rounded_up_ge z c h = omega (arith, ints, rounded_up_mono (pos (1024 * c)) z h)

module _ (g : Graph) (u : Usable) (chosen : List (Option ℕ)) (good : IsGoodGraph g) (sized : length chosen ≡ g.vehicles) (sole : IsSolePlan g u chosen)
    (fixed : IsFixed g u) (has : HasUsable g u) (alive : IsDeadEnd g u → ⊥) where
  value_reaches : pos (1024 * cost_of g chosen) ≤ℤ first_fit_value g u
  unfolding leaf_value cost_of
  value_reaches =
      let vehicles = vehicles_are g u chosen good sized sole fixed has alive (first_fit g u) in
      let riders = riders_ge g (first_fit g u) chosen (λ r l. (first_fit_leaves_room g u good).most r)
      (λ r l none. first_fit_left g u r l (λ k low may e. omega (arith, none, sole_serves g u chosen good sized sole fixed has alive r k low may e))) in
      omega (arith, ints)

  -- the one plan costs no more than the value shows
  pub sole_reaches : (value : ℤ) → first_fit_value g u ≤ℤ value → pos (cost_of g chosen) ≤ℤ rounded_up value
  sole_reaches value above = search (rules, value_reaches, rounded_up_ge, ints)
