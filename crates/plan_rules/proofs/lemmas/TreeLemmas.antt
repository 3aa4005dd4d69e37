-- The leaves and dead ends of a sound tree part the plans, and its value is a bound.
use Rattle.std.proofs.Common.{
  ◌≡◌,
  ℕ,
  ◌+◌,
  ◌*◌,
  ◌<◌,
  ◌≤◌,
  Bool,
  true,
  false,
  cond,
  List,
  [],
  ◌∷◌,
  length,
  Option,
  Some,
  None,
  count_by,
  ℤ,
  pos,
  negsuc,
  ◌≤ℤ◌,
  refl,
  sym,
  ap,
  ◌∙◌,
  inl,
  inr,
  ⊎_elim,
  arith,
  rules,
}
use Rattle.plan_rules.proofs.Common.{
  same_Some,
  ints,
  sum_by-cons,
  cases_eq,
  cases_Bool,
  both_ways,
  false_from_ne_true,
  all_below,
  lesser,
  Graph,
  row_at,
  has_rider,
  IsRowOf,
  choice_at,
  is_in,
  IsGraphRow,
  IsGoodGraph,
  IsPlan,
  IsLawful,
  cost_of,
  IsBound,
  Usable,
  leaf_value,
  every_row,
  only_row,
  without_row,
  CanBranch,
  IsSoleRow,
  IsDeadEnd,
  Clash,
  Stranded,
  Place,
  rounded_up,
  least_leaf,
  is_choice_usable,
  is_within,
  belongs_to_end,
  belongs_to_dead_end,
  ReadsTo,
  places_from,
  IsWholeTree,
  places_read,
  value_read,
  Node,
  Branch,
  Leaf,
  Dead,
  nat_tests,
}
use Rattle.plan_rules.proofs.lemmas.SumLemmas.{
  flag,
  flag-true,
  flag-false,
  all_below_at,
  all_below_from,
  all_below_fails,
  all_below_same,
  count_below_two,
  lesser-le_left,
  lesser-le_right,
}
use Rattle.plan_rules.proofs.lemmas.GraphLemmas.{vehicle_below, times_served_as_count, times_served_found, in_choice}
use Rattle.plan_rules.proofs.lemmas.PlanLemmas.{has_choice, plan_choice}
use Rattle.plan_rules.proofs.lemmas.DualityLemmas.{leaf_value_le}

-- a plan within the usable rows chooses usable rows
pub within_at : (g : Graph) (usable : Usable) (chosen : List (Option ℕ)) (v k : ℕ) → is_within g usable chosen ≡ true → v < g.vehicles →
    choice_at chosen v ≡ Some k → usable k ≡ true
unfolding is_within
within_at g usable chosen v k within l e =
    sym (ap (is_choice_usable usable) e) ∙ all_below_at g.vehicles (λ v. is_choice_usable usable (choice_at chosen v)) v within l

pub within_every_row : (g : Graph) (chosen : List (Option ℕ)) → is_within g every_row chosen ≡ true
unfolding is_within
within_every_row g chosen = search (rules, all_below_from)

-- ---- a branch parts the plans that were within its usable rows

module _ (g : Graph) (usable : Usable) (chosen : List (Option ℕ)) (plan : IsPlan g chosen) (v k : ℕ) (low : v < g.vehicles) (row : IsRowOf g v k) where
  -- the choice of each vehicle stays as usable as it was, where the vehicle chooses the row
  only_same : choice_at chosen v ≡ Some k → (w : ℕ) → w < g.vehicles → (c : Option ℕ) → choice_at chosen w ≡ c →
      is_choice_usable (only_row g usable v k) c ≡ is_choice_usable usable c
  only_same e w l None is = refl
  only_same e w l (Some j) is = search (rules, plan_choice, nat_tests, same_Some)

  -- the same without the row, where the vehicle chooses another
  without_same : (j : ℕ) → choice_at chosen v ≡ Some j → (j ≡ k → ⊥) → (w : ℕ) → w < g.vehicles → (c : Option ℕ) → choice_at chosen w ≡ c →
      is_choice_usable (without_row usable k) c ≡ is_choice_usable usable c
  without_same j e differs w l None is = refl
  without_same j e differs w l (Some i) is = search (rules, plan_choice, same_Some, nat_tests)

  only_fails : (j : ℕ) → IsRowOf g v j → (j ≡ k → ⊥) → only_row g usable v k j ≡ false
  only_fails j own differs = grind (arith, nat_tests, own.own, differs)

  without_fails : without_row usable k k ≡ false
  without_fails = grind (arith, nat_tests)

-- how a plan stands to the two sides of a branch
record IsParted (g : Graph) (usable : Usable) (v k : ℕ) (chosen : List (Option ℕ)) : Type 0 where
  together : flag (is_within g (only_row g usable v k) chosen) + flag (is_within g (without_row usable k) chosen) ≡ flag (is_within g usable chosen)

parts : (g : Graph) (usable : Usable) (v k : ℕ) (chosen : List (Option ℕ)) → IsPlan g chosen → v < g.vehicles → CanBranch g usable v k →
    IsParted g usable v k chosen
unfolding is_within
parts g usable v k chosen plan low can =
    let row = can.row.row in
    let w = has_choice g v k (choice_at chosen v) (plan.own v low) row in
    ⊎_elim
    (λ (same : w.0 ≡ k).
    let e : choice_at chosen v ≡ Some k = w.1 ∙ ap Some same in
    let yes = all_below_same g.vehicles (λ v'. is_choice_usable (only_row g usable v k) (choice_at chosen v'))
    (λ v'. is_choice_usable usable (choice_at chosen v'))
    (λ u l. only_same g usable chosen plan v k low row e u l (choice_at chosen u) refl) in
    let no = all_below_fails g.vehicles (λ v'. is_choice_usable (without_row usable k) (choice_at chosen v')) v low
    (ap (is_choice_usable (without_row usable k)) e ∙ without_fails g usable chosen plan v k low row) in
    let a = ap flag yes in
    let b : flag (all_below g.vehicles (λ v'. is_choice_usable (without_row usable k) (choice_at chosen v'))) ≡ 0 = flag-false _ no in
    record { together = omega (arith, a, b) })
    (λ (differs : w.0 ≡ k → ⊥).
    let e : choice_at chosen v ≡ Some (w.0) = w.1 in
    let yes = all_below_same g.vehicles (λ v'. is_choice_usable (without_row usable k) (choice_at chosen v'))
    (λ v'. is_choice_usable usable (choice_at chosen v'))
    (λ u l. without_same g usable chosen plan v k low row (w.0) e differs u l (choice_at chosen u) refl) in
    let no = all_below_fails g.vehicles (λ v'. is_choice_usable (only_row g usable v k) (choice_at chosen v')) v low
    (ap (is_choice_usable (only_row g usable v k)) e ∙ only_fails g usable chosen plan v k low row (w.0) (w.2) differs) in
    let a = ap flag yes in
    let b : flag (all_below g.vehicles (λ v'. is_choice_usable (only_row g usable v k) (choice_at chosen v'))) ≡ 0 = flag-false _ no in
    record { together = omega (arith, a, b) })
    (cases_eq (w.0) k)

-- ---- each plan belongs to one end

pub count-cons : {X : Type 0} (p : X → Bool) (x : X) (xs : List X) → count_by p (x ∷ xs) ≡ flag (p x) + count_by p xs
count-cons p x xs = sum_by-cons (λ y. cond (p y) 1 0) x xs

-- the ends that a plan belongs to, and the subtrees still to come that it belongs to, are as many as those at first
ends_count : (g : Graph) (chosen : List (Option ℕ)) → ((k : ℕ) → k < length g.rows → IsGraphRow g.vehicles g.riders (row_at g k)) → IsPlan g chosen →
    (nodes : List Node) (coming rest : List Usable) → ReadsTo g coming nodes rest
    → count_by (belongs_to_end g chosen) (places_from g coming nodes) + count_by (λ u. is_within g u chosen) rest ≡ count_by (λ u. is_within g u chosen) coming
ends_count g chosen rows plan [] coming rest e = search rules
ends_count g chosen rows plan (n ∷ nodes) [] rest e = absurd e
ends_count g chosen rows plan (Branch v k ∷ nodes) (u ∷ us) rest e = search (rules, count-cons, parts, vehicle_below, (ends_count g chosen rows plan nodes))
ends_count g chosen rows plan (n ∷ nodes) (u ∷ us) rest e = search (rules, count-cons, (ends_count g chosen rows plan nodes us rest (e.1)))

pub each_plan_at_one_end : (g : Graph) (nodes : List Node) (chosen : List (Option ℕ)) → IsGoodGraph g → IsWholeTree g nodes → IsPlan g chosen →
    count_by (belongs_to_end g chosen) (places_read g nodes) ≡ 1
each_plan_at_one_end g nodes chosen good sound plan = search (rules, ends_count, count-cons, flag, flag-true, within_every_row)

-- ---- no lawful plan at a dead end

pub dead_end_holds_none : (g : Graph) (usable : Usable) (chosen : List (Option ℕ)) → IsGoodGraph g → IsLawful g chosen → IsDeadEnd g usable →
    is_within g usable chosen ≡ false
dead_end_holds_none g usable chosen good lawful dead = false_from_ne_true (is_within g usable chosen) (holds_none dead)
  where
    -- the vehicle's choice is its sole row
    sole_has : (v k r : ℕ) → IsSoleRow g usable v k → has_rider g k r ≡ true → is_within g usable chosen ≡ true → is_in g (choice_at chosen v) r ≡ true
    sole_has v k r sole has within =
        let below = vehicle_below g v k good.rows sole.row.row in
        let c = has_choice g v k (choice_at chosen v) (lawful.plan.own v below) sole.row.row in
        let is : c.0 ≡ k = sole.sole (c.0) (record { row = c.2; usable_row = within_at g usable chosen v (c.0) within below (c.1) }) in
        ap (λ (o : Option ℕ). is_in g o r) (c.1 ∙ ap Some is) ∙ has

    holds_none : IsDeadEnd g usable → is_within g usable chosen ≡ true → ⊥
    holds_none (Clash v w j k r differ a b in_a in_b) within =
        let two = count_below_two g.vehicles (λ v. is_in g (choice_at chosen v) r) v w (vehicle_below g v j good.rows a.row.row)
        (vehicle_below g w k good.rows b.row.row) differ (sole_has v j r a in_a within) (sole_has w k r b in_b within) in
        let count = times_served_as_count g chosen g.vehicles r in
        omega (arith, two, count, lawful.once r)
    holds_none (Stranded r must nowhere) within =
        let times = lawful.kept r must in
        let v = times_served_found g chosen g.vehicles r (omega (arith, times)) in
        let k = in_choice g (choice_at chosen (v.0)) r (v.2) in
        let own = plan_choice g chosen (v.0) (k.0) lawful.plan (v.1) (k.1) in
        both_ways (has_rider g (k.0) r) (nowhere (k.0) own.within (within_at g usable chosen (v.0) (k.0) within (v.1) (k.1))) (k.2)

dead_count : (g : Graph) (chosen : List (Option ℕ)) → IsGoodGraph g → IsLawful g chosen → (nodes : List Node) (coming rest : List Usable) →
    ReadsTo g coming nodes rest → count_by (belongs_to_dead_end g chosen) (places_from g coming nodes) ≡ 0
dead_count g chosen good lawful [] coming rest e = refl
dead_count g chosen good lawful (n ∷ nodes) [] rest e = absurd e
dead_count g chosen good lawful (Dead ∷ nodes) (u ∷ us) rest e = search (
  rules,
  count-cons,
  flag,
  flag-false,
  dead_end_holds_none,
  (dead_count g chosen good lawful nodes us rest (e.1)),
)
dead_count g chosen good lawful (n ∷ nodes) (u ∷ us) rest e = search (rules, count-cons, (dead_count g chosen good lawful nodes))

pub no_plan_at_dead_ends : (g : Graph) (nodes : List Node) (chosen : List (Option ℕ)) → IsGoodGraph g → IsWholeTree g nodes → IsLawful g chosen →
    count_by (belongs_to_dead_end g chosen) (places_read g nodes) ≡ 0
no_plan_at_dead_ends g nodes chosen good sound lawful = dead_count g chosen good lawful nodes (every_row ∷ []) [] sound

-- ---- the value is a bound

pub rounded_up_mono : (a b : ℤ) → a ≤ℤ b → rounded_up a ≤ℤ rounded_up b
rounded_up_mono (pos n) (pos m) h = omega (arith, ints, h)
rounded_up_mono (negsuc n) (negsuc m) h = omega (arith, ints, h)
rounded_up_mono _ _ h = omega (arith, ints, h)

rounded_up_le : (z : ℤ) (c : ℕ) → z ≤ℤ pos (1024 * c) → rounded_up z ≤ℤ pos c
rounded_up_le z c h = omega (arith, ints, rounded_up_mono z (pos (1024 * c)) h)

-- some leaf shows at most what the plan costs
abbrev HasLeafBelow : Graph → List (Option ℕ) → List Place → Type 0
HasLeafBelow g chosen ps = (z : ℤ) × (least_leaf g ps ≡ Some z) × (z ≤ℤ pos (cost_of g chosen))

least_leaf_step : (g : Graph) (chosen : List (Option ℕ)) → IsGoodGraph g → IsLawful g chosen → (n : Node) (u : Usable) (ps : List Place)
    → (1 ≤ count_by (belongs_to_end g chosen) ps → count_by (belongs_to_dead_end g chosen) ps ≡ 0 → HasLeafBelow g chosen ps)
    → 1 ≤ count_by (belongs_to_end g chosen) (record { node = n; usable = u } ∷ ps) → count_by (belongs_to_dead_end g chosen)
    (record { node = n; usable = u } ∷ ps) ≡ 0
    → HasLeafBelow g chosen (record { node = n; usable = u } ∷ ps)
least_leaf_step g chosen good lawful (Leaf ms) u ps later some none =
    let ends = count-cons (belongs_to_end g chosen) (record { node = Leaf ms; usable = u }) ps in
    let dead = count-cons (belongs_to_dead_end g chosen) (record { node = Leaf ms; usable = u }) ps in
    let value = rounded_up (leaf_value g u ms) in (
      lesser (least_leaf g ps) value,
      refl,
      elim (cases_Bool (is_within g u chosen)) [
        | inl inside ↦ omega (
          arith,
          ints,
          lesser-le_right (least_leaf g ps) value,
          rounded_up_le (leaf_value g u ms) (cost_of g chosen)
              (leaf_value_le g u ms chosen good lawful inside),
        )
        | inr outside ↦
            let w = later (omega (arith, ends, some, flag-false _ outside)) (omega (arith, dead, none)) in
            omega (arith, ints, ap (λ (o : Option ℤ). lesser o value) w.1, lesser-le_left w.0 value, w.2)
      ],
    )
least_leaf_step g chosen good lawful n u ps later some none =
    let ends = count-cons (belongs_to_end g chosen) (record { node = n; usable = u }) ps in
    let dead = count-cons (belongs_to_dead_end g chosen) (record { node = n; usable = u }) ps in
    later (omega (arith, ends, dead, some, none)) (omega (arith, dead, none))

least_leaf_le : (g : Graph) (chosen : List (Option ℕ)) → IsGoodGraph g → IsLawful g chosen → (ps : List Place) → 1 ≤ count_by (belongs_to_end g chosen) ps →
    count_by (belongs_to_dead_end g chosen) ps ≡ 0 → HasLeafBelow g chosen ps
least_leaf_le g chosen good lawful [] some none = absurd (omega (arith, some))
least_leaf_le g chosen good lawful (p ∷ ps) some none = least_leaf_step g chosen good lawful p.node p.usable ps (least_leaf_le g chosen good lawful ps) some
    none

pub tree_value_bounds : (g : Graph) (nodes : List Node) → IsGoodGraph g → IsWholeTree g nodes → IsBound g (value_read g nodes)
tree_value_bounds g nodes good sound chosen lawful = grind (
  arith,
  nat_tests,
  (each_plan_at_one_end g nodes chosen good sound lawful.plan),
  (no_plan_at_dead_ends g nodes chosen good sound lawful),
  (least_leaf_le g chosen good lawful),
)
