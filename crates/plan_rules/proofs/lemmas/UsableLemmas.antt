-- What depends on usable rows depends on those of the graph alone.
use Rattle.std.proofs.Common.{◌≡◌, ℕ, zero, suc, ◌<◌, Bool, List, length, ℤ, refl, sym, ◌∙◌, arith, unwrap_or, rules}
use Rattle.plan_rules.proofs.Common.{
  least_below,
  Graph,
  Usable,
  vehicle_term,
  leaf_value,
  least_cost,
  first_fit_of,
  first_fit_below,
  first_fit_value,
  MayUse,
  CanBranch,
  IsSoleRow,
  IsDeadEnd,
  Clash,
  Stranded,
}
use Rattle.plan_rules.proofs.lemmas.SumLemmas.{int_sum_same}

-- the two agree on the graph's rows
abbrev pub Agree : Graph → Usable → Usable → Type 0
Agree g u w = (k : ℕ) → k < length g.rows → u k ≡ w k

pub least_below_agrees : (n : ℕ) (p q : ℕ → Bool) (f : ℕ → ℤ) → ((k : ℕ) → k < n → p k ≡ q k) → least_below n p f ≡ least_below n q f
least_below_agrees zero p q f e = refl
least_below_agrees (suc n) p q f e = search (rules, (least_below_agrees n p q f))

pub vehicle_term_agrees : (g : Graph) (u w : Usable) (ms : List ℤ) (v : ℕ) → Agree g u w → vehicle_term g u ms v ≡ vehicle_term g w ms v
vehicle_term_agrees g u w ms v e = search (rules, unwrap_or, least_below_agrees)

pub leaf_value_agrees : (g : Graph) (u w : Usable) (ms : List ℤ) → Agree g u w → leaf_value g u ms ≡ leaf_value g w ms
unfolding leaf_value
leaf_value_agrees g u w ms e = search (rules, int_sum_same, vehicle_term_agrees)

pub may_use_agrees : (g : Graph) (u w : Usable) (v k : ℕ) → Agree g u w → MayUse g u v k → MayUse g w v k
may_use_agrees g u w v k e may = record { row = may.row; usable_row = sym (e k may.row.within) ∙ may.usable_row }

pub agree_back : (g : Graph) (u w : Usable) → Agree g u w → Agree g w u
agree_back g u w e k l = sym (e k l)

pub can_branch_agrees : (g : Graph) (u w : Usable) (v k : ℕ) → Agree g u w → CanBranch g u v k → CanBranch g w v k
can_branch_agrees g u w v k e can = search (rules, may_use_agrees)

pub sole_agrees : (g : Graph) (u w : Usable) (v k : ℕ) → Agree g u w → IsSoleRow g u v k → IsSoleRow g w v k
sole_agrees g u w v k e sole = search (rules, may_use_agrees, agree_back)

pub dead_end_agrees : (g : Graph) (u w : Usable) → Agree g u w → IsDeadEnd g u → IsDeadEnd g w
dead_end_agrees g u w e (Clash v x j k r differ a b in_a in_b) = Clash v x j k r differ (sole_agrees g u w v j e a) (sole_agrees g u w x k e b) in_a in_b
dead_end_agrees g u w e (Stranded r must nowhere) = Stranded r must (λ k l may. nowhere k l (e k l ∙ may))

-- ---- the first-fit multipliers

pub least_cost_agrees : (g : Graph) (u w : Usable) (v : ℕ) → Agree g u w → least_cost g u v ≡ least_cost g w v
least_cost_agrees g u w v e = search (rules, unwrap_or, least_below_agrees)

first_fit_of_agrees : (g : Graph) (u w : Usable) (ms : List ℤ) (r : ℕ) → Agree g u w → first_fit_of g u ms r ≡ first_fit_of g w ms r
first_fit_of_agrees g u w ms r e = grind (arith, least_cost_agrees, least_below_agrees)

pub first_fit_agrees : (g : Graph) (u w : Usable) (n : ℕ) → Agree g u w → first_fit_below g u n ≡ first_fit_below g w n
unfolding first_fit_below
first_fit_agrees g u w zero e = refl
first_fit_agrees g u w (suc n) e = search (rules, first_fit_of_agrees, (first_fit_agrees g u w n e))

pub first_fit_value_agrees : (g : Graph) (u w : Usable) → Agree g u w → first_fit_value g u ≡ first_fit_value g w
first_fit_value_agrees g u w e = search (rules, first_fit_agrees, leaf_value_agrees)
