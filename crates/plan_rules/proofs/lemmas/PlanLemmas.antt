-- Plans: the held one is lawful; choices name rows.
use Rattle.std.proofs.Common.{◌≡◌, ℕ, ◌<◌, ◌≤◌, true, IsTrue, List, length, Option, Some, None, MatchOption, refl, subst, ltb-true, rules}
use Rattle.plan_rules.proofs.Common.{
  none-some,
  same_Some,
  cases_lt,
  get_or_past,
  Graph,
  IsRowOf,
  HasNoRow,
  choice_at,
  must_be_served,
  IsGoodGraph,
  HoldsRightly,
  IsPlan,
  IsLawful,
  times_chosen,
}
use Rattle.plan_rules.specs.lemmas.Graph.{ChoosesRows}
use Rattle.plan_rules.proofs.lemmas.GraphLemmas.{held_once, in_choice, rider_below, times_served_found, times_served_outside}

-- a choice of a plan is a row of its vehicle
pub own_row : (g : Graph) (v k : ℕ) (c : Option ℕ) → MatchOption c (HasNoRow g v) (IsRowOf g v) → c ≡ Some k → IsRowOf g v k
own_row g v k None h e = absurd (none-some k e)
own_row g v k (Some j) h e = subst (IsRowOf g v) (same_Some j k e) h

-- a vehicle that has a row is given one
pub has_choice : (g : Graph) (v k : ℕ) (c : Option ℕ) → MatchOption c (HasNoRow g v) (IsRowOf g v) → IsRowOf g v k → (j : ℕ) × (c ≡ Some j) × IsRowOf g v j
has_choice g v k None h row = absurd (h k row)
has_choice g v k (Some j) h row = (j, refl, h)

pub plan_choice : (g : Graph) (chosen : List (Option ℕ)) (v k : ℕ) → IsPlan g chosen → v < g.vehicles → choice_at chosen v ≡ Some k → IsRowOf g v k
plan_choice g chosen v k plan l e = own_row g v k (choice_at chosen v) (plan.own v l) e

pub plan_rows : (g : Graph) (chosen : List (Option ℕ)) → IsPlan g chosen → ChoosesRows g chosen
plan_rows g chosen plan v k e = search (rules, cases_lt, plan_choice, none-some, get_or_past)

-- a rider who must be served is one of the graph's
pub must_below : (g : Graph) (r : ℕ) → IsGoodGraph g → must_be_served g r ≡ true → r < g.riders
must_below g r good must = search (rules, ltb-true, times_served_found, in_choice, rider_below, plan_choice)

-- where each vehicle holds rightly, the held plan is lawful
pub held_lawful : (g : Graph) → length g.held ≡ g.vehicles → ((v : ℕ) → v < g.vehicles → HoldsRightly g v) → IsLawful g g.held
held_lawful g sized holds = search (rules, held_once, ltb-true, HasNoRow)

-- a plan is lawful where it serves each of the graph's riders as it must
pub lawful_from : (g : Graph) (chosen : List (Option ℕ)) → IsGoodGraph g → IsPlan g chosen → ((r : ℕ) → r < g.riders → times_chosen g chosen r ≤ 1) →
    ((r : ℕ) → r < g.riders → IsTrue (must_be_served g r) → times_chosen g chosen r ≡ 1) → IsLawful g chosen
lawful_from g chosen good plan once kept = search (rules, cases_lt, times_served_outside, plan_choice, must_below)
