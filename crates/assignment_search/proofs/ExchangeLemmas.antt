-- One vehicle's row in place of another.
use Rattle.std.proofs.lemmas.Bool.Decides.{nat_tests}
use Rattle.std.proofs.Common.{◌≡◌, ℕ, ◌<◌, List, length, set, Option, Some, None, sym, ap, ◌∙◌, subst, arith}
use Rattle.assignment_search.proofs.Common.{
  cases_lt,
  set-get_or,
  set_past,
  Graph,
  IsRowOf,
  HasNoRow,
  choice_at,
  is_in,
  IsLawful,
  count_below_two,
  times_served_as_count,
  BettersNothing,
  IsShared,
}
use Rattle.std.proofs.lemmas.List.{get_or-set_same, get_or-set_other}
use Rattle.assignment_search.specs.Change.{HasNoBetterChange}

-- a row with a rider of another vehicle's chosen row makes no lawful plan
pub shared_betters_nothing : (g : Graph) (chosen : List (Option ℕ)) (v k : ℕ) → length chosen ≡ g.vehicles → v < g.vehicles → IsShared g chosen v k →
    BettersNothing g chosen v k
shared_betters_nothing g chosen v k sized low s lawful =
    let other_low : s.other < g.vehicles = subst (λ (n : ℕ). s.other < n) sized s.within in
    let here = ap (λ (c : Option ℕ). is_in g c s.rider) (get_or-set_same chosen v (Some k) None (subst (λ (n : ℕ). v < n) (sym sized) low)) ∙ s.in_row in
    let there = ap (λ (c : Option ℕ). is_in g c s.rider) (get_or-set_other chosen v s.other (Some k) None s.differs ∙ s.chooses) ∙ s.in_other in
    let two = count_below_two g.vehicles (λ w. is_in g (choice_at (set chosen v (Some k)) w) s.rider) v s.other low other_low
    (λ (e : v ≡ s.other). s.differs (sym e)) here there in
    absurd (omega (arith, two, times_served_as_count g (set chosen v (Some k)) g.vehicles s.rider, lawful.once s.rider))

-- where no row of a vehicle betters the plan, no change of one vehicle's row does
pub no_better : (g : Graph) (chosen : List (Option ℕ)) → IsLawful g chosen → ((v k : ℕ) → v < g.vehicles → IsRowOf g v k → BettersNothing g chosen v k) →
    HasNoBetterChange g chosen
no_better g chosen lawful all v other changed = grind (
  arith,
  nat_tests,
  (cases_lt v (length chosen)),
  (HasNoRow g v),
  (set-get_or chosen v None),
  (get_or-set_same chosen v other None),
  (set_past chosen v other),
)
