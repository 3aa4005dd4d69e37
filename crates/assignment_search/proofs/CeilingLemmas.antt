-- What lowers a ceiling of the first-fit multipliers keeps it one.
use Rattle.std.proofs.lemmas.Bool.Decides.{nat_tests}
use Rattle.std.proofs.Common.{
  rules,
  ◌≡◌,
  ℕ,
  zero,
  suc,
  ◌*◌,
  ◌<◌,
  true,
  List,
  [],
  ◌∷◌,
  length,
  get_or,
  set,
  ℤ,
  pos,
  ◌+ℤ◌,
  ◌-ℤ◌,
  ◌*ℤ◌,
  ◌≤ℤ◌,
  All,
  ap,
  ◌∙◌,
  subst,
  arith,
}
use Rattle.assignment_search.proofs.Common.{
  ints,
  get_or_past,
  int_sum_below,
  Graph,
  riders_at,
  row_vehicle,
  cost_at,
  IsGoodGraph,
  Usable,
  multiplier_at,
  multiplier_sum,
  least_cost,
  first_fit,
  first_fit_value,
  int_sum_same,
  int_sum_le,
  IsModest,
  HasLeastCosts,
  AreCeilings,
}
use Rattle.std.proofs.lemmas.List.{get_or_default, length-set}
use Rattle.assignment_search.proofs.lemmas.FirstFitLemmas.{set_all}
use Rattle.assignment_search.proofs.lemmas.FirstFitValueLemmas.{positive_sum, first_fit_leaves_room, first_fit_value_is}

-- where multipliers aren't negative, each is at most what they come to
each_fits : (ms : List ℤ) (xs : List ℕ) (z : ℤ) → ((r : ℕ) → pos 0 ≤ℤ multiplier_at ms r) → multiplier_sum ms xs ≤ℤ z → (k d : ℕ) → k < length xs →
    multiplier_at ms (get_or xs k d) ≤ℤ z
each_fits ms [] z p l k d low = absurd (omega (arith, low))
each_fits ms (x ∷ xs) z p l zero d low = let rest = positive_sum ms xs p in omega (arith, ints, rest, l)
each_fits ms (x ∷ xs) z p l (suc k) d low = let here = p x in each_fits ms xs z p (omega (arith, ints, l, here)) k d (omega (arith, low))

pub room_fits : (g : Graph) (u : Usable) (k : ℕ) (z : ℤ) → IsGoodGraph g → k < length g.rows → u k ≡ true →
    z ≡ (pos 1024 *ℤ (pos (cost_at g k) -ℤ least_cost g u (row_vehicle g k)))
    → (i d : ℕ) → i < length (riders_at g k) → (get_or (riders_at g k) i d < g.riders) × (multiplier_at (first_fit g u) (get_or (riders_at g k) i d) ≤ℤ z)
room_fits g u k z good l may is i d low = grind (arith, nat_tests, (first_fit_leaves_room g u good), get_or_default, each_fits)

-- at first each number is the penalty
pub ceilings_first : (g : Graph) (u : Usable) (rooms : List ℤ) → IsGoodGraph g → length rooms ≡ g.riders → All (λ z. z ≡ pos (1024 * g.penalty)) rooms →
    AreCeilings g u rooms
ceilings_first g u rooms good sized all = grind (arith, nat_tests, (first_fit_leaves_room g u good), (get_or_past rooms))

-- one number lowered
pub ceilings_lower : (g : Graph) (u : Usable) (rooms : List ℤ) (r : ℕ) (z : ℤ) → AreCeilings g u rooms → r < g.riders → multiplier_at (first_fit g u) r ≤ℤ z →
    IsModest z → AreCeilings g u (set rooms r z)
ceilings_lower g u rooms r z before low above modest = search (rules, length-set, set_all)

-- a list of costs has no large number
pub costs_modest : (g : Graph) (u : Usable) (costs : List ℤ) → HasLeastCosts g u costs → (r : ℕ) → IsModest (get_or costs r (pos 0))
costs_modest g u costs least r = search (rules, get_or_past)

-- what all come to is a ceiling of the value
pub ceiling_of_value : (g : Graph) (u : Usable) (costs rooms : List ℤ) (x y : ℤ) → IsGoodGraph g → HasLeastCosts g u costs → AreCeilings g u rooms
    → x ≡ int_sum_below (length costs) (λ r. get_or costs r (pos 0)) → y ≡ int_sum_below (length rooms) (λ r. get_or rooms r (pos 0)) →
    first_fit_value g u ≤ℤ (pos 1024 *ℤ x +ℤ y)
ceiling_of_value g u costs rooms x y good least ceilings is_x is_y =
    let value = first_fit_value_is g u good in
    let many : x ≡ int_sum_below g.vehicles (λ r. get_or costs r (pos 0)) = is_x ∙ ap (λ (n : ℕ). int_sum_below n (λ r. get_or costs r (pos 0))) least.sized in
    let cheapest : int_sum_below g.vehicles (λ r. get_or costs r (pos 0)) ≡ int_sum_below g.vehicles (least_cost g u) =
    int_sum_same g.vehicles (λ r. get_or costs r (pos 0)) (least_cost g u) least.value in
    let all : y ≡ int_sum_below g.riders (λ r. get_or rooms r (pos 0)) = is_y ∙ ap (λ (n : ℕ). int_sum_below n (λ r. get_or rooms r (pos 0))) ceilings.sized in
    let over = int_sum_le g.riders (multiplier_at (first_fit g u)) (λ r. get_or rooms r (pos 0))
    (λ r low. subst (λ (w : ℤ). multiplier_at (first_fit g u) r ≤ℤ w) (get_or_default rooms r (pos (1024 * g.penalty)) (pos 0)
    (omega (arith, low, ceilings.sized))) (ceilings.above r)) in
    omega (arith, ints, value, many, cheapest, all, over)
