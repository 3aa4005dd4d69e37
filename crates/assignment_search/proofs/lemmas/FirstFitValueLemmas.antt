-- What the first-fit multipliers are worth: none is negative, and the cheapest usable rows stay the cheapest.
use Rattle.std.proofs.Common.{
  rules,
  ◌≡◌,
  ◌==◌,
  ◌&&◌,
  ℕ,
  zero,
  suc,
  ◌*◌,
  ◌<◌,
  ◌≤◌,
  Bool,
  true,
  false,
  List,
  [],
  ◌∷◌,
  ◌++◌,
  length,
  Option,
  Some,
  None,
  ℤ,
  pos,
  ◌+ℤ◌,
  ◌*ℤ◌,
  ◌≤ℤ◌,
  refl,
  sym,
  ap,
  ◌∙◌,
  subst,
  arith,
  eq-eqb,
  eqb-true,
  unwrap_or,
}
use Rattle.assignment_search.proofs.Common.{
  none-some,
  ints,
  int_min_is,
  and_from,
  and_parts,
  get_or_push,
  get_or_append_left,
  get_or_past,
  length_push,
  int_sum_below,
  least_below,
  lesser,
  Graph,
  riders_at,
  row_vehicle,
  cost_at,
  has_rider,
  IsGoodGraph,
  Usable,
  multiplier_at,
  multiplier_sum,
  is_usable_by,
  reduced_cost,
  vehicle_term,
  rider_term,
  leaf_value,
  least_cost,
  room_at,
  first_fit_of,
  first_fit_below,
  first_fit,
  first_fit_value,
  part,
  int_sum_same,
  int_sum_plus,
  int_sum_single,
  least_below_some,
  least_below_none,
  least_below_found,
  lesser-le_right,
  lesser-le_left,
  nat_tests,
  false_from_ne_true,
}
use Rattle.plan_rules.proofs.lemmas.DualityLemmas.{multiplier_sum_is}
use Rattle.assignment_search.proofs.lemmas.FirstFitLemmas.{length-first_fit}

-- no multiplier is negative or above the penalty, and none makes a usable row cheaper than its vehicle's cheapest one
pub record LeavesRoom (g : Graph) (u : Usable) (ms : List ℤ) : Type 0 where
  pub positive : (r : ℕ) → pos 0 ≤ℤ multiplier_at ms r
  pub most : (r : ℕ) → multiplier_at ms r ≤ℤ pos (1024 * g.penalty)
  pub room : (k : ℕ) → k < length g.rows → u k ≡ true → pos 0 ≤ℤ room_at g u ms k

-- ---- before the first rider

none_sum : (xs : List ℕ) → multiplier_sum [] xs ≡ pos 0
none_sum [] = refl
none_sum (x ∷ xs) = omega (arith, ints, none_sum xs)

least_cost_le : (g : Graph) (u : Usable) (k : ℕ) → k < length g.rows → u k ≡ true → least_cost g u (row_vehicle g k) ≤ℤ pos (cost_at g k)
least_cost_le g u k l may =
    let w = least_below_some (length g.rows) (is_usable_by g u (row_vehicle g k)) (λ j. pos (cost_at g j)) k l
    (and_from (row_vehicle g k == row_vehicle g k) (u k) (eq-eqb (row_vehicle g k) _ refl) may) in
    omega (arith, ints, ap (λ (o : Option ℤ). unwrap_or o (pos 0)) w.1, w.2)

room_first : (g : Graph) (u : Usable) → LeavesRoom g u []
room_first g u = grind (arith, nat_tests, (least_cost_le g u), none_sum)

-- ---- one more rider

pushed_at : (ms : List ℤ) (n : ℕ) (m : ℤ) (r : ℕ) → length ms ≡ n → multiplier_at (ms ++ m ∷ []) r ≡ multiplier_at ms r +ℤ part (n == r) m
pushed_at ms n m r long = search (rules, length_push, get_or_push, get_or_append_left, get_or_past)

part_of_sum : (a b : Bool) (x m : ℤ) → part a (x +ℤ part b m) ≡ part a x +ℤ part b (part a m)
part_of_sum a b x m = grind (arith, ints)

pushed_sum : (g : Graph) (k : ℕ) (ms : List ℤ) (n : ℕ) (m : ℤ) → IsGoodGraph g → k < length g.rows → n < g.riders → length ms ≡ n
    → multiplier_sum (ms ++ m ∷ []) (riders_at g k) ≡ multiplier_sum ms (riders_at g k) +ℤ part (has_rider g k n) m
pushed_sum g k ms n m good l low long =
    let row = good.rows k l in
    let more = ms ++ m ∷ [] in
    let before = multiplier_sum_is ms g.riders (riders_at g k) row.rising row.below in
    let after = multiplier_sum_is more g.riders (riders_at g k) row.rising row.below in
    let each = int_sum_same g.riders (λ r. part (has_rider g k r) (multiplier_at more r)) (λ r. part (has_rider g k r) (multiplier_at ms r) +ℤ part (n == r)
    (part (has_rider g k r) m))
    (λ r _. ap (part (has_rider g k r)) (pushed_at ms n m r long) ∙ part_of_sum (has_rider g k r) (n == r) (multiplier_at ms r) m) in
    let apart = int_sum_plus g.riders (λ r. part (has_rider g k r) (multiplier_at ms r)) (λ r. part (n == r) (part (has_rider g k r) m)) in
    let one = int_sum_single g.riders n (λ r. part (has_rider g k r) m) low in
    omega (arith, ints)

-- the next multiplier takes no more room than there is
next_positive : (o : Option ℤ) (p : ℕ) → ((y : ℤ) → o ≡ Some y → pos 0 ≤ℤ y) → pos 0 ≤ℤ lesser o (pos p)
next_positive None p h = omega (arith, ints)
next_positive (Some y) p h = omega (arith, ints, h y refl, int_min_is y (pos p))

next_fits : (o : Option ℤ) (w z : ℤ) → o ≡ Some w → lesser o z ≤ℤ w
next_fits o w z e = subst (λ (q : Option ℤ). lesser q z ≤ℤ w) (sym e) (lesser-le_left w z)

room_next : (g : Graph) (u : Usable) (n : ℕ) (ms : List ℤ) → IsGoodGraph g → n < g.riders → length ms ≡ n → LeavesRoom g u ms →
    LeavesRoom g u (ms ++ first_fit_of g u ms n ∷ [])
room_next g u n ms good low long before =
    let p : ℕ → Bool = λ k. u k && has_rider g k n in
    let least = least_below (length g.rows) p (room_at g u ms) in
    let m = first_fit_of g u ms n in
    let positive = next_positive least (1024 * g.penalty)
    (λ y e.
    let w = least_below_found (length g.rows) p (room_at g u ms) y e in
    let may = (and_parts (u (w.0)) (has_rider g (w.0) n) (w.2)).0 in
    subst (λ (z : ℤ). pos 0 ≤ℤ z) (sym (w.3)) (before.room (w.0) (w.1) may)) in
    let most : m ≤ℤ pos (1024 * g.penalty) = lesser-le_right least (pos (1024 * g.penalty)) in
    record {
      positive = λ r. grind (arith, ints, nat_tests, pushed_at ms n m r long, before.positive r, positive);
      most = λ r. grind (arith, ints, nat_tests, pushed_at ms n m r long, before.most r, most, get_or_past ms r (pos 0), long);
      room = λ k l may. roomy positive k l may (has_rider g k n) refl;
    }
  where
    roomy : pos 0 ≤ℤ first_fit_of g u ms n → (k : ℕ) → k < length g.rows → u k ≡ true → (b : Bool) → has_rider g k n ≡ b →
        pos 0 ≤ℤ room_at g u (ms ++ first_fit_of g u ms n ∷ []) k
    roomy positive k l may true e =
        let m = first_fit_of g u ms n in
        let sum = pushed_sum g k ms n m good l low long ∙ ap (λ (c : Bool). multiplier_sum ms (riders_at g k) +ℤ part c m) e in
        let w = least_below_some (length g.rows) (λ j. u j && has_rider g j n) (room_at g u ms) k l (and_from (u k) (has_rider g k n) may e) in
        let fits : m ≤ℤ w.0 = next_fits (least_below (length g.rows) (λ j. u j && has_rider g j n) (room_at g u ms)) (w.0) (pos (1024 * g.penalty)) (w.1) in
        omega (arith, ints, sum, fits, w.2)
    roomy positive k l may false e =
        let m = first_fit_of g u ms n in
        let sum = pushed_sum g k ms n m good l low long ∙ ap (λ (c : Bool). multiplier_sum ms (riders_at g k) +ℤ part c m) e in
        omega (arith, ints, sum, before.room k l may)

room_below : (g : Graph) (u : Usable) (n : ℕ) → IsGoodGraph g → n ≤ g.riders → LeavesRoom g u (first_fit_below g u n)
unfolding first_fit_below
room_below g u zero good low = room_first g u
room_below g u (suc n) good low = search (rules, room_next, length-first_fit, (room_below g u n good))

pub first_fit_leaves_room : (g : Graph) (u : Usable) → IsGoodGraph g → LeavesRoom g u (first_fit g u)
first_fit_leaves_room g u good = room_below g u g.riders good (omega arith)

-- ---- the value

pub positive_sum : (ms : List ℤ) (xs : List ℕ) → ((r : ℕ) → pos 0 ≤ℤ multiplier_at ms r) → pos 0 ≤ℤ multiplier_sum ms xs
positive_sum ms [] h = omega (arith, ints)
positive_sum ms (x ∷ xs) h = omega (arith, ints, h x, positive_sum ms xs h)

-- a usable row costs at least what its vehicle's cheapest one does, with the multipliers too
reduced_ge : (g : Graph) (u : Usable) (ms : List ℤ) (k : ℕ) → LeavesRoom g u ms → k < length g.rows → u k ≡ true →
    (pos 1024 *ℤ least_cost g u (row_vehicle g k)) ≤ℤ reduced_cost g ms k
reduced_ge g u ms k roomy l may = omega (arith, ints, roomy.room k l may)

-- the cheapest one costs no more
reduced_le : (g : Graph) (ms : List ℤ) (k : ℕ) → ((r : ℕ) → pos 0 ≤ℤ multiplier_at ms r) → reduced_cost g ms k ≤ℤ pos (1024 * cost_at g k)
reduced_le g ms k h = omega (arith, ints, positive_sum ms (riders_at g k) h)

vehicle_term_is : (g : Graph) (u : Usable) (ms : List ℤ) (v : ℕ) → LeavesRoom g u ms → vehicle_term g u ms v ≡ pos 1024 *ℤ least_cost g u v
vehicle_term_is g u ms v roomy = by_least (least_below (length g.rows) (is_usable_by g u v) (λ k. pos (cost_at g k))) refl
  where
    unfit : least_below (length g.rows) (is_usable_by g u v) (λ k. pos (cost_at g k)) ≡ None → (k : ℕ) → k < length g.rows → is_usable_by g u v k ≡ false
    unfit none k l = false_from_ne_true (is_usable_by g u v k) (λ e. let w = least_below_some (length g.rows) (is_usable_by g u v) (λ j. pos (cost_at g j)) k l
        e in none-some (w.0) (sym none ∙ w.1))

    by_least : (o : Option ℤ) → least_below (length g.rows) (is_usable_by g u v) (λ k. pos (cost_at g k)) ≡ o →
        vehicle_term g u ms v ≡ pos 1024 *ℤ least_cost g u v
    by_least None e =
        let none = least_below_none (length g.rows) (is_usable_by g u v) (reduced_cost g ms) (unfit e) in
        omega (arith, ints, ap (λ (o : Option ℤ). unwrap_or o (pos 0)) none, ap (λ (o : Option ℤ). unwrap_or o (pos 0)) e)
    by_least (Some y) e =
        let cheapest = least_below_found (length g.rows) (is_usable_by g u v) (λ k. pos (cost_at g k)) y e in
        let w = least_below_some (length g.rows) (is_usable_by g u v) (reduced_cost g ms) (cheapest.0) (cheapest.1) (cheapest.2) in
        let best = least_below_found (length g.rows) (is_usable_by g u v) (reduced_cost g ms) (w.0) (w.1) in
        let parts = and_parts (row_vehicle g (best.0) == v) (u (best.0)) (best.2) in
        let same = ap (least_cost g u) (eqb-true (row_vehicle g (best.0)) v (parts.0)) in
        let above = reduced_ge g u ms (best.0) roomy (best.1) (parts.1) in
        let top = reduced_le g ms (cheapest.0) roomy.positive in
        omega (
          arith,
          ints,
          ap (λ (o : Option ℤ). unwrap_or o (pos 0)) e,
          cheapest.3,
          w.2,
          top,
          same,
          above,
          best.3,
          ap (λ (o : Option ℤ). unwrap_or o (pos 0))
              w.1,
        )

pub rider_term_is : (g : Graph) (ms : List ℤ) (r : ℕ) → multiplier_at ms r ≤ℤ pos (1024 * g.penalty) → rider_term g ms r ≡ multiplier_at ms r
rider_term_is g ms r most = grind (arith, ints, int_min_is (multiplier_at ms r) (pos (1024 * g.penalty)), most)

int_sum_scale : (n : ℕ) (f : ℕ → ℤ) → int_sum_below n (λ v. pos 1024 *ℤ f v) ≡ pos 1024 *ℤ int_sum_below n f
int_sum_scale zero f = refl
int_sum_scale (suc n) f = omega (arith, ints, int_sum_scale n f)

roomy_value : (g : Graph) (u : Usable) (ms : List ℤ) → LeavesRoom g u ms → leaf_value g u ms ≡ pos 1024 *ℤ int_sum_below g.vehicles (least_cost g u) +ℤ
    int_sum_below g.riders (multiplier_at ms)
unfolding leaf_value
roomy_value g u ms roomy =
    let vehicles = int_sum_same g.vehicles (vehicle_term g u ms) (λ v. pos 1024 *ℤ least_cost g u v) (λ v l. vehicle_term_is g u ms v roomy) in
    let scaled = int_sum_scale g.vehicles (least_cost g u) in
    let riders = int_sum_same g.riders (rider_term g ms) (multiplier_at ms) (λ r l. rider_term_is g ms r (roomy.most r)) in
    omega (arith, ints)

pub first_fit_value_is : (g : Graph) (u : Usable) → IsGoodGraph g → first_fit_value g u ≡ pos 1024 *ℤ int_sum_below g.vehicles (least_cost g u) +ℤ int_sum_below
    g.riders (multiplier_at (first_fit g u))
first_fit_value_is g u good = roomy_value g u (first_fit g u) (first_fit_leaves_room g u good)
