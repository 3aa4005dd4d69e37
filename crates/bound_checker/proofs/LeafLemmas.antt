-- The least costs of vehicles, row by row.
use Rattle.std.proofs.Common.{
  ◌≡◌,
  ◌==◌,
  ℕ,
  ◌+◌,
  ◌<◌,
  true,
  false,
  List,
  length,
  get_or,
  set,
  Option,
  Some,
  None,
  IfSome,
  ℤ,
  pos,
  negsuc,
  SFits,
  refl,
  sym,
  ap,
  ◌∙◌,
  subst,
  ⊎_elim,
  arith,
  ne_eqb,
  unwrap_or,
}
use Rattle.bound_checker.proofs.Common.{
  w128,
  ints,
  int_min_is,
  cases_eq,
  and_left,
  cond-false,
  int_sum_below,
  least_below,
  lesser,
  Graph,
  row_vehicle,
  Usable,
  is_usable_by,
  reduced_cost,
  vehicle_term,
  IsSmall,
  IsSmallSum,
  int_sum_same,
  least_below_more,
  AreLeast,
}
use Rattle.std.proofs.lemmas.List.{get_or-set_same, get_or-set_other, length-set}
use Rattle.plan_rules.proofs.lemmas.ValueLemmas.{least_taken, least_passed}

-- what is missing counts as 0, and is small too
pub small_or : (o : Option ℤ) → IfSome o IsSmall → IsSmall (unwrap_or o (pos 0))
small_or None small = record { low = omega arith; high = omega arith }
small_or (Some z) small = small

-- so is the lesser of two that are small
pub lesser_small : (o : Option ℤ) (z : ℤ) → IfSome o IsSmall → IsSmall z → IsSmall (lesser o z)
lesser_small None z one other = other
lesser_small (Some y) z one other =
    record { low = omega (arith, ints, int_min_is y z, one.low, other.low); high = omega (arith, ints, int_min_is y z, one.high, other.high) }

-- a leaf's value fits its type
pub small_fits : (z : ℤ) → IsSmallSum 1500 z → SFits w128 z
small_fits (pos n) small = record { sfits = omega (arith, ints, small.high) }
small_fits (negsuc n) small = record { sfits = omega (arith, ints, small.low) }

module _ (g : Graph) (usable : Usable) (ms : List ℤ) (n : ℕ) (least : List (Option ℤ)) (are : AreLeast g usable ms n least) where
  -- a row that may not be used changes nothing
  pub row_passed : usable n ≡ false → AreLeast g usable ms (n + 1) least
  row_passed out = record {
    sized = are.sized;
    each = λ v l. least_passed g usable (reduced_cost g ms) v n (get_or least v None) out (are.each v l);
    small = are.small;
  }

  -- one that may be used lowers what its vehicle has
  pub row_taken : (cost : ℤ) → row_vehicle g n < g.vehicles → usable n ≡ true → cost ≡ reduced_cost g ms n →
      IsSmall (lesser (get_or least (row_vehicle g n) None) cost)
      → AreLeast g usable ms (n + 1) (set least (row_vehicle g n) (Some (lesser (get_or least (row_vehicle g n) None) cost)))
  row_taken cost within may is small =
      let own : ℕ = row_vehicle g n in
      let less : Option ℤ = Some (lesser (get_or least own None) cost) in
      let inside : own < length least = omega (arith, are.sized, within) in
      let here : get_or (set least own less) own None ≡ less = get_or-set_same least own less None inside in
      record {
        sized = length-set least own less ∙ are.sized;
        each = λ v l.
            ⊎_elim
            (λ (same : v ≡ own).
            subst (λ (w : ℕ). get_or (set least own less) w None ≡ least_below (n + 1) (is_usable_by g usable w) (reduced_cost g ms)) (sym same)
            (here ∙ least_taken g usable (reduced_cost g ms) own n (get_or least own None) cost refl may (are.each own within) is))
            (λ (other : v ≡ own → ⊥).
            get_or-set_other least own v less None other ∙ are.each v l ∙ sym (another v (λ (e : own ≡ v). other (sym e))))
            (cases_eq v own);
        small = λ v.
            ⊎_elim
            (λ (same : v ≡ own). subst (λ (o : Option ℤ). IfSome o IsSmall) (sym (ap (λ (w : ℕ). get_or (set least own less) w None) same ∙ here)) small)
            (λ (other : v ≡ own → ⊥). subst (λ (o : Option ℤ). IfSome o IsSmall) (sym (get_or-set_other least own v less None other)) (are.small v))
            (cases_eq v own);
      }
    where
      another : (v : ℕ) → (row_vehicle g n ≡ v → ⊥) → least_below (n + 1) (is_usable_by g usable v) (reduced_cost g ms) ≡ least_below n
          (is_usable_by g usable v) (reduced_cost g ms)
      another v differs =
          least_below_more n (is_usable_by g usable v) (reduced_cost g ms)
          ∙ cond-false (is_usable_by g usable v n) (Some (lesser (least_below n (is_usable_by g usable v) (reduced_cost g ms)) (reduced_cost g ms n)))
          (least_below n (is_usable_by g usable v) (reduced_cost g ms))
          (and_left (row_vehicle g n == v) (usable n) (ne_eqb (row_vehicle g n) v differs))

-- the sum over the table of all rows is that of the vehicles' parts
pub vehicles_sum : (g : Graph) (usable : Usable) (ms : List ℤ) (least : List (Option ℤ)) → AreLeast g usable ms (length g.rows) least
    → int_sum_below (length least) (λ v. unwrap_or (get_or least v None) (pos 0)) ≡ int_sum_below g.vehicles (vehicle_term g usable ms)
vehicles_sum g usable ms least are =
    ap (λ (n : ℕ). int_sum_below n (λ v. unwrap_or (get_or least v None) (pos 0))) are.sized
    ∙ int_sum_same g.vehicles (λ v. unwrap_or (get_or least v None) (pos 0)) (vehicle_term g usable ms)
    (λ v l. ap (λ (o : Option ℤ). unwrap_or o (pos 0)) (are.each v l))
