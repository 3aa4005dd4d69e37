-- The fewer rows are usable, the greater is a leaf's value.
use Rattle.std.proofs.Common.{
  ◌≡◌,
  ◌==◌,
  ◌||◌,
  not,
  ℕ,
  ◌<◌,
  Bool,
  true,
  false,
  List,
  length,
  Option,
  Some,
  None,
  ℤ,
  pos,
  ◌≤ℤ◌,
  refl,
  sym,
  ap,
  ◌∙◌,
  arith,
  eq-eqb,
  eqb-true,
  unwrap_or,
}
use Rattle.assignment_search.proofs.Common.{
  none-some,
  ints,
  and_from,
  and_parts,
  least_below,
  Graph,
  IsRowOf,
  row_vehicle,
  Usable,
  is_usable_by,
  reduced_cost,
  vehicle_term,
  leaf_value,
  MayUse,
  only_row,
  without_row,
  int_sum_le,
  least_below_some,
  least_below_none,
  least_below_found,
  HasUsable,
}

-- a vehicle that keeps a row has no lesser term
pub term_rises : (g : Graph) (u w : Usable) (ms : List ℤ) (v : ℕ) → ((k : ℕ) → w k ≡ true → u k ≡ true) → ((k : ℕ) → IsRowOf g v k → (j : ℕ) × MayUse g w v j) →
    vehicle_term g u ms v ≤ℤ vehicle_term g w ms v
term_rises g u w ms v fewer has = by_least (least_below (length g.rows) (is_usable_by g w v) (reduced_cost g ms)) refl
  where
    none_at : least_below (length g.rows) (is_usable_by g w v) (reduced_cost g ms) ≡ None → (k : ℕ) → k < length g.rows → (b : Bool) →
        is_usable_by g u v k ≡ b → is_usable_by g u v k ≡ false
    none_at e k l false is = is
    none_at e k l true is =
        let own : (row_vehicle g k == v) ≡ true = (and_parts (row_vehicle g k == v) (u k) is).0 in
        let j = has k (record { within = l; own = eqb-true (row_vehicle g k) v own }) in
        let may = j.1 in
        let passes : is_usable_by g w v (j.0) ≡ true = and_from (row_vehicle g (j.0) == v) (w (j.0)) (eq-eqb (row_vehicle g (j.0)) v may.row.own)
        may.usable_row in
        let some = least_below_some (length g.rows) (is_usable_by g w v) (reduced_cost g ms) (j.0) may.row.within passes in
        absurd (none-some (some.0) (sym e ∙ some.1))

    by_least : (o : Option ℤ) → least_below (length g.rows) (is_usable_by g w v) (reduced_cost g ms) ≡ o → vehicle_term g u ms v ≤ℤ unwrap_or o (pos 0)
    by_least None e =
        let none = least_below_none (length g.rows) (is_usable_by g u v) (reduced_cost g ms) (λ k l. none_at e k l (is_usable_by g u v k) refl) in
        omega (arith, ints, ap (λ (o : Option ℤ). unwrap_or o (pos 0)) none)
    by_least (Some z) e =
        let r = least_below_found (length g.rows) (is_usable_by g w v) (reduced_cost g ms) z e in
        let parts = and_parts (row_vehicle g (r.0) == v) (w (r.0)) (r.2) in
        let passes : is_usable_by g u v (r.0) ≡ true = and_from (row_vehicle g (r.0) == v) (u (r.0)) (parts.0) (fewer (r.0) (parts.1)) in
        let s = least_below_some (length g.rows) (is_usable_by g u v) (reduced_cost g ms) (r.0) (r.1) passes in
        omega (arith, ints, ap (λ (o : Option ℤ). unwrap_or o (pos 0)) s.1, s.2, r.3)

pub value_rises : (g : Graph) (u w : Usable) (ms : List ℤ) → ((k : ℕ) → w k ≡ true → u k ≡ true) → HasUsable g w → leaf_value g u ms ≤ℤ leaf_value g w ms
unfolding leaf_value
value_rises g u w ms fewer has =
    let vehicles = int_sum_le g.vehicles (vehicle_term g u ms) (vehicle_term g w ms) (λ v l. term_rises g u w ms v fewer (has v)) in
    omega (arith, ints)

pub only_fewer : (g : Graph) (u : Usable) (v k j : ℕ) → only_row g u v k j ≡ true → u j ≡ true
only_fewer g u v k j e = (and_parts (u j) (not (row_vehicle g j == v) || j == k) e).0

pub without_fewer : (u : Usable) (k j : ℕ) → without_row u k j ≡ true → u j ≡ true
without_fewer u k j e = (and_parts (u j) (not (j == k)) e).0
