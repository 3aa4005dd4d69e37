-- The cheapest of all rows is the cheapest of the usable ones where it is one of them.
use Rattle.std.proofs.Common.{◌≡◌, ◌==◌, ℕ, ◌≤◌, true, List, length, get_or, ℤ, pos, Option, ap, subst, arith, eq-eqb, eqb-true, unwrap_or}
use Rattle.assignment_search.proofs.Common.{
  ints,
  and_from,
  and_parts,
  Graph,
  row_vehicle,
  cost_at,
  Usable,
  is_usable_by,
  least_cost,
  least_below_some,
  least_below_found,
  AreCheapest,
}
use Rattle.plan_rules.specs.Tree.{MayUse}

pub cheapest_is_least : (g : Graph) (u : Usable) (listed : List ℕ) (v k : ℕ) → AreCheapest g listed → k ≡ get_or listed v 0 → MayUse g u v k →
    pos (cost_at g k) ≡ least_cost g u v
cheapest_is_least g u listed v k cheapest here may =
    let f : ℕ → ℤ = λ j. pos (cost_at g j) in
    let passes : is_usable_by g u v k ≡ true = and_from (row_vehicle g k == v) (u k) (eq-eqb (row_vehicle g k) v may.row.own) may.usable_row in
    let s = least_below_some (length g.rows) (is_usable_by g u v) f k may.row.within passes in
    let r = least_below_found (length g.rows) (is_usable_by g u v) f (s.0) (s.1) in
    let own : row_vehicle g (r.0) ≡ v = eqb-true (row_vehicle g (r.0)) v ((and_parts (row_vehicle g (r.0) == v) (u (r.0)) (r.2)).0) in
    let dear = subst (λ (w : ℕ). cost_at g (get_or listed w 0) ≤ cost_at g (r.0)) own (cheapest (r.0) (r.1)) in
    omega (arith, ints, ap (cost_at g) here, dear, r.3, s.2, ap (λ (o : Option ℤ). unwrap_or o (pos 0)) s.1)
