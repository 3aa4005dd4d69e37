use Rattle.std.proofs.Common.{◌≡◌, List, length, get_or, pos, ℤ, sym, ap, ◌∙◌, subst, arith, w64, to_z, of_z, ◌++◌, ◌∷◌, []}
use Rattle.assignment_search.proofs.Common.{usable_of, least_cost, IsCost}
use Rattle.std.proofs.lemmas.Int.{to_z-of_z}
use Rattle.assignment_search.proofs.lemmas.FirstFitLemmas.{push_all}
use Rattle.assignment_search.proofs.cheapest.least_costs.Goals as goal

pub loop-vehicle-preserved : goal.loop-vehicle-preserved
loop-vehicle-preserved c =
    let g = c.args.graph.now in
    let u = usable_of c.args.allowed.now in
    let n = c.loop-vehicle.vehicle in
    let xs = c.loop-vehicle.costs.items in
    let z = c.least_cost_by.result in
    let back : to_z w64 (of_z w64 z) ≡ z = to_z-of_z w64 z (record { sfits = c.least_cost_by.type_inv }) in
    let items : c.push.new.self.items ≡ xs ++ z ∷ [] = c.in_ok-push.ensures.items ∙ ap (λ (y : ℤ). xs ++ y ∷ []) back in
    let long : length xs ≡ n = omega (arith, c.loop-vehicle.invariant.len, c.loop-vehicle.costs.ok.0) in
    record {
      len = omega (arith, c.in_ok-push.ensures.len, c.loop-vehicle.invariant.len);
      value = λ v l. subst (λ (ys : List ℤ). get_or ys v (pos 0) ≡ least_cost g u v) (sym items)
          (push_all (λ w y. y ≡ least_cost g u w) xs n z long c.loop-vehicle.invariant.value c.least_cost_by.ensures.value v l);
      cost = λ v l. subst (λ (ys : List ℤ). IsCost (get_or ys v (pos 0))) (sym items) (push_all (λ w y. IsCost y) xs n z long c.loop-vehicle.invariant.cost
          c.least_cost_by.ensures.cost v l);
    }
