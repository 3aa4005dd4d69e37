use Rattle.std.proofs.Common.{◌≡◌, ◌+◌, ◌*◌, ◌<◌, List, Option, Some, None, ℤ, pos, ◌-ℤ◌, length, get_or, set, sym, ap, ◌∙◌, subst, arith, to_z, of_z}
use Rattle.bound_checker.proofs.Common.{w128, with_items_is, lesser, row_at, row_vehicle, usable_of, multiplier_sum, reduced_cost, TripRow, row_read, AreLeast}
use Rattle.std.proofs.lemmas.Int.{to_z-of_z}
use Rattle.std.proofs.lemmas.List.{length-set}
use Rattle.bound_checker.proofs.LeafLemmas.{lesser_small, row_passed, row_taken}
use Rattle.bound_checker.proofs.leaf.least_costs.Goals.{then-allowed-place, else-allowed-place}
use Rattle.bound_checker.proofs.leaf.least_costs.Goals as goal

pub loop-place-preserved : goal.loop-place-preserved
loop-place-preserved c =
    let g = c.args.graph.now in
    let u = usable_of c.args.allowed.now in
    let ms = c.args.multipliers.now in
    let k = c.loop-place.place in
    let old : List (Option ℤ) = c.loop-place.least.items in
    let rows : List TripRow = c.rows-rows.result.now in
    let within : k < length g.rows = omega (arith, c.loop-place-test.true, ap length c.rows-rows.ensures.value) in
    elim c.if-allowed-place.branch [
      | then-allowed-place w ↦
          let whose : get_or rows k w.index-rows-place.result ≡ row_at g k = sym w.index-rows-place.is ∙
          row_read g rows k w.index-rows-place.result c.rows-rows.ensures.value within w.index-rows-place.is in
          let row : w.index-rows-place-then-allowed-place.result ≡ row_at g k = row_read g rows k w.index-rows-place-then-allowed-place.result
          c.rows-rows.ensures.value within w.index-rows-place-then-allowed-place.is in
          let cost : w.cost_left.result ≡ reduced_cost g ms k = w.cost_left.ensures.value ∙ ap
          (λ (r : TripRow). pos (1024 * r.cost) -ℤ multiplier_sum ms r.riders.items) row in
          let passed : to_z w128 (of_z w128 w.cost_left.result) ≡ w.cost_left.result = to_z-of_z w128 w.cost_left.result
          (record { sfits = w.cost_left.type_inv }) in
          let own = row_vehicle g k in
          let new : w.lower.new.least ≡ set old own (Some (lesser (get_or old own None) w.cost_left.result)) =
          w.lower.ensures
          ∙ ap (λ (xs : List (Option ℤ)). set xs (get_or rows k w.index-rows-place.result).vehicle
          (Some (lesser (get_or xs (get_or rows k w.index-rows-place.result).vehicle None) (to_z w128 (of_z w128 w.cost_left.result)))))
          w.deref_mut.ensures.value
          ∙ ap (λ (r : TripRow). set old r.vehicle (Some (lesser (get_or old r.vehicle None) (to_z w128 (of_z w128 w.cost_left.result))))) whose
          ∙ ap (λ (z : ℤ). set old own (Some (lesser (get_or old own None) z))) passed in
          let long : length w.lower.new.least ≡ length old = ap length new ∙ length-set old own (Some (lesser (get_or old own None) w.cost_left.result)) in
          let items = with_items_is c.loop-place.least w.lower.new.least (omega (arith, long, c.loop-place.least.ok.0)) in
          let is : c.if-allowed-place.least.items ≡ set old own (Some (lesser (get_or old own None) w.cost_left.result)) = ap (λ v. v.items) w.least-is ∙
          items ∙ new in
          let small = lesser_small (get_or old own None) w.cost_left.result (c.loop-place.invariant.small own) w.cost_left.ensures.small in
          subst (λ (xs : List (Option ℤ)). AreLeast g u ms (k + 1) xs) (sym is)
          (row_taken g u ms k old c.loop-place.invariant w.cost_left.result (c.rows-rows.ensures.good.rows k within).vehicle w.if-allowed-place.true cost small)
      | else-allowed-place w ↦
          let is : c.if-allowed-place.least.items ≡ old = ap (λ v. v.items) w.least-is in
          subst (λ (xs : List (Option ℤ)). AreLeast g u ms (k + 1) xs) (sym is) (row_passed g u ms k old c.loop-place.invariant w.if-allowed-place.false)
    ]
