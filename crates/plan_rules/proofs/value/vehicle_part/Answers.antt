use Rattle.std.proofs.Common.{◌≡◌, ℕ, Option, Some, IfSome, ℤ, pos, sym, ap, ◌∙◌, subst, arith, to_z, of_z, unwrap_or}
use Rattle.plan_rules.proofs.Common.{w128, least_below, lesser, row_at, usable_of, is_usable_by, reduced_cost, TripRow, IsSmall}
use Rattle.std.proofs.lemmas.Int.{to_z-of_z}
use Rattle.plan_rules.proofs.lemmas.GraphLemmas.{row_read, row_between}
use Rattle.plan_rules.specs.work.Size.{reduced_cost_of}
use Rattle.plan_rules.proofs.lemmas.ValueLemmas.{starts_rise, none_before, none_after, least_taken, least_passed}
use Rattle.plan_rules.proofs.value.vehicle_part.Goals.{then-allowed-row, else-allowed-row}
use Rattle.plan_rules.proofs.value.vehicle_part.Goals as goal

pub loop-row-init : goal.loop-row-init
loop-row-init c = record {
  value = sym (none_before c.args.graph.now (usable_of c.args.allowed.now) (reduced_cost c.args.graph.now c.args.multipliers.now) c.args.vehicle
      c.first_row-row.result c.first_row-row.ensures);
  small = tt;
}

pub loop-row-preserved : goal.loop-row-preserved
loop-row-preserved c =
    let g = c.args.graph.now in
    let u = usable_of c.args.allowed.now in
    let f = reduced_cost g c.args.multipliers.now in
    let k = c.loop-row.row in
    let own = row_between g c.args.vehicle k c.first_row-row.result c.first_row-row-end.result c.first_row-row.ensures c.first_row-row-end.ensures (omega arith)
    (omega arith) in
    elim c.if-allowed-row.branch [
      | then-allowed-row w ↦
          let read : w.index-rows-row.result ≡ row_at g k = row_read g c.rows-rows.result.now k w.index-rows-row.result c.rows-rows.ensures.value own.within
          w.index-rows-row.is in
          let value = w.reduced_cost.ensures.value ∙ ap (λ (r : TripRow). reduced_cost_of r c.args.multipliers.now) read in
          let back : to_z w128 (of_z w128 w.lesser_of.result) ≡ w.lesser_of.result = to_z-of_z w128 w.lesser_of.result
          (record { sfits = w.lesser_of.type_inv }) in
          let passed : to_z w128 (of_z w128 w.reduced_cost.result) ≡ w.reduced_cost.result = to_z-of_z w128 w.reduced_cost.result
          (record { sfits = w.reduced_cost.type_inv }) in
          record {
            value = w.least-is ∙ ap Some (back ∙ w.lesser_of.ensures.value ∙ ap (lesser c.loop-row.least) passed)
                ∙ least_taken g u f c.args.vehicle k c.loop-row.least w.reduced_cost.result own.own w.if-allowed-row.true c.loop-row.invariant.value value;
            small = subst (λ (o : Option ℤ). IfSome o IsSmall) (sym (w.least-is ∙ ap Some back)) w.lesser_of.ensures.small;
          }
      | else-allowed-row w ↦ record {
        value = w.least-is ∙ least_passed g u f c.args.vehicle k c.loop-row.least w.if-allowed-row.false c.loop-row.invariant.value;
        small = subst (λ (o : Option ℤ). IfSome o IsSmall) (sym w.least-is) c.loop-row.invariant.small;
      }
    ]

pub returns-clause-value : goal.returns-clause-value
returns-clause-value c =
    let g = c.args.graph.now in
    let u = usable_of c.args.allowed.now in
    let f = reduced_cost g c.args.multipliers.now in
    let v = c.args.vehicle in
    let rise = starts_rise g v c.first_row-row.result c.first_row-row-end.result c.first_row-row.ensures c.first_row-row-end.ensures in
    let ended : c.loop-row.row ≡ c.first_row-row-end.result = omega (arith, rise) in
    let back : to_z w128 (of_z w128 c.unwrap_or.result) ≡ c.unwrap_or.result = to_z-of_z w128 c.unwrap_or.result (record { sfits = c.unwrap_or.type_inv }) in
    back ∙ c.unwrap_or.ensures
    ∙ ap (λ (o : Option ℤ). unwrap_or o (pos 0))
    (c.loop-row.invariant.value ∙ ap (λ (j : ℕ). least_below j (is_usable_by g u v) f) ended ∙
    sym (none_after g u f v c.first_row-row-end.result c.first_row-row-end.ensures))
