use Rattle.std.proofs.Common.{◌≡◌, ℕ, Option, Some, IfSome, ℤ, pos, sym, ap, ◌∙◌, subst, arith, to_z, of_z, w64, get_or, unwrap_or}
use Rattle.assignment_search.proofs.Common.{
  least_below,
  row_at,
  cost_at,
  usable_of,
  is_usable_by,
  TripRow,
  row_read,
  row_between,
  IsCost,
  starts_rise,
  none_before,
  none_after,
  least_taken,
  least_passed,
}
use Rattle.std.proofs.lemmas.Int.{to_z-of_z}
use Rattle.assignment_search.proofs.cheapest.least_cost_of.Goals.{then-allowed-row, else-allowed-row}
use Rattle.assignment_search.proofs.cheapest.least_cost_of.Goals as goal

pub loop-row-init : goal.loop-row-init
loop-row-init c = record {
  value = sym (none_before c.args.graph.now (usable_of c.args.allowed.now) (λ k. pos (cost_at c.args.graph.now k)) c.args.vehicle c.first_row-row.result
      c.first_row-row.ensures);
  cost = tt;
}

pub loop-row-preserved : goal.loop-row-preserved
loop-row-preserved c =
    let g = c.args.graph.now in
    let u = usable_of c.args.allowed.now in
    let f : ℕ → ℤ = λ k. pos (cost_at g k) in
    let k = c.loop-row.row in
    let own = row_between g c.args.vehicle k c.first_row-row.result c.first_row-row-end.result c.first_row-row.ensures c.first_row-row-end.ensures (omega arith)
    (omega arith) in
    elim c.if-allowed-row.branch [
      | then-allowed-row w ↦
          let read : w.index-rows-row.result ≡ row_at g k = row_read g c.rows-rows.result.now k w.index-rows-row.result c.rows-rows.ensures.value own.within
          w.index-rows-row.is in
          let row = get_or c.rows-rows.result.now k w.index-rows-row.result in
          let value : pos row.cost ≡ f k = ap (λ (r : TripRow). pos r.cost) (sym w.index-rows-row.is ∙ read) in
          let back : to_z w64 (of_z w64 w.lesser_cost.result) ≡ w.lesser_cost.result = to_z-of_z w64 w.lesser_cost.result
          (record { sfits = w.lesser_cost.type_inv }) in
          record {
            value = w.least-is ∙ ap Some (back ∙ w.lesser_cost.ensures.value)
                ∙ least_taken g u f c.args.vehicle k c.loop-row.least (pos row.cost) own.own w.if-allowed-row.true c.loop-row.invariant.value value;
            cost = subst (λ (o : Option ℤ). IfSome o IsCost) (sym (w.least-is ∙ ap Some back)) w.lesser_cost.ensures.cost;
          }
      | else-allowed-row w ↦ record {
        value = w.least-is ∙ least_passed g u f c.args.vehicle k c.loop-row.least w.if-allowed-row.false c.loop-row.invariant.value;
        cost = subst (λ (o : Option ℤ). IfSome o IsCost) (sym w.least-is) c.loop-row.invariant.cost;
      }
    ]

pub returns-clause-value : goal.returns-clause-value
returns-clause-value c =
    let g = c.args.graph.now in
    let u = usable_of c.args.allowed.now in
    let f : ℕ → ℤ = λ k. pos (cost_at g k) in
    let v = c.args.vehicle in
    let rise = starts_rise g v c.first_row-row.result c.first_row-row-end.result c.first_row-row.ensures c.first_row-row-end.ensures in
    let ended : c.loop-row.row ≡ c.first_row-row-end.result = omega (arith, rise) in
    let back : to_z w64 (of_z w64 c.unwrap_or.result) ≡ c.unwrap_or.result = to_z-of_z w64 c.unwrap_or.result (record { sfits = c.unwrap_or.type_inv }) in
    back ∙ c.unwrap_or.ensures
    ∙ ap (λ (o : Option ℤ). unwrap_or o (pos 0))
    (c.loop-row.invariant.value ∙ ap (λ (j : ℕ). least_below j (is_usable_by g u v) f) ended ∙
    sym (none_after g u f v c.first_row-row-end.result c.first_row-row-end.ensures))
