use Rattle.std.proofs.lemmas.Bool.Decides.{nat_tests}
use Rattle.std.proofs.Common.{rules, IsTrue, ◌≡◌, ℕ, List, map, sym, ap, ◌∙◌, arith}
use Rattle.report_audit.proofs.Common.{both_ways, rider_id, vehicle_at}
use Rattle.plan_rules.specs.declared.row.TripRow.{TripRow}
use Rattle.request_book.specs.declared.values.outcome.TripRowLine.{TripRowLine}
use Rattle.report_audit.proofs.lemmas.points.LateLemmas.{rightly_no}
use Rattle.report_audit.proofs.points.graphs.tells_graphs.Goals as goal

pub rv_lines-requires-clause-riders : goal.rv_lines-requires-clause-riders
rv_lines-requires-clause-riders c = λ k d l. (c.requires.edges_exact.right k d l).riders.within 0 0 (omega arith)

pub trip_row_lines-requires-clause-riders : goal.trip_row_lines-requires-clause-riders
trip_row_lines-requires-clause-riders c = rw c.rows.ensures.value (λ k d l. (c.requires.exact.right k d l).served.riders.within)

pub trip_row_lines-requires-clause-few : goal.trip_row_lines-requires-clause-few
trip_row_lines-requires-clause-few c = rw c.rows.ensures.value
    (λ k d l. let size = (c.requires.exact.right k d l).served.size in let most = c.args.graphs.now.instance.now.settings.now.in_range.trip_range.1 in omega
    arith)

pub returns-then-not-are_same_pairs : goal.returns-then-not-are_same_pairs
returns-then-not-are_same_pairs c =
    let settled = c.args.graphs.now.instance.now.settled.now in rightly_no (λ holds.
    both_ways _ c.if-not-are_same_pairs.true (c.are_same_pairs.ensures.1
    (c.deref-3.ensures.value ∙ c.in_ok-rr_lines.ensures ∙ ap (λ (pairs : List (ℕ × ℕ)). map
    (λ (pair : ℕ × ℕ). (rider_id settled pair.0, rider_id settled pair.1)) pairs) c.all.ensures
    ∙ sym holds.2 ∙ sym c.as_slice-3.ensures)))

pub returns : goal.returns
returns c =
    let settled = c.args.graphs.now.instance.now.settled.now in
    let line : TripRow → TripRowLine = λ row. record {
      vehicle = (vehicle_at settled row.vehicle).id;
      riders =
          record { items = map (rider_id settled) row.riders.items };
      cost = row.cost;
    } in
    let told : c.deref-4.result.now ≡ map line c.args.graphs.now.graph.now.rows =
    c.deref-4.ensures.value ∙ c.in_ok-rows.ensures ∙ ap (λ (rows : List TripRow). map line rows) c.rows.ensures.value in
    let first : IsTrue c.are_same_riders.result = first_of (search rules, grind (arith, nat_tests)) in
    let second : IsTrue c.are_same_edges.result = first_of (search rules, grind (arith, nat_tests)) in
    let third : IsTrue c.are_same_pairs.result = first_of (search rules, grind (arith, nat_tests)) in (
      λ yes. (
        sym c.as_slice.ensures ∙ sym (c.are_same_riders.ensures.0 first) ∙ c.deref.ensures.value ∙ c.in_ok-lapsed_ids.ensures,
        sym c.as_slice-2.ensures ∙ sym (c.are_same_edges.ensures.0 second) ∙ c.deref-2.ensures.value ∙ c.in_ok-rv_lines.ensures,
        sym c.as_slice-3.ensures ∙ sym (c.are_same_pairs.ensures.0 third) ∙ c.deref-3.ensures.value ∙ c.in_ok-rr_lines.ensures
            ∙ ap (λ (pairs : List (ℕ × ℕ)). map (λ (pair : ℕ × ℕ). (rider_id settled pair.0, rider_id settled pair.1)) pairs) c.all.ensures,
        sym c.as_slice-4.ensures ∙ sym (c.are_same_rows.ensures.0 yes) ∙ told,
      ),
      λ holds. c.are_same_rows.ensures.1 (told ∙ sym holds.3 ∙ sym c.as_slice-4.ensures),
    )
