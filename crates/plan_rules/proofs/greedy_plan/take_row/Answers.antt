use Rattle.std.proofs.Common.{◌≡◌, ◌==◌, ◌||◌, ℕ, false, List, get_or, set, Some, None, sym, ap, ◌∙◌, subst, inr}
use Rattle.plan_rules.proofs.Common.{list_any, both_ways, row_at, riders_at, row_vehicle, choice_at, IsSelection, TripRow}
use Rattle.plan_rules.proofs.lemmas.GraphLemmas.{row_read, some_choice}
use Rattle.plan_rules.proofs.lemmas.GreedyLemmas.{selection_more, way_by_vehicle, way_by_rider}
use Rattle.plan_rules.proofs.greedy_plan.take_row.Goals.{else-is_free-via-then-is_free+else-not-is_any_marked, else-is_free-via-else-is_free}
use Rattle.plan_rules.proofs.greedy_plan.take_row.Goals as goal

pub returns-then-not-is_any_marked-clause-selection : goal.returns-then-not-is_any_marked-clause-selection
returns-then-not-is_any_marked-clause-selection c =
    let g = c.args.graph.now in
    let row = c.args.row in
    let x = c.index-rows-row.result in
    let read : x ≡ row_at g row = row_read g c.rows.result.now row x c.rows.ensures.value c.requires.row c.index-rows-row.is in
    let v : x.vehicle ≡ row_vehicle g row = ap (λ (r : TripRow). r.vehicle) read in
    let riders : c.as_slice-riders.result.now ≡ riders_at g row = c.as_slice-riders.ensures.value ∙ ap (λ (r : TripRow). r.riders.items) read in
    let free : choice_at c.args.chosen.now (row_vehicle g row) ≡ None = ap (choice_at c.args.chosen.now) (sym v) ∙ c.is_free.ensures.0 c.if-is_free.true in
    let unmarked : list_any (λ r. get_or c.args.served.now r false) (riders_at g row) ≡ false =
    ap (list_any (λ r. get_or c.args.served.now r false)) (sym riders) ∙ sym c.is_any_marked.ensures ∙ c.if-not-is_any_marked.true in
    subst (λ (w : ℕ). IsSelection g (set c.args.chosen.now w (Some row)) c.mark_riders.new.marks) (sym v)
    (selection_more g c.args.chosen.now c.args.served.now row c.rows.ensures.good c.requires.row c.requires.selection free unmarked c.mark_riders.new.marks
    c.mark_riders.ensures.len
    (λ r l. c.mark_riders.ensures.marked r l ∙ ap (λ (xs : List ℕ). get_or c.args.served.now r false || list_any (λ y. y == r) xs) riders))

pub returns-else-is_free-clause-settled : goal.returns-else-is_free-clause-settled
returns-else-is_free-clause-settled c =
    let g = c.args.graph.now in
    let row = c.args.row in
    let x = c.index-rows-row.result in
    let read : x ≡ row_at g row = row_read g c.rows.result.now row x c.rows.ensures.value c.requires.row c.index-rows-row.is in
    let v : x.vehicle ≡ row_vehicle g row = ap (λ (r : TripRow). r.vehicle) read in
    let riders : c.as_slice-riders.result.now ≡ riders_at g row = c.as_slice-riders.ensures.value ∙ ap (λ (r : TripRow). r.riders.items) read in
    elim c.else-is_free.branch [
      | else-is_free-via-then-is_free+else-not-is_any_marked w ↦
          inr (way_by_rider g c.args.chosen.now c.args.served.now row c.requires.selection
          (ap (list_any (λ r. get_or c.args.served.now r false)) (sym riders) ∙ sym w.is_any_marked.ensures ∙ w.if-not-is_any_marked.false))
      | else-is_free-via-else-is_free w ↦
          let taken = some_choice (choice_at c.args.chosen.now x.vehicle) (λ (e : choice_at c.args.chosen.now x.vehicle ≡ None). both_ways _ w.if-is_free.false
          (c.is_free.ensures.1 e)) in
          inr (way_by_vehicle g c.args.chosen.now c.args.served.now row (taken.0) c.rows.ensures.good c.requires.row c.requires.selection
          (ap (choice_at c.args.chosen.now) (sym v) ∙ taken.1))
    ]
