use Rattle.std.proofs.Common.{◌≡◌, ◌≤◌, ℕ, false, true, sym, ap, ◌∙◌, arith}
use Rattle.report_audit.proofs.Common.{nat_tests, every_row, choice_count, product_below}
use Rattle.report_audit.proofs.lemmas.points.ChoiceLemmas.{row_choices, choices_all, choices_more}
use Rattle.report_audit.proofs.points.choices.is_closable.Goals as goal

pub returns-then-choices-budget : goal.returns-then-choices-budget
returns-then-choices-budget c =
    let g = c.args.graph.now in
    let low : c.loop-vehicle.vehicle ≤ g.vehicles = omega (arith, c.vehicle_count-vehicle-end.ensures.value) in
    let more = choices_more g c.loop-vehicle.vehicle low in
    let product = c.loop-vehicle.invariant.product in
    let over = c.if-choices-budget.true in
    let same = c.from-budget.ensures in
    (λ no. absurd (let f : false ≡ true = no in cc), λ few. absurd (omega (arith, more, product, over, same, few)))

pub returns : goal.returns
returns c =
    let g = c.args.graph.now in
    let end : c.loop-vehicle.vehicle ≡ g.vehicles = omega (arith, c.vehicle_count-vehicle-end.ensures.value) in
    let total : c.loop-vehicle.choices ≡ choice_count g every_row =
    c.loop-vehicle.invariant.product ∙ ap (λ (n : ℕ). product_below n (row_choices g)) end ∙ sym (choices_all g) in
    let same = c.from-budget.ensures in
    rw (total, same) (grind (arith, nat_tests))
