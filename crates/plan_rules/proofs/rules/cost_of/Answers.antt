use Rattle.std.proofs.Common.{◌≡◌, ◌-◌, ◌*◌, ℕ, List, Option, ap, ap₂, ◌∙◌, arith}
use Rattle.plan_rules.proofs.Common.{choice_at, sum_below, cost_of, choice_cost, left_out}
use Rattle.plan_rules.proofs.rules.cost_of.Goals as goal

pub returns : goal.returns
unfolding cost_of
returns c =
    let g = c.args.graph.now in
    let rows : c.cost_of_rows.result ≡ sum_below g.vehicles (λ v. choice_cost g (choice_at c.args.plan.now v)) =
    c.cost_of_rows.ensures.value ∙ ap (λ (chosen : List (Option ℕ)). sum_below g.vehicles (λ v. choice_cost g (choice_at chosen v))) c.chosen-chosen.ensures in
    let same : left_out g c.chosen-chosen.result.now ≡ left_out g c.args.plan.now = ap (left_out g) c.chosen-chosen.ensures in
    let left : c.rider_count.result - c.count_served.result ≡ left_out g c.args.plan.now = omega (arith, c.count_served.ensures, c.rider_count.ensures.value) in
    let price : c.penalty.result ≡ g.penalty = c.penalty.ensures.value in
    let product : c.penalty.result * (c.rider_count.result - c.count_served.result) ≡ g.penalty * left_out g c.args.plan.now = ap₂ ◌*◌ price left in
    omega arith
