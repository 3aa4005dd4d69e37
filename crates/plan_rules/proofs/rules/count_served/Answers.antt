use Rattle.std.proofs.Common.{◌≡◌, ◌+◌, ℕ, arith, ap, ◌∙◌}
use Rattle.plan_rules.proofs.Common.{choice_at, sum_below, left_out, choice_size}
use Rattle.plan_rules.proofs.lemmas.ServedLemmas.{served_or_left}
use Rattle.plan_rules.proofs.rules.count_served.Goals as goal

pub returns : goal.returns
returns c =
    let g = c.args.graph.now in
    let chosen = c.args.chosen.now in
    let all : sum_below g.vehicles (λ v. choice_size g (choice_at chosen v)) + left_out g chosen ≡ g.riders =
    served_or_left g chosen c.rows-rows.ensures.good c.requires in
    let end : c.loop-choice.choice-index ≡ g.vehicles = omega (arith, c.loop-choice-test.false, c.loop-choice.auto.choice-index-end, c.requires.plan.sized) in
    let value : c.loop-choice.served ≡ sum_below g.vehicles (λ v. choice_size g (choice_at chosen v)) = c.loop-choice.invariant.value ∙
    ap (λ (n : ℕ). sum_below n (λ v. choice_size g (choice_at chosen v))) end in
    omega arith
