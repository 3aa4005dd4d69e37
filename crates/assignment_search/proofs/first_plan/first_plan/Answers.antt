use Rattle.std.proofs.Common.{◌≡◌, ap, subst, arith}
use Rattle.assignment_search.proofs.Common.{IsLawful, cost_of}
use Rattle.assignment_search.proofs.lemmas.UniqueLemmas.{greedy_unique}
use Rattle.assignment_search.proofs.first_plan.first_plan.Goals as goal

pub returns-clause-greedy : goal.returns-clause-greedy
returns-clause-greedy c = λ chosen is lawful.
    let g = c.args.graph.now in
    let same : chosen ≡ c.in_ok-greedy.greedy = greedy_unique g chosen c.in_ok-greedy.greedy c.vehicle_count-count.ensures.good is c.in_ok-greedy.ensures in
    let costs = ap (cost_of g) same in
    let below = c.better_of.ensures.greedy (subst (IsLawful g) same lawful) in
    omega (arith, costs, below)
