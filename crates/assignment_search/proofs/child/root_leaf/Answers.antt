use Rattle.std.proofs.Common.{◌≡◌, Bool, true, false, List, ℤ, ◌≤ℤ◌, length, get_or, replicate, ap, ◌∙◌, subst, arith}
use Rattle.assignment_search.proofs.Common.{get_or-replicate, usable_of, first_fit_value, IsJudged}
use Rattle.assignment_search.proofs.AnswerLemmas.{root_is_good}
use Rattle.assignment_search.proofs.child.root_leaf.Goals as goal

pub returns-clause-leaf : goal.returns-clause-leaf
returns-clause-leaf c =
    let g = c.args.graph.now in
    let allowed : List Bool = c.in_ok-allowed.allowed.items in
    let ms : List ℤ = c.in_ok-best.best.multipliers in
    let value : ℤ = c.in_ok-best.best.value in
    let size = length c.rows.result.now in
    let all : allowed ≡ replicate size true = c.in_ok-allowed.ensures.items_if_clones_equal (λ y e. e) in
    let judged : IsJudged g (usable_of allowed) ms value = subst (λ (xs : List Bool). IsJudged g (usable_of xs) ms value) c.deref-3.ensures.value
    c.in_ok-best.ensures.judged in
    let fitted : first_fit_value g (usable_of allowed) ≤ℤ value = subst (λ (xs : List Bool). first_fit_value g (usable_of xs) ≤ℤ value) c.deref-3.ensures.value
    c.in_ok-best.ensures.first_fit in
    root_is_good g allowed ms value c.rows.ensures.good
    (λ k l. ap (λ (xs : List Bool). get_or xs k false) all ∙ get_or-replicate size k true false (omega (arith, l, ap length c.rows.ensures.value)))
    judged fitted
