use Rattle.std.proofs.Common.{◌≡◌, ◌+◌, ℤ, [], ◌∷◌, ap, arith}
use Rattle.assignment_search.proofs.Common.{Reverse, sum_by_pushed, Node, OpenLeaf, leaf_sum}
use Rattle.assignment_search.proofs.AnswerLemmas.{small_back}
use Rattle.assignment_search.proofs.growth.put.Goals as goal

pub returns-in_ok-push-clause-sum : goal.returns-in_ok-push-clause-sum
returns-in_ok-push-clause-sum c = λ f.
    let number = c.args.number in
    let value : ℤ = c.args.end.now.value in
    let pushed = sum_by_pushed (λ (leaf : Reverse OpenLeaf). f leaf.0.number leaf.0.value) _ _ _ c.in_ok-push.ensures.permutation in
    let here : leaf_sum f (number ∷ []) (c.args.end.now.node ∷ []) (value ∷ []) ≡ f number value + 0 =
    ap (λ (n : Node). leaf_sum f (number ∷ []) (n ∷ []) (value ∷ [])) c.in-Leaf.is in
    let back = ap (λ (z : ℤ). f number z) (small_back value c.args.end.now.small) in
    omega (arith, pushed, here, back)
