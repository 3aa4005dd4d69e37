use Rattle.std.proofs.Common.{◌≡◌, ◌++◌, ℕ, ℤ, List, [], ◌∷◌, sym, ap, ◌∙◌, subst, arith}
use Rattle.assignment_search.proofs.Common.{Reverse, sum_by_pushed, Node, Leaf, OpenLeaf, AreOpen}
use Rattle.std.specs.List.{sum_by}
use Rattle.std.specs.BinaryHeap.{heap_items}
use Rattle.assignment_search.specs.declared.growth.Growing.{Growing}
use Rattle.assignment_search.proofs.AnswerLemmas.{small_back}
use Rattle.assignment_search.proofs.OpenLemmas.{open_start}
use Rattle.assignment_search.proofs.growth.Growing.new.Goals as goal

pub returns-clause-values : goal.returns-clause-values
returns-clause-values c = c.in_ok-push-3.ensures.items ∙ (λ i. c.new-values.ensures.items i ++ small_back c.args.root.value c.requires i ∷ [])

pub returns-clause-leaves : goal.returns-clause-leaves
returns-clause-leaves c =
    let ms : List ℤ = c.args.root.multipliers in
    let z : ℤ = c.args.root.value in
    let tree : Growing = record {
      budget = c.args.budget;
      nodes = c.push-4.new.self;
      values = c.push-3.new.self;
      numbers = c.push-2.new.self;
      heap =
          c.push.new.self;
    } in
    subst (λ (ns : List Node). AreOpen tree ns c.push-3.new.self.items)
    (sym (c.in_ok-push-4.ensures.items ∙ ap (λ (xs : List Node). xs ++ Leaf ms ∷ []) c.new-nodes.ensures.items))
    (subst (λ (zs : List ℤ). AreOpen tree (Leaf ms ∷ []) zs) (sym (returns-clause-values c))
    (open_start tree ms z
    (c.in_ok-push-2.ensures.items ∙ ap (λ (xs : List ℕ). xs ++ 0 ∷ []) c.new-numbers.ensures.items)
    (c.in_ok-push.ensures.heap_order c.new-heap.ensures.heap_order)
    (λ f.
    let w : Reverse OpenLeaf → ℕ = λ leaf. f leaf.0.number leaf.0.value in
    let pushed = sum_by_pushed w _ _ _ c.in_ok-push.ensures.permutation in
    let none : sum_by w (heap_items c.new-heap.result) ≡ 0 = ap (λ (xs : List (Reverse OpenLeaf)). sum_by w xs) c.new-heap.ensures.items in
    let back = ap (λ (z : ℤ). f 0 z) (small_back z c.requires) in
    omega (arith, pushed, none, back))))
