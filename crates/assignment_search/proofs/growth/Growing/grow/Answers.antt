use Rattle.std.proofs.Common.{◌≡◌, ◌+◌, ◌++◌, ℕ, suc, ℤ, List, [], ◌∷◌, length, take, drop, get_or, sym, ap, ◌∙◌, subst, arith}
use Rattle.assignment_search.proofs.Common.{Node, Branch, AreOpen, leaf_sum}
use Rattle.std.specs.List.{insert}
use Rattle.std.specs.BinaryHeap.{heap_items}
use Rattle.assignment_search.specs.declared.growth.Growing.{Growing}
use Rattle.assignment_search.proofs.EditLemmas.{edit_keep}
use Rattle.assignment_search.proofs.OpenLemmas.{open_parted, top_inside}
use Rattle.assignment_search.proofs.growth.Growing.grow.Goals as goal

pub returns-clause-leaves : goal.returns-clause-leaves
returns-clause-leaves c =
    let old = c.args.self.now in
    let nodes : List Node = old.nodes.items in
    let values : List ℤ = old.values.items in
    let are = c.requires.leaves in
    let opens = c.in_ok-open_ends.ensures in
    let x = opens.leaf in
    let p = c.args.place in
    let numbers : List ℕ = old.numbers.items in
    let ends = c.args.ends in
    let n = c.len-number.result in
    let long : n ≡ length numbers = omega (arith, c.len-number.ensures, old.numbers.ok) in
    let items : c.insert-2.new.self.items ≡ take p numbers ++ (get_or numbers p 0 ∷ length numbers ∷ (length numbers + 1) ∷ drop (suc p) numbers) =
    c.in_ok-insert-2.ensures.items ∙ ap (λ (xs : List ℕ). insert xs (p + 2) (n + 1)) c.in_ok-insert.ensures.items ∙
    edit_keep numbers p n (n + 1) 0 c.requires.first.within
    ∙ ap (λ (m : ℕ). take p numbers ++ (get_or numbers p 0 ∷ m ∷ (m + 1) ∷ drop (suc p) numbers)) long in
    let new : Growing = record {
      budget = old.budget;
      nodes = c.put_ends.new.nodes;
      values = c.put_ends.new.values;
      numbers = c.insert-2.new.self;
      heap =
          c.open_ends.new.heap;
    } in
    let grown = c.in_ok-put_ends.ensures in
    subst (λ (ns : List Node). AreOpen new ns c.put_ends.new.values.items) (sym grown.nodes)
    (subst (λ (zs : List ℤ). AreOpen new (take p nodes ++ (Branch ends.vehicle ends.row ∷ ends.first.node ∷ ends.second.node ∷ drop (suc p) nodes)) zs)
    (sym grown.values)
    (open_parted old new nodes values p ends.vehicle ends.row ends.first.node ends.second.node ends.first.value ends.second.value x opens.rest are
    (omega (arith, c.requires.first.within, are.sized))
    (c.requires.first.number x opens.top)
    (top_inside x (heap_items old.heap) (omega (arith, c.requires.first.some, old.heap.data.ok)) opens.top)
    opens.permutation
    items
    (opens.order are.ordered)
    (λ f.
    let one = ap (λ (m : ℕ). leaf_sum f (m ∷ []) (ends.first.node ∷ []) (ends.first.value ∷ [])) long in
    let two = ap (λ (m : ℕ). leaf_sum f ((m + 1) ∷ []) (ends.second.node ∷ []) (ends.second.value ∷ [])) long in
    omega (arith, opens.sum f, one, two))))
