use Rattle.std.proofs.Common.{ℕ, sym, subst}
use Rattle.assignment_search.proofs.Common.{cost_of, IsTreeSoFar}
use Rattle.assignment_search.proofs.AnswerLemmas.{so_far_start}
use Rattle.assignment_search.proofs.branch_and_bound.branch.Goals as goal

pub grow-found-requires-clause-tree : goal.grow-found-requires-clause-tree
grow-found-requires-clause-tree c =
    let g = c.args.graph.now in
    let root = c.args.root in
    let tree = c.in_ok-tree.tree in
    let made = c.in_ok-tree.ensures in
    subst (λ (n : ℕ). IsTreeSoFar g n (cost_of g c.args.first) tree.nodes.items tree.values.items) (sym made.budget)
    (so_far_start g c.args.budget (cost_of g c.args.first) root.multipliers root.value tree.nodes.items tree.values.items c.requires.budget c.requires.leaf
    made.nodes made.values)
