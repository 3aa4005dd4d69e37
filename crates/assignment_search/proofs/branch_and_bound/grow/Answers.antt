use Rattle.std.proofs.Common.{ℕ, List, Option, length, refl, sym, ap, ◌∙◌, subst, arith}
use Rattle.assignment_search.proofs.Common.{w128, ints, Node, Branch, IsBestNear, IsNext, IsTreeSoFar}
use Rattle.std.proofs.lemmas.Int.{to_z-of_z}
use Rattle.assignment_search.proofs.EditLemmas.{edit_length}
use Rattle.assignment_search.proofs.AnswerLemmas.{so_far_leaf, so_far_raised, so_far_grow, lowest_small, answer_met, answer_full}
use Rattle.assignment_search.proofs.branch_and_bound.grow.Goals as goal

pub loop-plan-init : goal.loop-plan-init
loop-plan-init c =
    let tree = c.args.tree.now in
    let is = c.cost_of-limit.ensures in
    record {
      lawful = c.requires.lawful;
      costs = is;
      under = omega arith;
      held = omega (arith, is, c.requires.held);
      greedy = λ chosen lawful fair. omega (arith, is, c.requires.greedy chosen lawful fair);
      budget = refl;
      tree = subst (λ (n : ℕ). IsTreeSoFar c.args.graph.now tree.budget n tree.nodes.items tree.values.items) (sym is) c.requires.tree;
      leaves = c.requires.leaves;
    }

pub first-place-requires-clause-leaf : goal.first-place-requires-clause-leaf
first-place-requires-clause-leaf c = so_far_leaf c.args.graph.now c.args.tree.now.budget c.cost_of-limit.result c.loop-plan.tree.nodes.items
    c.loop-plan.tree.values.items c.requires.good c.loop-plan.invariant.tree

pub bound_at-bound-requires-clause-small : goal.bound_at-bound-requires-clause-small
bound_at-bound-requires-clause-small c =
    let t = c.loop-plan.invariant.tree in
    lowest_small c.args.graph.now t.low c.cost_of-limit.result c.loop-plan.tree.nodes.items c.loop-plan.tree.values.items c.first-place.result t.grown
    c.first-place.ensures.lowest

pub next-requires-clause-grown : goal.next-requires-clause-grown
next-requires-clause-grown c = (
  c.cost_of-limit.result,
  so_far_raised c.args.graph.now c.args.tree.now.budget c.cost_of-limit.result c.loop-plan.tree.nodes.items c.loop-plan.tree.values.items c.first-place.result
      c.loop-plan.invariant.tree c.first-place.ensures.lowest,
)

pub loop-plan-smaller-in-Continue-branch-3 : goal.loop-plan-smaller-in-Continue-branch-3
loop-plan-smaller-in-Continue-branch-3 c =
    let nodes : List Node = c.loop-plan.tree.nodes.items in
    let ends = c.in-Parted.ends in
    let p = c.first-place.result in
    let said = subst (IsNext c.args.graph.now nodes c.loop-plan.tree.values.items p c.loop-plan.limit c.loop-plan.tree.budget) c.in-Parted.is
    c.in_ok-ends.ensures in
    let size = ap (λ (xs : List Node). length xs) c.in_ok-grow-in-Parted.ensures.nodes ∙ edit_length nodes p (Branch ends.vehicle ends.row) ends.first.node
    ends.second.node c.first-place.ensures.lowest.within in
    omega (arith, size, said.1, c.loop-plan.invariant.budget)

pub loop-plan-preserved-in-Continue-branch-3 : goal.loop-plan-preserved-in-Continue-branch-3
loop-plan-preserved-in-Continue-branch-3 c =
    let inv = c.loop-plan.invariant in
    let old = c.loop-plan.tree in
    let new = c.grow.new.self in
    let p = c.first-place.result in
    let grown = c.in_ok-grow-in-Parted.ensures in
    let said = subst (IsNext c.args.graph.now old.nodes.items old.values.items p c.loop-plan.limit old.budget) c.in-Parted.is c.in_ok-ends.ensures in
    record {
      lawful = inv.lawful;
      costs = inv.costs;
      under = inv.under;
      held = inv.held;
      greedy = inv.greedy;
      budget = grown.budget ∙ inv.budget;
      tree = so_far_grow c.args.graph.now c.args.tree.now.budget c.cost_of-limit.result old.nodes.items old.values.items p c.in-Parted.ends new.nodes.items
          new.values.items inv.tree c.first-place.ensures.lowest (said.0) (omega (arith, said.1, inv.budget)) (omega (arith, ints, inv.under, said.2))
          grown.nodes grown.values;
      leaves = grown.leaves;
    }

pub returns-in-Fixed : goal.returns-in-Fixed
returns-in-Fixed c =
    let inv = c.loop-plan.invariant in
    let nodes = c.loop-plan.tree.nodes.items in
    let values = c.loop-plan.tree.values.items in
    let p = c.first-place.result in
    let fixed = subst (IsNext c.args.graph.now nodes values p c.loop-plan.limit c.loop-plan.tree.budget) c.in-Fixed.is c.in_ok-ends.ensures in
    let made = c.found_of-in-Fixed.ensures in
    answer_met c.args.graph.now c.args.tree.now.budget c.cost_of-limit.result p nodes values c.requires.good inv.tree c.first-place.ensures.lowest inv.held
    inv.greedy c.in-Fixed.best (fixed.0) c.found_of-in-Fixed.result made.plan made.cost
    (made.bound ∙ to_z-of_z w128 _ (record { sfits = c.bound_at-bound.type_inv }) ∙ c.bound_at-bound.ensures) made.tree (fixed.1)

pub returns-in-Met : goal.returns-in-Met
returns-in-Met c =
    let inv = c.loop-plan.invariant in
    let nodes = c.loop-plan.tree.nodes.items in
    let values = c.loop-plan.tree.values.items in
    let p = c.first-place.result in
    let reached = subst (IsNext c.args.graph.now nodes values p c.loop-plan.limit c.loop-plan.tree.budget) c.in-Met.is c.in_ok-ends.ensures in
    let made = c.found_of.ensures in
    answer_met c.args.graph.now c.args.tree.now.budget c.cost_of-limit.result p nodes values c.requires.good inv.tree c.first-place.ensures.lowest inv.held
    inv.greedy c.loop-plan.plan inv.lawful c.found_of.result made.plan made.cost
    (made.bound ∙ to_z-of_z w128 _ (record { sfits = c.bound_at-bound.type_inv }) ∙ c.bound_at-bound.ensures) made.tree
    (omega (arith, ints, inv.costs, reached))

pub returns-in-Full : goal.returns-in-Full
returns-in-Full c =
    let inv = c.loop-plan.invariant in
    let nodes = c.loop-plan.tree.nodes.items in
    let values = c.loop-plan.tree.values.items in
    let p = c.first-place.result in
    let best : List (Option ℕ) = c.in_ok-best-in-Full.best in
    let spent = subst (IsNext c.args.graph.now nodes values p c.loop-plan.limit c.loop-plan.tree.budget) c.in-Full.is c.in_ok-ends.ensures in
    let less = c.in_ok-best-in-Full.ensures.cost in
    let near : IsBestNear c.args.graph.now best = record {
      held = omega (arith, less, inv.costs, inv.under, inv.held);
      greedy = λ chosen is fair. omega (arith, less, inv.costs, inv.under, inv.greedy chosen is fair);
      change = c.in_ok-best-in-Full.ensures.best;
    } in
    let made = c.found_of-in-Full.ensures in
    answer_full c.args.graph.now c.args.tree.now.budget c.cost_of-limit.result p nodes values c.requires.good inv.tree c.first-place.ensures.lowest inv.held
    inv.greedy best c.in_ok-best-in-Full.ensures.lawful c.found_of-in-Full.result made.plan made.cost
    (made.bound ∙ to_z-of_z w128 _ (record { sfits = c.bound_at-bound.type_inv }) ∙ c.bound_at-bound.ensures) made.tree near
    (omega (arith, spent.0, inv.budget), omega (arith, spent.1, inv.budget))
