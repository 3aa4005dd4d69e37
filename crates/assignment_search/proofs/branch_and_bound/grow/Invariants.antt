use Rattle.std.proofs.Common.{◌≡◌, ℕ, ◌+◌, ◌-◌, ◌≤◌, List, Option, length}
use Rattle.assignment_search.proofs.Common.{IsLawful, cost_of, IsGreedy, IsTreeSoFar, AreOpen}
use Rattle.assignment_search.proofs.branch_and_bound.grow.Given as goal

abbrev pub invariant-loop-plan : goal.invariant-loop-plan
invariant-loop-plan l = record {
  lawful : IsLawful l.graph l.plan;
  costs : l.limit ≡ cost_of l.graph l.plan;
  under : l.limit ≤ l.initial.limit;
  held : l.initial.limit ≤ cost_of l.graph l.graph.held;
  greedy : (chosen : List (Option ℕ)) → IsGreedy l.graph chosen → IsLawful l.graph chosen → l.initial.limit ≤ cost_of l.graph chosen;
  budget : l.tree.budget ≡ l.initial.tree.budget;
  tree : IsTreeSoFar l.graph l.initial.tree.budget l.initial.limit l.tree.nodes.items l.tree.values.items;
  leaves : AreOpen l.tree l.tree.nodes.items l.tree.values.items;
}

abbrev pub decreases-loop-plan : goal.decreases-loop-plan
decreases-loop-plan l = l.limit + (l.initial.tree.budget - length l.tree.nodes.items)
