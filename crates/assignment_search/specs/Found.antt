use Rattle.std.specs.Prelude.{◌≡◌, ℕ, ◌+◌, ◌*◌, ◌<◌, ◌≤◌, List, length, slice_set, ℤ, pos, ◌≤ℤ◌, ◌<ℤ◌, Option, All}
use Rattle.plan_rules.specs.Graph.{Graph}
use Rattle.plan_rules.specs.Plan.{IsLawful, cost_of}
use Rattle.plan_rules.specs.Greedy.{IsGreedy}
use Rattle.plan_rules.specs.Multipliers.{Usable, leaf_value, first_fit_value}
use Rattle.plan_rules.specs.Tree.{every_row, SearchTree, IsTreeOf, IsTreeOfValue, places_within, rounded_up}
use Rattle.assignment_search.specs.Growth.{choice_count}
use Rattle.assignment_search.specs.declared.found.Found.{Found}
use Rattle.plan_rules.specs.declared.node.Node.{Node}
use Rattle.plan_rules.specs.declared.node.Node.TheVariants.{Branch, Leaf, Dead}

-- a branch stands only where the first-fit value, in seconds, is at most the bound, below the held plan's cost,
-- and below the greedy plan's where that is lawful
pub record IsJustified (g : Graph) (bound : ℤ) (usable : Usable) : Type 0 where
  pub at_most : rounded_up (first_fit_value g usable) ≤ℤ bound
  pub below_held : rounded_up (first_fit_value g usable) <ℤ pos (cost_of g g.held)
  pub below_greedy : (chosen : List (Option ℕ)) → IsGreedy g chosen → IsLawful g chosen → rounded_up (first_fit_value g usable) <ℤ pos (cost_of g chosen)

-- a leaf's value is at least that of the first-fit multipliers over the rows usable at it, and a branch was worth making
abbrev pub IsFairNode : Graph → ℤ → Usable → Node → Type 0
IsFairNode g bound usable (Leaf ms) = first_fit_value g usable ≤ℤ leaf_value g usable ms
IsFairNode g bound usable (Branch v k) = IsJustified g bound usable
IsFairNode g bound usable Dead = Unit {0}

-- the nodes are a sound tree of this value, within the budget, and no lawful plan costs less than the value
pub record ShowsBound (g : Graph) (budget : ℕ) (bound : ℤ) (nodes : List Node) : Type 0 where
  pub few : length nodes ≤ budget
  pub tree : IsTreeOfValue g nodes bound
  pub least : (chosen : List (Option ℕ)) → IsLawful g chosen → bound ≤ℤ pos (cost_of g chosen)

-- the bound is the plan's cost unless the budget was spent, and no worse than the first-fit multipliers show at once
pub record IsClose (g : Graph) (budget cost : ℕ) (bound : ℤ) (nodes : List Node) : Type 0 where
  pub root : rounded_up (first_fit_value g every_row) ≤ℤ bound
  pub limited : bound <ℤ pos cost → budget < length nodes + 2
  pub closed : 2 * choice_count g every_row ≤ budget → bound ≡ pos cost

-- the nodes are a sound tree, where each leaf is at least as good as the first-fit multipliers are there, and each branch was
-- worth making
pub record IsFair (g : Graph) (bound : ℤ) (nodes : List Node) : Type 0 where
  pub tree : SearchTree
  pub shape : IsTreeOf g nodes tree
  pub fair : All (λ p. IsFairNode g bound p.usable p.node) (places_within g every_row tree)

-- the plan costs no more than the held one, the greedy one where that is lawful, and those that differ in one row
pub record IsBestNear (g : Graph) (chosen : List (Option ℕ)) : Type 0 where
  pub held : cost_of g chosen ≤ cost_of g g.held
  pub greedy : (other : List (Option ℕ)) → IsGreedy g other → IsLawful g other → cost_of g chosen ≤ cost_of g other
  pub change : (v : ℕ) (other : Option ℕ) → IsLawful g (slice_set chosen v other) → cost_of g chosen ≤ cost_of g (slice_set chosen v other)

-- what a search finds with this budget: a lawful plan, and a bound of which each point holds
pub record IsSearchAnswer (g : Graph) (budget : ℕ) (found : Found) : Type 0 where
  pub lawful : IsLawful g found.plan
  pub costs : found.cost ≡ cost_of g found.plan
  pub shown : ShowsBound g budget found.bound found.tree
  pub close : IsClose g budget found.cost found.bound found.tree
  pub fair : IsFair g found.bound found.tree
  pub best : IsBestNear g found.plan
