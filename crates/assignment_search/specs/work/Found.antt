use Rattle.std.specs.Prelude.{ℕ, ◌≤◌, List, ◌∷◌, length, ℤ, ◌≤ℤ◌, []}
use Rattle.plan_rules.specs.Graph.{Graph}
use Rattle.plan_rules.specs.Multipliers.{first_fit_value}
use Rattle.plan_rules.specs.Tree.{every_row, rounded_up}
use Rattle.assignment_search.specs.work.Growth.{IsGrown}
use Rattle.plan_rules.specs.declared.node.Node.{Node}

-- a tree that grows within this budget: it shows at least what the root's first-fit value does
pub record IsTreeSoFar (g : Graph) (budget limit : ℕ) (nodes : List Node) (values : List ℤ) : Type 0 where
  pub low : ℤ
  pub root : rounded_up (first_fit_value g every_row) ≤ℤ low
  pub grown : IsGrown g low limit (every_row ∷ []) nodes values []
  pub short : length nodes ≤ budget
