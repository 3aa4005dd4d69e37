use Rattle.std.specs.Prelude.{◌≡◌, ◌⊎◌, ℕ, ◌≤◌, List, Option, length}
use Rattle.plan_rules.specs.Graph.{Graph}
use Rattle.plan_rules.specs.Greedy.{IsGreedy}
use Rattle.plan_rules.specs.Plan.{IsLawful, cost_of}
use Rattle.plan_rules.specs.declared.node.Node.{Node}
use Rattle.plan_rules.specs.declared.node.Node.TheVariants.{Branch, Leaf, Dead}

-- a leaf has a multiplier for each rider
abbrev pub HasMultipliers : Graph → Node → Type 0
HasMultipliers g (Leaf ms) = length ms ≡ g.riders
HasMultipliers g Dead = Unit {0}
HasMultipliers g (Branch v k) = Unit {0}

-- the lesser of the cost of the held plan and of that of the greedy one, where that is lawful
pub record IsLimit (g : Graph) (limit : ℕ) : Type 0 where
  pub held : limit ≤ cost_of g g.held
  pub greedy : (chosen : List (Option ℕ)) → IsGreedy g chosen → IsLawful g chosen → limit ≤ cost_of g chosen
  pub attained : (limit ≡ cost_of g g.held) ⊎ ((chosen : List (Option ℕ)) × IsGreedy g chosen × IsLawful g chosen × (limit ≡ cost_of g chosen))
