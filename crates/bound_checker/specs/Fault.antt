use Rattle.std.specs.Prelude.{◌≡◌, ℕ, ◌<◌, List, [], ◌∷◌, length, take, slice_get, Some, ℤ}
use Rattle.plan_rules.specs.Graph.{Graph}
use Rattle.plan_rules.specs.Multipliers.{Usable}
use Rattle.plan_rules.specs.Tree.{every_row, CanBranch, IsDeadEnd}
use Rattle.plan_rules.specs.Reading.{ReadsTo}
use Rattle.plan_rules.specs.declared.node.Node.{Node}
use Rattle.plan_rules.specs.declared.node.Node.TheVariants.{Branch, Leaf, Dead}
use Rattle.bound_checker.specs.declared.fault.CheckFault.{CheckFault}
use Rattle.bound_checker.specs.declared.fault.CheckFault.TheVariants.{BadBranch, BadLeaf, BadDead, Unfinished, Extra, OutOfMemory}

-- the nodes before this one are sound and leave these subtrees to come, and this is the node here
pub record IsReached (g : Graph) (nodes : List Node) (i : ℕ) (coming : List Usable) (node : Node) : Type 0 where
  pub before : ReadsTo g (every_row ∷ []) (take i nodes) coming
  pub within : i < length nodes
  pub here : slice_get nodes i ≡ Some node

-- the first wrong node is a branch on a row that isn't among the vehicle's usable ones, or is the only one
pub record IsBadBranch (g : Graph) (nodes : List Node) (i : ℕ) : Type 0 where
  pub usable : Usable
  pub later : List Usable
  pub vehicle : ℕ
  pub row : ℕ
  pub reached : IsReached g nodes i (usable ∷ later) (Branch vehicle row)
  pub wrong : CanBranch g usable vehicle row → ⊥

-- the first wrong node is a leaf without one multiplier for each rider
pub record IsBadLeaf (g : Graph) (nodes : List Node) (i : ℕ) : Type 0 where
  pub usable : Usable
  pub later : List Usable
  pub multipliers : List ℤ
  pub reached : IsReached g nodes i (usable ∷ later) (Leaf multipliers)
  pub wrong : length multipliers ≡ g.riders → ⊥

-- the first wrong node is called a dead end and is none
pub record IsBadDead (g : Graph) (nodes : List Node) (i : ℕ) : Type 0 where
  pub usable : Usable
  pub later : List Usable
  pub reached : IsReached g nodes i (usable ∷ later) Dead
  pub wrong : IsDeadEnd g usable → ⊥

-- all nodes are sound, and a subtree is still to come
pub record IsUnfinished (g : Graph) (nodes : List Node) : Type 0 where
  pub usable : Usable
  pub later : List Usable
  pub before : ReadsTo g (every_row ∷ []) nodes (usable ∷ later)

-- the tree has ended before this node
pub record IsExtra (g : Graph) (nodes : List Node) (i : ℕ) : Type 0 where
  pub before : ReadsTo g (every_row ∷ []) (take i nodes) []
  pub within : i < length nodes

-- why a tree is refused; want of memory has no cause in it
abbrev pub IsTreeFault : Graph → List Node → CheckFault → Type 0
IsTreeFault g nodes (BadBranch i) = IsBadBranch g nodes i
IsTreeFault g nodes (BadLeaf i) = IsBadLeaf g nodes i
IsTreeFault g nodes (BadDead i) = IsBadDead g nodes i
IsTreeFault g nodes Unfinished = IsUnfinished g nodes
IsTreeFault g nodes (Extra i) = IsExtra g nodes i
IsTreeFault g nodes OutOfMemory = Unit {0}
