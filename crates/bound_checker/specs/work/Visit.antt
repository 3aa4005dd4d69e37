use Rattle.std.specs.Prelude.{◌≡◌, ℕ, ℤ, List, length}
use Rattle.plan_rules.specs.Graph.{Graph}
use Rattle.plan_rules.specs.Multipliers.{Usable}
use Rattle.plan_rules.specs.Tree.{CanBranch, IsDeadEnd, with_leaf}
use Rattle.plan_rules.specs.Reading.{IsSoundNode, coming_after}
use Rattle.plan_rules.specs.Path.{standing_of, IsPathOf}
use Rattle.plan_rules.specs.declared.node.Node.{Node}
use Rattle.plan_rules.specs.declared.node.Node.TheVariants.{Branch, Leaf, Dead}
use Rattle.bound_checker.specs.declared.walk.Walk.{Walk}
use Rattle.bound_checker.specs.declared.fault.CheckFault.{CheckFault}
use Rattle.bound_checker.specs.declared.fault.CheckFault.TheVariants.{BadBranch, BadLeaf, BadDead, Unfinished, Extra, OutOfMemory}
use Rattle.bound_checker.specs.lemmas.Visit.{coming_of}

-- the walk stands in the graph, and has a mark for each row
pub record IsReady (g : Graph) (walk : Walk) : Type 0 where
  pub decisions : IsPathOf g walk.decisions.items
  pub allowed : length walk.allowed.items ≡ length g.rows

-- the node is sound, the walk goes on to what comes after it, and notes what a leaf shows
pub record IsVisit (g : Graph) (node : Node) (old new : Walk) : Type 0 where
  pub sound : IsSoundNode g (standing_of g old.decisions.items).usable node
  pub coming : coming_of g new.ended new.decisions.items ≡ coming_after g (standing_of g old.decisions.items).usable node (standing_of g old.decisions.items).coming
  pub least : new.least ≡ with_leaf g (standing_of g old.decisions.items).usable node old.least
  pub ready : IsReady g new

-- why the node is refused
abbrev pub IsNodeFault : Usable → Graph → Node → ℕ → CheckFault → Type 0
IsNodeFault usable g node place (BadBranch i) = (i ≡ place) × ((v : ℕ) × (k : ℕ) × (node ≡ Branch v k) × (CanBranch g usable v k → ⊥))
IsNodeFault usable g node place (BadLeaf i) = (i ≡ place) × ((ms : List ℤ) × (node ≡ Leaf ms) × (length ms ≡ g.riders → ⊥))
IsNodeFault usable g node place (BadDead i) = (i ≡ place) × (node ≡ Dead) × (IsDeadEnd g usable → ⊥)
IsNodeFault usable g node place Unfinished = ⊥
IsNodeFault usable g node place (Extra i) = ⊥
IsNodeFault usable g node place OutOfMemory = Unit {0}
