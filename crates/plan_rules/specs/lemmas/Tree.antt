-- Whole trees, and whole trees read node by node, as proofs call them.
use Rattle.std.specs.Prelude.{List, [], ◌∷◌, ◌++◌, ℤ, pos, unwrap_or}
use Rattle.plan_rules.specs.Graph.{Graph}
use Rattle.plan_rules.specs.Tree.{every_row, SearchTree, Parted, Bounded, Closed, Place, places_within, least_leaf}
use Rattle.plan_rules.specs.Reading.{ReadsTo, places_from}
use Rattle.plan_rules.specs.declared.node.Node.{Node}
use Rattle.plan_rules.specs.declared.node.Node.TheVariants.{Branch, Leaf, Dead}

-- a tree's nodes, each before those of its parts
abbrev pub preorder : SearchTree → List Node
preorder (Parted v k first second) = Branch v k ∷ preorder first ++ preorder second
preorder (Bounded ms) = Leaf ms ∷ []
preorder Closed = Dead ∷ []

-- each node of the whole tree with the rows that may be chosen there
abbrev pub places : Graph → SearchTree → List Place
places g tree = places_within g every_row tree

-- the nodes are a sound tree in preorder, which ends with the list
abbrev pub IsWholeTree : Graph → List Node → Type 0
IsWholeTree g nodes = ReadsTo g (every_row ∷ []) nodes []

-- the tree's nodes with the rows that may be chosen there
abbrev pub places_read : Graph → List Node → List Place
places_read g nodes = places_from g (every_row ∷ []) nodes

-- the least over the leaves that are read
abbrev pub value_read : Graph → List Node → ℤ
value_read g nodes = unwrap_or (least_leaf g (places_read g nodes)) (pos 0)
