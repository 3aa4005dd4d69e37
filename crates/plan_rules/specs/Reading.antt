-- Trees read node by node, as far as a list of nodes goes.
use Rattle.std.specs.Prelude.{◌≡◌, List, [], ◌∷◌, length}
use Rattle.plan_rules.specs.Graph.{Graph}
use Rattle.plan_rules.specs.Multipliers.{Usable}
use Rattle.plan_rules.specs.Tree.{only_row, without_row, CanBranch, IsDeadEnd, Place}
use Rattle.plan_rules.specs.declared.node.Node.{Node}
use Rattle.plan_rules.specs.declared.node.Node.TheVariants.{Branch, Leaf, Dead}

-- a branch names a row and leaves another, a leaf has a multiplier for each rider, a dead end is one
abbrev pub IsSoundNode : Graph → Usable → Node → Type 0
IsSoundNode g usable (Branch v k) = CanBranch g usable v k
IsSoundNode g usable (Leaf ms) = length ms ≡ g.riders
IsSoundNode g usable Dead = IsDeadEnd g usable

-- the usable rows of the subtrees that are still to come after this node: a branch adds two, an end adds none
abbrev pub coming_after : Graph → Usable → Node → List Usable → List Usable
coming_after g usable (Branch v k) coming = only_row g usable v k ∷ without_row usable k ∷ coming
coming_after g usable (Leaf ms) coming = coming
coming_after g usable Dead coming = coming

-- the nodes are sound, one after another, from where these subtrees are to come to where those are
abbrev pub ReadsTo : Graph → List Usable → List Node → List Usable → Type 0
ReadsTo g coming [] rest = coming ≡ rest
ReadsTo g [] (n ∷ nodes) rest = ⊥
ReadsTo g (usable ∷ coming) (n ∷ nodes) rest = IsSoundNode g usable n × ReadsTo g (coming_after g usable n coming) nodes rest

-- each node with the rows that may be chosen there
abbrev pub places_from : Graph → List Usable → List Node → List Place
places_from g coming [] = []
places_from g [] (n ∷ nodes) = []
places_from g (usable ∷ coming) (n ∷ nodes) =
    record { node = n; usable = usable } ∷ places_from g (coming_after g usable n coming) nodes
