use Rattle.std.specs.Prelude.{◌<◌, List, [], ◌∷◌, fold, All, if◌then◌else◌}
use Rattle.plan_rules.specs.Graph.{Graph, IsRowOf}
use Rattle.plan_rules.specs.Multipliers.{Usable}
use Rattle.plan_rules.specs.Tree.{every_row, only_row, without_row}
use Rattle.plan_rules.specs.declared.path.Decision.{Decision}

-- where a walk through a tree stands: the rows that may be chosen there, and those of the subtrees that are still to come
pub record Standing : Type 0 where
  pub usable : Usable
  pub coming : List Usable

-- at the root every row may be chosen, and nothing is to come after the tree
abbrev pub root : Standing
root = record { usable = every_row; coming = [] }

-- one decision on: with the row alone, the subtree without it is still to come
abbrev pub decided : Graph → Standing → Decision → Standing
decided g s d =
    if d.alone
    then record { usable = only_row g s.usable d.vehicle d.row; coming = without_row s.usable d.row ∷ s.coming }
    else record { usable = without_row s.usable d.row; coming = s.coming }

-- where these decisions lead from the root
unfoldable pub standing_of : Graph → List Decision → Standing
standing_of g path = fold (decided g) root path

-- each decision names a row of its vehicle
abbrev pub IsPathOf : Graph → List Decision → Type 0
IsPathOf g path = All (λ d. (d.vehicle < g.vehicles) × IsRowOf g d.vehicle d.row) path
