use Rattle.std.specs.Prelude.{Bool, true, false, List, ◌∷◌, []}
use Rattle.plan_rules.specs.Graph.{Graph}
use Rattle.plan_rules.specs.Multipliers.{Usable}
use Rattle.plan_rules.specs.Path.{standing_of}
use Rattle.plan_rules.specs.declared.path.Decision.{Decision}

-- the subtrees that a walk has before it: none once the tree has ended
abbrev pub coming_of : Graph → Bool → List Decision → List Usable
coming_of g true path = []
coming_of g false path = (standing_of g path).usable ∷ (standing_of g path).coming
