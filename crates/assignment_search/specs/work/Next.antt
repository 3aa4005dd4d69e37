use Rattle.std.specs.Prelude.{◌≡◌, ℕ, ◌+◌, ◌*◌, ◌<◌, ◌≤◌, List, ◌∷◌, length, take, slice_index_or, ℤ, pos, ◌≤ℤ◌, ◌<ℤ◌, []}
use Rattle.plan_rules.specs.Graph.{Graph}
use Rattle.plan_rules.specs.Plan.{IsLawful, cost_of}
use Rattle.plan_rules.specs.Multipliers.{Usable}
use Rattle.plan_rules.specs.Tree.{every_row, only_row, without_row, CanBranch, rounded_up}
use Rattle.plan_rules.specs.Reading.{ReadsTo}
use Rattle.plan_rules.specs.declared.node.Node.{Node}
use Rattle.plan_rules.specs.declared.node.Node.TheVariants.{Leaf, Dead}
use Rattle.assignment_search.specs.declared.parting.Ends.{Ends}
use Rattle.assignment_search.specs.declared.step.Outcome.{Outcome}
use Rattle.assignment_search.specs.declared.step.Outcome.TheVariants.{Met, Better, Full, Fixed, Parted}
use Rattle.assignment_search.specs.work.Growth.{IsNewEnd}
use Rattle.assignment_search.specs.Growth.{choice_count}

-- the ends are those of a branch on a row that the vehicle may use beside another one
pub record IsParting (g : Graph) (usable : Usable) (parent : List ℤ) (ends : Ends) : Type 0 where
  pub can : CanBranch g usable ends.vehicle ends.row
  pub first : IsNewEnd g (only_row g usable ends.vehicle ends.row) parent ends.first.node ends.first.value
  pub second : IsNewEnd g (without_row usable ends.row) parent ends.second.node ends.second.value

-- the leaf at this place is parted
pub record IsPartedAt (g : Graph) (nodes : List Node) (place : ℕ) (ends : Ends) : Type 0 where
  pub usable : Usable
  pub later : List Usable
  pub reads : ReadsTo g (every_row ∷ []) (take place nodes) (usable ∷ later)
  pub parent : List ℤ
  pub leaf : slice_index_or nodes place Dead ≡ Leaf parent
  pub parting : IsParting g usable parent ends

-- what is said of the leaf of least value: its value meets the limit, or a lawful plan costs less than the limit, or the budget has no room for two more nodes, or it holds
-- one plan alone, whose cost the value meets, or it is parted
abbrev pub IsNext : Graph → List Node → List ℤ → ℕ → ℕ → ℕ → Outcome → Type 0
IsNext g nodes values place limit budget Met = pos limit ≤ℤ rounded_up (slice_index_or values place (pos 0))
IsNext g nodes values place limit budget (Better plan) = IsLawful g plan × (cost_of g plan < limit)
IsNext g nodes values place limit budget Full = (budget < length nodes + 2) × (budget < 2 * choice_count g every_row)
IsNext g nodes values place limit budget (Fixed plan) = IsLawful g plan × (pos (cost_of g plan) ≤ℤ rounded_up (slice_index_or values place (pos 0)))
IsNext g nodes values place limit budget (Parted ends) = IsPartedAt g nodes place ends × (length nodes + 2 ≤ budget) × (rounded_up (slice_index_or values place (pos 0)) <ℤ pos limit)
