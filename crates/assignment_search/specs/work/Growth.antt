use Rattle.std.specs.Prelude.{◌≡◌, ℕ, ◌<◌, List, ◌∷◌, length, slice_index_or, Option, None, MatchOption, ℤ, pos, ◌≤ℤ◌, ◌<ℤ◌, []}
use Rattle.plan_rules.specs.Graph.{Graph, IsRowOf}
use Rattle.plan_rules.specs.Multipliers.{Usable, leaf_value, first_fit_value}
use Rattle.plan_rules.specs.Tree.{MayUse, CanBranch, IsDeadEnd, rounded_up}
use Rattle.plan_rules.specs.Reading.{coming_after}
use Rattle.plan_rules.specs.Size.{IsSmallSum}
use Rattle.plan_rules.specs.declared.node.Node.{Node}
use Rattle.plan_rules.specs.declared.node.Node.TheVariants.{Branch, Leaf, Dead}

-- a branch was worth making: the first-fit value of its rows, in seconds, is at most `low` and below `limit`
pub record IsWorthBranching (g : Graph) (low : ℤ) (limit : ℕ) (usable : Usable) : Type 0 where
  pub at_most : rounded_up (first_fit_value g usable) ≤ℤ low
  pub below : rounded_up (first_fit_value g usable) <ℤ pos limit

-- multipliers with the leaf value that they have at these rows
pub record IsJudged (g : Graph) (usable : Usable) (ms : List ℤ) (value : ℤ) : Type 0 where
  pub sized : length ms ≡ g.riders
  pub judged : value ≡ leaf_value g usable ms
  pub small : IsSmallSum 1500 value

-- a leaf with its value, which is at least the first-fit one and, in seconds, at least `low`; it is no dead end
pub record IsGoodLeaf (g : Graph) (low : ℤ) (usable : Usable) (ms : List ℤ) (value : ℤ) : Type 0 where
  pub judged : IsJudged g usable ms value
  pub first_fit : first_fit_value g usable ≤ℤ value
  pub floor : low ≤ℤ rounded_up value
  pub alive : IsDeadEnd g usable → ⊥

-- a node of a tree that grows
abbrev pub IsGoodNode : Graph → ℤ → ℕ → Usable → Node → ℤ → Type 0
IsGoodNode g low limit usable (Leaf ms) value = IsGoodLeaf g low usable ms value
IsGoodNode g low limit usable Dead value = IsDeadEnd g usable
IsGoodNode g low limit usable (Branch v k) value = CanBranch g usable v k × IsWorthBranching g low limit usable

-- the nodes, with the values of leaves beside them, grew from these subtrees to come to those
abbrev pub IsGrown : Graph → ℤ → ℕ → List Usable → List Node → List ℤ → List Usable → Type 0
IsGrown g low limit coming [] [] rest = coming ≡ rest
IsGrown g low limit coming [] (z ∷ values) rest = ⊥
IsGrown g low limit coming (n ∷ nodes) [] rest = ⊥
IsGrown g low limit [] (n ∷ nodes) (z ∷ values) rest = ⊥
IsGrown g low limit (usable ∷ coming) (n ∷ nodes) (z ∷ values) rest =
    IsGoodNode g low limit usable n z × IsGrown g low limit (coming_after g usable n coming) nodes values rest

-- each vehicle that has a row may use one
abbrev pub HasUsable : Graph → Usable → Type 0
HasUsable g usable = (v k : ℕ) → IsRowOf g v k → (j : ℕ) × MayUse g usable v j

-- no vehicle may use two rows
abbrev pub IsFixed : Graph → Usable → Type 0
IsFixed g usable = (v j k : ℕ) → MayUse g usable v j → MayUse g usable v k → j ≡ k

-- the place of a leaf whose value none is below
pub record IsLowest (nodes : List Node) (values : List ℤ) (place : ℕ) : Type 0 where
  pub within : place < length nodes
  pub multipliers : List ℤ
  pub leaf : slice_index_or nodes place Dead ≡ Leaf multipliers
  pub least : (k : ℕ) (ms : List ℤ) → k < length nodes → slice_index_or nodes k Dead ≡ Leaf ms → slice_index_or values place (pos 0) ≤ℤ slice_index_or values k (pos 0)

-- some node is a leaf
pub record HasLeaf (nodes : List Node) : Type 0 where
  pub place : ℕ
  pub multipliers : List ℤ
  pub within : place < length nodes
  pub leaf : slice_index_or nodes place Dead ≡ Leaf multipliers

-- each vehicle is given a row that it may use, if it has one
abbrev pub IsSolePlan : Graph → Usable → List (Option ℕ) → Type 0
IsSolePlan g usable chosen =
    (v : ℕ) → v < g.vehicles → MatchOption (slice_index_or chosen v None) ((k : ℕ) → MayUse g usable v k → ⊥) (MayUse g usable v)

-- what a new end must be: a dead end, or a leaf whose value is at least the first-fit one and that of its parent's multipliers
pub record IsNewLeaf (g : Graph) (usable : Usable) (parent : List ℤ) (ms : List ℤ) (value : ℤ) : Type 0 where
  pub judged : IsJudged g usable ms value
  pub first_fit : first_fit_value g usable ≤ℤ value
  pub inherited : leaf_value g usable parent ≤ℤ value
  pub alive : IsDeadEnd g usable → ⊥

abbrev pub IsNewEnd : Graph → Usable → List ℤ → Node → ℤ → Type 0
IsNewEnd g usable parent (Leaf ms) value = IsNewLeaf g usable parent ms value
IsNewEnd g usable parent Dead value = IsDeadEnd g usable
IsNewEnd g usable parent (Branch v k) value = ⊥
