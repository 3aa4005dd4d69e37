use Rattle.std.specs.Prelude.{◌≡◌, ◌≢◌, ◌==◌, ◌&&◌, ◌||◌, not, ℕ, suc, ◌+◌, ◌/◌, ◌<◌, Bool, true, false, IsTrue, List, [], ◌∷◌, ◌++◌, length, map, Option, Some, None, unwrap_or, ℤ, pos, negsuc, neg_ℤ}
use Rattle.plan_rules.specs.Sums.{all_below, lesser}
use Rattle.plan_rules.specs.Graph.{Graph, IsRowOf, row_vehicle, has_rider, must_be_served, choice_at}
use Rattle.plan_rules.specs.Multipliers.{Usable, leaf_value}
use Rattle.plan_rules.specs.declared.node.Node.{Node}
use Rattle.plan_rules.specs.declared.node.Node.TheVariants.{Branch, Leaf, Dead}

-- at the root of a tree all rows may be chosen
abbrev pub every_row : Usable
every_row = λ _. true

-- of the vehicle's rows only this one may be chosen
abbrev pub only_row : Graph → Usable → ℕ → ℕ → Usable
only_row g usable v k = λ j. usable j && (not (row_vehicle g j == v) || j == k)

-- this row may not be chosen
abbrev pub without_row : Usable → ℕ → Usable
without_row usable k = λ j. usable j && not (j == k)

-- the row is the vehicle's and may be chosen
pub record MayUse (g : Graph) (usable : Usable) (v k : ℕ) : Type 0 where
  pub row : IsRowOf g v k
  pub usable_row : IsTrue (usable k)

-- the vehicle may use the row, and another one
pub record CanBranch (g : Graph) (usable : Usable) (v k : ℕ) : Type 0 where
  pub row : MayUse g usable v k
  pub other : ℕ
  pub other_row : MayUse g usable v other
  pub differs : other ≢ k

-- the row is the only one that the vehicle may use
pub record IsSoleRow (g : Graph) (usable : Usable) (v k : ℕ) : Type 0 where
  pub row : MayUse g usable v k
  pub sole : (j : ℕ) → MayUse g usable v j → j ≡ k

-- no lawful plan is made of usable rows alone, as is seen at once
pub data IsDeadEnd (g : Graph) (usable : Usable) : Type 0 where
  -- rider r stands in row j and row k, which are all that vehicles v and w may use
  Clash : (v w j k r : ℕ) → v ≢ w → IsSoleRow g usable v j → IsSoleRow g usable w k → IsTrue (has_rider g j r) → IsTrue (has_rider g k r)
      → IsDeadEnd g usable
  -- rider r must be served and stands in no usable row
  Stranded : (r : ℕ) → IsTrue (must_be_served g r) → ((k : ℕ) → k < length g.rows → IsTrue (usable k) → has_rider g k r ≡ false) → IsDeadEnd g usable

-- a search tree: where it parts, a vehicle takes a row in the first part and another of its rows in the second; a part
-- that is not parted has multipliers, or holds no lawful plan
pub data SearchTree : Type 0 where
  Parted : (vehicle row : ℕ) → SearchTree → SearchTree → SearchTree
  Bounded : List ℤ → SearchTree
  Closed : SearchTree

-- the tree is sound where these rows may be chosen: it parts by a row beside which the vehicle has another, has a
-- multiplier for each rider, and closes dead ends alone
abbrev pub IsSoundTree : Graph → Usable → SearchTree → Type 0
IsSoundTree g usable (Parted v k first second) =
    CanBranch g usable v k × IsSoundTree g (only_row g usable v k) first × IsSoundTree g (without_row usable k) second
IsSoundTree g usable (Bounded ms) = length ms ≡ g.riders
IsSoundTree g usable Closed = IsDeadEnd g usable

-- a node and the rows that may be chosen there
pub record Place : Type 0 where
  pub node : Node
  pub usable : Usable

-- each node of a tree, before those of its parts, with the rows that may be chosen there, where these may be chosen at its root
abbrev pub places_within : Graph → Usable → SearchTree → List Place
places_within g usable (Parted v k first second) =
    record { node = Branch v k; usable = usable } ∷ places_within g (only_row g usable v k) first ++ places_within g (without_row usable k) second
places_within g usable (Bounded ms) = record { node = Leaf ms; usable = usable } ∷ []
places_within g usable Closed = record { node = Dead; usable = usable } ∷ []

-- the nodes are a sound tree, in preorder
pub record IsTreeOf (g : Graph) (nodes : List Node) (tree : SearchTree) : Type 0 where
  pub listed : nodes ≡ map (λ p. p.node) (places_within g every_row tree)
  pub sound : IsSoundTree g every_row tree

-- 1/1024 seconds as whole seconds, rounded up
abbrev pub rounded_up : ℤ → ℤ
rounded_up (pos n) = pos ((n + 1023) / 1024)
rounded_up (negsuc n) = neg_ℤ (pos (suc n / 1024))

-- the least so far and, of a leaf, its value in seconds, rounded up
abbrev pub with_leaf : Graph → Usable → Node → Option ℤ → Option ℤ
with_leaf g usable (Leaf ms) least = Some (lesser least (rounded_up (leaf_value g usable ms)))
with_leaf g usable _ least = least

-- the least over these places' leaves
abbrev pub least_leaf : Graph → List Place → Option ℤ
least_leaf g [] = None
least_leaf g (p ∷ ps) = with_leaf g p.usable p.node (least_leaf g ps)

-- the value of a tree: the least over its leaves
abbrev pub tree_value : Graph → SearchTree → ℤ
tree_value g tree = unwrap_or (least_leaf g (places_within g every_row tree)) (pos 0)

-- the nodes are a sound tree, in preorder, of this value
abbrev pub IsTreeOfValue : Graph → List Node → ℤ → Type 0
IsTreeOfValue g nodes value = (tree : SearchTree) × IsTreeOf g nodes tree × (value ≡ tree_value g tree)

-- whether a choice is usable; to choose nothing always is
abbrev pub is_choice_usable : Usable → Option ℕ → Bool
is_choice_usable usable None = true
is_choice_usable usable (Some k) = usable k

-- whether a plan uses usable rows alone
unfoldable pub is_within : Graph → Usable → List (Option ℕ) → Bool
is_within g usable chosen = all_below g.vehicles (λ v. is_choice_usable usable (choice_at chosen v))

-- whether a node is a dead end
abbrev pub is_dead : Node → Bool
is_dead Dead = true
is_dead (Leaf ms) = false
is_dead (Branch v k) = false

-- whether a node is a leaf
abbrev pub is_leaf : Node → Bool
is_leaf (Leaf ms) = true
is_leaf Dead = false
is_leaf (Branch v k) = false

-- whether the plan belongs to this leaf or dead end
abbrev pub belongs_to_end : Graph → List (Option ℕ) → Place → Bool
belongs_to_end g chosen p = (is_leaf p.node || is_dead p.node) && is_within g p.usable chosen

-- whether the plan belongs to this dead end
abbrev pub belongs_to_dead_end : Graph → List (Option ℕ) → Place → Bool
belongs_to_dead_end g chosen p = is_dead p.node && is_within g p.usable chosen
