use Rattle.std.specs.Prelude.{◌≡◌, ◌≢◌, ◌⊎◌, ℕ, suc, ◌<◌, IsTrue, length, min, MatchOption}
use Rattle.std.specs.declared.cmp.Ordering.TheVariants.{Less}
use Rattle.plan_rules.specs.Graph.{Graph, row_at, row_cmp, has_rider, choice_at, times_served, IsRowOf, IsGraphRow}
use Rattle.plan_rules.specs.declared.fault.GraphFault.{GraphFault}
use Rattle.plan_rules.specs.declared.fault.GraphFault.TheVariants.{Range, Order, Held, OutOfMemory}

-- the row of this number is above the one before it
abbrev pub IsInOrder : Graph → ℕ → Type 0
IsInOrder g k = row_cmp (row_at g k) (row_at g (suc k)) ≡ Less

-- a vehicle with rows holds one of its own, whose riders no earlier vehicle holds; one without holds none
abbrev pub HoldsRightly : Graph → ℕ → Type 0
HoldsRightly g v =
    MatchOption (choice_at g.held v) ((k : ℕ) → IsRowOf g v k → ⊥)
    (λ k. IsRowOf g v k × ((r : ℕ) → IsTrue (has_rider g k r) → times_served g g.held v r ≡ 0))

-- all rows' vehicles, riders and costs are in range
abbrev pub HasGoodRows : Graph → Type 0
HasGoodRows g = (k : ℕ) → k < length g.rows → IsGraphRow g.vehicles g.riders (row_at g k)

-- each row is above the one before it
abbrev pub HasRowsInOrder : Graph → Type 0
HasRowsInOrder g = (k : ℕ) → suc k < length g.rows → IsInOrder g k

-- the first row that is out of range
pub record IsFirstOutOfRange (g : Graph) (row : ℕ) : Type 0 where
  pub within : row < length g.rows
  pub wrong : IsGraphRow g.vehicles g.riders (row_at g row) → ⊥
  pub before : (k : ℕ) → k < row → IsGraphRow g.vehicles g.riders (row_at g k)

-- the first row that isn't above the one before it
pub record IsFirstUnordered (g : Graph) (row : ℕ) : Type 0 where
  pub previous : ℕ
  pub next : row ≡ suc previous
  pub within : row < length g.rows
  pub wrong : IsInOrder g previous → ⊥
  pub before : (k : ℕ) → suc k < row → IsInOrder g k

-- all rows are in range, and this is the first that isn't above the one before it
pub record IsFirstOutOfOrder (g : Graph) (row : ℕ) : Type 0 where
  pub rows : HasGoodRows g
  pub first : IsFirstUnordered g row

-- the least vehicle that holds wrongly
pub record IsFirstHeldWrongly (g : Graph) (vehicle : ℕ) : Type 0 where
  pub rows : HasGoodRows g
  pub order : HasRowsInOrder g
  pub within : vehicle < min g.vehicles (length g.held)
  pub wrong : HoldsRightly g vehicle → ⊥
  pub before : (v : ℕ) → v < vehicle → HoldsRightly g v

-- no vehicle holds wrongly, but the list of what they hold has another length; named is the number of vehicles
pub record HasHeldOfOtherLength (g : Graph) (vehicle : ℕ) : Type 0 where
  pub rows : HasGoodRows g
  pub order : HasRowsInOrder g
  pub named : vehicle ≡ g.vehicles
  pub differs : length g.held ≢ g.vehicles
  pub before : (v : ℕ) → v < min g.vehicles (length g.held) → HoldsRightly g v

-- why a graph is refused; want of memory has no cause in it
abbrev pub IsGraphFault : Graph → GraphFault → Type 0
IsGraphFault g (Range row) = IsFirstOutOfRange g row
IsGraphFault g (Order row) = IsFirstOutOfOrder g row
IsGraphFault g (Held vehicle) = IsFirstHeldWrongly g vehicle ⊎ HasHeldOfOtherLength g vehicle
IsGraphFault g OutOfMemory = Unit {0}
