use Rattle.std.specs.Prelude.{◌≡◌, ◌==◌, ℕ, ◌<◌, ◌≤◌, Bool, false, nat_lt, List, length, slice_index, slice_index_or, Option, None, []}
use Rattle.std.specs.List.{list_any}
use Rattle.std.specs.Option.{option_map_or}
use Rattle.std.specs.List.Sorted.{IsStrictlyIncreasing}
use Rattle.std.specs.Ordering.{nat_cmp, ordering_then}
use Rattle.std.specs.Cmp.Lexicographic.{slice_cmp}
use Rattle.std.specs.declared.cmp.Ordering.{Ordering}
use Rattle.plan_rules.specs.declared.row.TripRow.{TripRow}
use Rattle.plan_rules.specs.Sums.{count_below}

-- a trip graph: its vehicles and riders are numbered from 0; rows stand by vehicle, then size, then riders
pub record Graph : Type 0 where
  -- how many there are
  pub vehicles : ℕ
  pub riders : ℕ
  -- what each rider who is left out costs
  pub penalty : ℕ
  pub rows : List TripRow
  -- for each vehicle the number of the row that it holds
  pub held : List (Option ℕ)

-- what stands where there is no row: nobody rides, at no cost
abbrev pub no_row : TripRow
no_row = record { vehicle = 0; riders = record { items = [] }; cost = 0 }

-- the row of this number
abbrev pub row_at : Graph → ℕ → TripRow
row_at g k = slice_index_or g.rows k no_row

-- the vehicle of the row of this number
abbrev pub row_vehicle : Graph → ℕ → ℕ
row_vehicle g k = (row_at g k).vehicle

-- the riders of the row of this number
abbrev pub riders_at : Graph → ℕ → List ℕ
riders_at g k = (row_at g k).riders.items

-- the cost of the row of this number
abbrev pub cost_at : Graph → ℕ → ℕ
cost_at g k = (row_at g k).cost

-- whether this rider is in the row's trip
abbrev pub has_rider : Graph → ℕ → ℕ → Bool
has_rider g k r = list_any (λ x. x == r) (riders_at g k)

-- the number is that of a row of this vehicle
pub record IsRowOf (g : Graph) (v k : ℕ) : Type 0 where
  pub within : k < length g.rows
  pub own : row_vehicle g k ≡ v

-- what a list of rows, one or none for each vehicle, gives this vehicle
abbrev pub choice_at : List (Option ℕ) → ℕ → Option ℕ
choice_at chosen v = slice_index_or chosen v None

-- how many of the rows that the first n vehicles are given have this rider
unfoldable pub times_served : Graph → List (Option ℕ) → ℕ → ℕ → ℕ
times_served g chosen n r = count_below n (λ v. option_map_or (λ k. has_rider g k r) (choice_at chosen v) false)

-- a rider in a held row must be served
abbrev pub must_be_served : Graph → ℕ → Bool
must_be_served g r = nat_lt 0 (times_served g g.held g.vehicles r)

-- a row's vehicle and riders exist, its riders rise, they are at most six, and it costs at most 1,000,000,000
pub record IsGraphRow (vehicles riders : ℕ) (row : TripRow) : Type 0 where
  pub vehicle : row.vehicle < vehicles
  pub below : (i : ℕ) → i < length row.riders.items → slice_index row.riders.items i < riders
  pub rising : IsStrictlyIncreasing row.riders.items
  pub few : length row.riders.items ≤ 6
  pub cheap : row.cost ≤ 1000000000

-- rows stand by vehicle, then size, then riders
abbrev pub row_cmp : TripRow → TripRow → Ordering
row_cmp a b =
    ordering_then (nat_cmp a.vehicle b.vehicle)
    (ordering_then (nat_cmp (length a.riders.items) (length b.riders.items)) (slice_cmp nat_cmp a.riders.items b.riders.items))

-- how large a graph may be
pub record IsWithinLimits (g : Graph) : Type 0 where
  pub vehicles : g.vehicles ≤ 500
  pub riders : g.riders ≤ 1000
  pub penalty : g.penalty ≤ 1000000000
  pub rows : length g.rows ≤ 2000000

-- the rows before this one are those of the vehicles before this one
pub record IsStartOf (g : Graph) (v start : ℕ) : Type 0 where
  pub within : start ≤ length g.rows
  pub below : (k : ℕ) → k < start → row_vehicle g k < v
  pub above : (k : ℕ) → start ≤ k → k < length g.rows → v ≤ row_vehicle g k
