use Rattle.std.specs.Prelude.{◌==◌, ◌&&◌, ℕ, zero, suc, ◌*◌, Bool, false, List, [], ◌∷◌, ◌++◌, length, slice_index_or, unwrap_or, if◌then◌else◌, ℤ, pos, ◌+ℤ◌, ◌-ℤ◌, ◌*ℤ◌}
use Rattle.std.specs.Int.{int_min}
use Rattle.plan_rules.specs.Sums.{int_sum_below, least_below, lesser}
use Rattle.plan_rules.specs.Graph.{Graph, row_vehicle, riders_at, cost_at, has_rider, must_be_served}

-- which rows may be chosen
abbrev pub Usable : Type 0
Usable = ℕ → Bool

-- the rows that are marked
abbrev pub usable_of : List Bool → Usable
usable_of marks = λ k. slice_index_or marks k false

-- the rider's multiplier, in 1/1024 second; 0 where there is none
abbrev pub multiplier_at : List ℤ → ℕ → ℤ
multiplier_at ms r = slice_index_or ms r (pos 0)

-- the multipliers of these riders together
abbrev pub multiplier_sum : List ℤ → List ℕ → ℤ
multiplier_sum ms [] = pos 0
multiplier_sum ms (r ∷ rs) = multiplier_at ms r +ℤ multiplier_sum ms rs

-- what a row costs, less the multipliers of its riders
abbrev pub reduced_cost : Graph → List ℤ → ℕ → ℤ
reduced_cost g ms k = pos (1024 * cost_at g k) -ℤ multiplier_sum ms (riders_at g k)

-- whether row k is this vehicle's and may be chosen
abbrev pub is_usable_by : Graph → Usable → ℕ → ℕ → Bool
is_usable_by g usable v k = (row_vehicle g k == v) && usable k

-- the least of f over the vehicle's usable rows, 0 where it has none
abbrev pub least_of : Graph → Usable → ℕ → (ℕ → ℤ) → ℤ
least_of g usable v f = unwrap_or (least_below (length g.rows) (is_usable_by g usable v) f) (pos 0)

-- what the multipliers show of every plan of usable rows, in 1/1024 second: the vehicles' least reduced costs, and the riders'
-- multipliers, each at most the penalty where the rider may be left out
unfoldable pub leaf_value : Graph → Usable → List ℤ → ℤ
leaf_value g usable ms =
    int_sum_below g.vehicles (λ v. least_of g usable v (reduced_cost g ms))
    +ℤ int_sum_below g.riders (λ r. if must_be_served g r then multiplier_at ms r else int_min (multiplier_at ms r) (pos (1024 * g.penalty)))

-- what the row costs above its vehicle's cheapest one, less the multipliers that its riders have so far
abbrev pub room_at : Graph → Usable → List ℤ → ℕ → ℤ
room_at g usable ms k = pos 1024 *ℤ (pos (cost_at g k) -ℤ least_of g usable (row_vehicle g k) (λ j. pos (cost_at g j))) -ℤ multiplier_sum ms (riders_at g k)

-- the next rider's first-fit multiplier: the least of the penalty and of the room of the usable rows that have her
abbrev pub first_fit_of : Graph → Usable → List ℤ → ℕ → ℤ
first_fit_of g usable ms r =
    lesser (least_below (length g.rows) (λ k. usable k && has_rider g k r) (room_at g usable ms)) (pos (1024 * g.penalty))

-- the first-fit multipliers of the riders below n, each made from those of the riders before
unfoldable pub first_fit_below : Graph → Usable → ℕ → List ℤ
first_fit_below g usable zero = []
first_fit_below g usable (suc n) = first_fit_below g usable n ++ first_fit_of g usable (first_fit_below g usable n) n ∷ []

-- the leaf value of the first-fit multipliers
abbrev pub first_fit_value : Graph → Usable → ℤ
first_fit_value g usable = leaf_value g usable (first_fit_below g usable g.riders)
