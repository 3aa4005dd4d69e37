use Rattle.std.specs.Prelude.{◌≡◌, ℕ, zero, suc, ◌+◌, ◌<◌, Bool, true, false, List, ◌∷◌, length, filter, []}
use Rattle.std.specs.List.{AllByRecursion}
use Rattle.stop_orders.specs.declared.task.stop.Stop.{Stop}
use Rattle.stop_orders.specs.declared.task.stop.Stop.TheVariants.{Pick, Drop, Alight}
use Rattle.stop_orders.specs.task.Order.{is_of_rider, is_of_passenger, IsKnown}
use Rattle.stop_orders.specs.task.Done.{has}

-- the stops that a rider still has, by whether the pickup and the drop-off are done
abbrev pub left_of_rider : Bool → Bool → ℕ → List Stop
left_of_rider picked true i = []
left_of_rider true false i = Drop i ∷ []
left_of_rider false false i = Pick i ∷ Drop i ∷ []

-- the stops that a passenger still has
abbrev pub left_of_passenger : Bool → ℕ → List Stop
left_of_passenger true j = []
left_of_passenger false j = Alight j ∷ []

-- the stops after those that are done make an order of all
pub record Completes (riders passengers done : ℕ) (rest : List Stop) : Type 0 where
  pub rides : (i : ℕ) → i < riders → filter (is_of_rider i) rest ≡ left_of_rider (has done i) (has done (6 + i)) i
  pub alights : (j : ℕ) → j < passengers → filter (is_of_passenger j) rest ≡ left_of_passenger (has done (12 + j)) j
  pub known : AllByRecursion (IsKnown riders passengers) rest

-- the sum of f 0, f 1 and so on, of so many
abbrev pub sum_below : (ℕ → ℕ) → ℕ → ℕ
sum_below f zero = 0
sum_below f (suc n) = sum_below f n + f n

-- how many stops are left to do
unfoldable pub left_count : ℕ → ℕ → ℕ → ℕ
left_count riders passengers done =
    sum_below (λ i. length (left_of_rider (has done i) (has done (6 + i)) i)) riders
    + sum_below (λ j. length (left_of_passenger (has done (12 + j)) j)) passengers
