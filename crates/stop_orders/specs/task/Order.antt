use Rattle.std.specs.Prelude.{◌≡◌, ◌==◌, ℕ, ◌<◌, Bool, false, List, [], ◌∷◌, filter}
use Rattle.std.specs.List.{AllByRecursion}
use Rattle.stop_orders.specs.declared.task.stop.Stop.{Stop}
use Rattle.stop_orders.specs.declared.task.stop.Stop.TheVariants.{Pick, Drop, Alight}

-- the stop picks up or drops this rider of the trip
abbrev pub is_of_rider : ℕ → Stop → Bool
is_of_rider i (Pick k) = k == i
is_of_rider i (Drop k) = k == i
is_of_rider i (Alight k) = false

-- this passenger gets out at the stop
abbrev pub is_of_passenger : ℕ → Stop → Bool
is_of_passenger j (Alight k) = k == j
is_of_passenger j _ = false

-- the stop is of somebody whom there is
abbrev pub IsKnown : ℕ → ℕ → Stop → Type 0
IsKnown riders passengers (Pick k) = k < riders
IsKnown riders passengers (Drop k) = k < riders
IsKnown riders passengers (Alight k) = k < passengers

-- each rider is picked up and then dropped, once; each passenger gets out, once; and nothing else happens
pub record IsOrder (riders passengers : ℕ) (stops : List Stop) : Type 0 where
  pub rides : (i : ℕ) → i < riders → filter (is_of_rider i) stops ≡ Pick i ∷ Drop i ∷ []
  pub alights : (j : ℕ) → j < passengers → filter (is_of_passenger j) stops ≡ Alight j ∷ []
  pub known : AllByRecursion (IsKnown riders passengers) stops
