use Rattle.std.specs.Prelude.{◌≡◌, ◌≢◌, ℕ, ◌<◌, false, IsTrue, length, Option, MatchOption}
use Rattle.plan_rules.specs.Graph.{Graph, has_rider, must_be_served}
use Rattle.plan_rules.specs.Multipliers.{Usable}
use Rattle.plan_rules.specs.Tree.{IsSoleRow, MayUse}

-- the rider stands in a usable row among the first n
abbrev pub StandsInSome : Graph → Usable → ℕ → ℕ → Type 0
StandsInSome g usable n r = (k : ℕ) × (k < n) × IsTrue (usable k) × IsTrue (has_rider g k r)

-- the rider stands in no usable row among the first n
abbrev pub StandsInNone : Graph → Usable → ℕ → ℕ → Type 0
StandsInNone g usable n r = (k : ℕ) → k < n → IsTrue (usable k) → has_rider g k r ≡ false

-- of the rows below n this is the only one that the vehicle may use, or there is none
abbrev pub IsOnlyOf : Graph → Usable → ℕ → ℕ → Option ℕ → Type 0
IsOnlyOf g usable v n sole =
    MatchOption sole ((j : ℕ) → j < n → MayUse g usable v j → ⊥) (λ k. (k < n) × MayUse g usable v k × ((j : ℕ) → j < n → MayUse g usable v j → j ≡ k))

-- a rider stands in the sole usable rows of two vehicles
pub record IsClash (g : Graph) (usable : Usable) : Type 0 where
  pub first : ℕ
  pub second : ℕ
  pub first_row : ℕ
  pub second_row : ℕ
  pub rider : ℕ
  pub differ : first ≢ second
  pub first_sole : IsSoleRow g usable first first_row
  pub second_sole : IsSoleRow g usable second second_row
  pub in_first : IsTrue (has_rider g first_row rider)
  pub in_second : IsTrue (has_rider g second_row rider)

-- a rider who must be served stands in no usable row
pub record IsStranded (g : Graph) (usable : Usable) : Type 0 where
  pub rider : ℕ
  pub must : IsTrue (must_be_served g rider)
  pub nowhere : StandsInNone g usable (length g.rows) rider
