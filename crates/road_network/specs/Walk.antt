use Rattle.std.specs.Prelude.{◌≡◌, ◌⊎◌, ℕ, ◌≤◌, List, [], ◌∷◌, sum_by, Contains}
use Rattle.pool_base.specs.TravelTime.{never}
pub use Rattle.road_network.specs.declared.arc.Arc.{Arc}

-- a walk along these arcs: the first arc leaves the start, each next one leaves where the one before
-- ended, and the last ends at the goal; the empty walk goes from a node to itself
abbrev pub IsWalk : List Arc → ℕ → List Arc → ℕ → Type 0
IsWalk arcs start [] goal = start ≡ goal
IsWalk arcs start (arc ∷ rest) goal = Contains arcs arc × (arc.from ≡ start) × IsWalk arcs arc.to rest goal

-- the seconds of a walk
abbrev pub walk_seconds : List Arc → ℕ
walk_seconds walk = sum_by (λ arc. arc.seconds) walk

-- some walk takes so many seconds, and none takes fewer
pub record IsLeastTime (arcs : List Arc) (start goal seconds : ℕ) : Type 0 where
  pub walk : List Arc
  pub walks : IsWalk arcs start walk goal
  pub takes : walk_seconds walk ≡ seconds
  pub least : (other : List Arc) → IsWalk arcs start other goal → seconds ≤ walk_seconds other

-- no walk leads from the start to the goal
abbrev pub HasNoWalk : List Arc → ℕ → ℕ → Type 0
HasNoWalk arcs start goal = (walk : List Arc) → IsWalk arcs start walk goal → ⊥

-- the travel time from start to goal is the least over all walks, or `never` where there is no walk
abbrev pub IsTimeBetween : List Arc → ℕ → ℕ → ℕ → Type 0
IsTimeBetween arcs start goal seconds = IsLeastTime arcs start goal seconds ⊎ (HasNoWalk arcs start goal × (seconds ≡ never))
