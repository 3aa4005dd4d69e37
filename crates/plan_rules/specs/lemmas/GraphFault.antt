use Rattle.std.specs.Prelude.{◌≡◌, ℕ, ◌<◌, length}
use Rattle.plan_rules.specs.Graph.{Graph}
use Rattle.plan_rules.specs.GraphFault.{HoldsRightly}

-- each vehicle holds rightly
pub record HasHeldRows (g : Graph) : Type 0 where
  pub sized : length g.held ≡ g.vehicles
  pub holds : (v : ℕ) → v < g.vehicles → HoldsRightly g v
