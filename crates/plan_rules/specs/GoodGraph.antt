use Rattle.std.specs.Prelude.{◌≡◌, ℕ, suc, ◌<◌, ◌≤◌, length}
use Rattle.std.specs.declared.cmp.Ordering.TheVariants.{Less}
use Rattle.plan_rules.specs.Graph.{Graph, row_at, row_cmp, IsGraphRow}
use Rattle.plan_rules.specs.Plan.{IsLawful}

-- a graph is good where it isn't too large, its rows are good, each is above the one before it, and the held rows are a lawful plan
pub record IsGoodGraph (g : Graph) : Type 0 where
  pub vehicles : g.vehicles ≤ 500
  pub riders : g.riders ≤ 1000
  pub penalty : g.penalty ≤ 1000000000
  pub few : length g.rows ≤ 2000000
  pub rows : (k : ℕ) → k < length g.rows → IsGraphRow g.vehicles g.riders (row_at g k)
  pub order : (k : ℕ) → suc k < length g.rows → row_cmp (row_at g k) (row_at g (suc k)) ≡ Less
  pub held : IsLawful g g.held
