use Rattle.std.specs.Prelude.{ℕ, ◌≤◌}

-- each setting is within its range
pub record AreInRange (wait delay trip penalty budget pairs workers dwell : ℕ) : Type 0 where
  pub wait_most : wait ≤ 7200
  pub delay_most : delay ≤ 7200
  pub trip_range : (1 ≤ trip) × (trip ≤ 6)
  pub penalty_most : penalty ≤ 1000000000
  pub budget_range : (1 ≤ budget) × (budget ≤ 50000)
  pub pairs_range : (1 ≤ pairs) × (pairs ≤ 2000000)
  pub workers_range : (1 ≤ workers) × (workers ≤ 64)
  pub dwell_most : dwell ≤ 600

-- each number of a workload's shape is within its range
pub record IsShapeInRange (seed side vehicles riders rounds : ℕ) : Type 0 where
  pub seed_most : seed ≤ 1000000000
  pub side_range : (2 ≤ side) × (side ≤ 100)
  pub vehicles_range : (1 ≤ vehicles) × (vehicles ≤ 500)
  pub riders_range : (1 ≤ riders) × (riders ≤ 1000)
  pub rounds_range : (1 ≤ rounds) × (rounds ≤ 100)

-- the threads of a resumed day are within their range
abbrev pub AreWorkersInRange : ℕ → Type 0
AreWorkersInRange workers = (1 ≤ workers) × (workers ≤ 64)
