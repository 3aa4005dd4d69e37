use Rattle.std.specs.Prelude.{◌≡◌, ◌≢◌, ℕ, ◌<◌, List, [], length, slice_index_or}
use Rattle.travel_times.specs.declared.labels.hub.Hub.{Hub}

-- the first place at which two lists of labels differ
pub record IsFirstDifference (labels others : List (List Hub)) (place : ℕ) : Type 0 where
  pub within : place < length labels
  pub differ : slice_index_or labels place [] ≢ slice_index_or others place []
  pub before : (k : ℕ) → k < place → slice_index_or labels k [] ≡ slice_index_or others k []
