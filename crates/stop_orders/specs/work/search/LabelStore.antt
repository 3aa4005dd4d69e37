use Rattle.std.specs.Prelude.{◌≡◌, ℕ, ◌+◌, ◌<◌, ◌≤◌, List, length, map, slice_index_or}
use Rattle.pool_base.specs.TravelTime.{never}
use Rattle.stop_orders.specs.declared.search.label.Label.{Label}
use Rattle.stop_orders.specs.declared.search.label_store.LabelStore.{LabelStore}

-- what is read where there is no such label
abbrev pub no_label : Label
no_label = record { done = 0; place = 0; free = 0; room = 0; delay = 0 }

-- the labels that are kept, in order
abbrev pub labels_of : LabelStore → List Label
labels_of store = map (λ entry. entry.label) store.entries.items

-- a label of the same stops is as soon wherever the other goes, with as much room and no more delay
pub record Dominates (tau : ℕ → ℕ → ℕ) (kept label : Label) : Type 0 where
  pub done : kept.done ≡ label.done
  pub room : label.room ≤ kept.room
  pub delay : kept.delay ≤ label.delay
  pub reach : tau kept.place label.place < never
  pub soon : kept.free + tau kept.place label.place ≤ label.free

-- one of the labels dominates this one
abbrev pub IsDominated : (ℕ → ℕ → ℕ) → List Label → Label → Type 0
IsDominated tau labels label = (k : ℕ) × (k < length labels) × Dominates tau (slice_index_or labels k no_label) label

-- a label is in the table, with a second that is no overflow
pub record IsLabelPlaced (points : ℕ) (label : Label) : Type 0 where
  pub place : label.place < points
  pub free : label.free ≤ 30000000000
