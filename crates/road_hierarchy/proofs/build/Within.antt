-- Arcs between the first so many nodes.
use Rattle.std.proofs.Common.{ℕ, ◌-◌, inl, inr, List, ◌++◌, get_or, slice_range, drop, All, Contains}
use Rattle.std.proofs.lemmas.List.Elements.{All-contains, All-drop, All-take, Contains-append_cases}
use Rattle.road_network.specs.declared.arc.Arc.{Arc}
use Rattle.road_hierarchy.specs.work.build.Checked.{AreDowns, AreUps, IsDown, IsUp}
use Rattle.road_hierarchy.specs.work.sweeps.Sweep.{IsWithin}

-- arcs that are among those up and down lead between the same nodes
pub listed_within : (n : ℕ) (up down arcs : List Arc) → AreUps n up → AreDowns n down → All (Contains (up ++ down)) arcs → All (IsWithin n) arcs
listed_within n up down arcs ups downs listed k d inside = elim (Contains-append_cases up down (get_or arcs k d) (listed k d inside)) [
  | inl here ↦ (All-contains (IsUp n) up (get_or arcs k d) ups.each here).0
  | inr there ↦ (All-contains (IsDown n) down (get_or arcs k d) downs.each there).0
]

-- arcs up lead between them, and so do those at some of the places
pub ups_within : (n : ℕ) (up : List Arc) → AreUps n up → All (IsWithin n) up
ups_within n up ups k d inside = (ups.each k d inside).0

pub range_within : (n : ℕ) (up : List Arc) (start end : ℕ) → AreUps n up → All (IsWithin n) (slice_range up start end)
range_within n up start end ups = All-take (IsWithin n) (end - start) (drop start up) (All-drop (IsWithin n) start up (ups_within n up ups))
