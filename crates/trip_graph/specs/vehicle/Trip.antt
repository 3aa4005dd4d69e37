use Rattle.std.specs.Prelude.{◌≡◌, ℕ, ◌<◌, ◌⊎◌, List, [], ◌∷◌, length, map, slice_index_or}
use Rattle.trip_graph.specs.declared.vehicle.trip_of.TripOf.{TripOf}

-- where the two trips first differ, the first has the lower rider
abbrev pub IsLower : List ℕ → List ℕ → Type 0
IsLower [] ys = ⊥
IsLower (x ∷ xs) [] = ⊥
IsLower (x ∷ xs) (y ∷ ys) = (x < y) ⊎ ((x ≡ y) × IsLower xs ys)

-- the first trip has fewer riders, or as many and the lower rider where the two first differ
abbrev pub ComesBefore : List ℕ → List ℕ → Type 0
ComesBefore a b = (length a < length b) ⊎ ((length a ≡ length b) × IsLower a b)

-- the trips stand by size, then riders, each once
abbrev pub IsRising : List (List ℕ) → Type 0
IsRising trips = (i j : ℕ) → i < j → j < length trips → ComesBefore (slice_index_or trips i []) (slice_index_or trips j [])

-- the riders of each row
abbrev pub trips_of : List TripOf → List (List ℕ)
trips_of rows = map (λ row. row.riders.items) rows
