-- Which lines of a batch's block can be told.
use Rattle.std.specs.Prelude.{ℕ, ℤ, pos, negsuc, ◌<◌, ◌^◌, ◌≡◌, MatchOption}
use Rattle.dispatch_report.specs.Fits.{IsId}
use Rattle.request_book.specs.declared.values.outcome.PlannedStop.{PlannedStop}
use Rattle.std.specs.List.{All}
use Rattle.dispatch_report.specs.declared.block_line.BlockLine.{BlockLine}
use Rattle.dispatch_report.specs.declared.block_line.BlockLine.TheVariants.{Batch, Expired, Overflow, Lapsed, Late, Alone, Shared, TripRow, Trip, Out, Move, Cost, Bound, Nodes, Branch, Leaf, Dead, End}

-- two ids
abbrev pub AreIds : ℕ × ℕ → Type 0
AreIds p = IsId p.0 × IsId p.1

-- a signed number of 128 bits
abbrev pub IsWide : ℤ → Type 0
IsWide (pos n) = n < 2 ^ 127
IsWide (negsuc n) = n < 2 ^ 127

-- and of 64 bits
abbrev pub IsLong : ℤ → Type 0
IsLong (pos n) = n < 2 ^ 63
IsLong (negsuc n) = n < 2 ^ 63

-- the numbers of a stop are within their types
abbrev pub FitsStop : PlannedStop → Type 0
FitsStop stop = IsId stop.rider × IsId stop.node × (stop.second < 2 ^ 64)

-- the numbers of a line are within their types; a late vehicle has an order, or none and no delay
abbrev pub IsBlockLine : BlockLine → Type 0
IsBlockLine (Batch n) = n < 2 ^ 64
IsBlockLine (Expired rider) = IsId rider
IsBlockLine Overflow = Unit {0}
IsBlockLine (Lapsed rider) = IsId rider
IsBlockLine (Late late) =
    IsId late.vehicle × MatchOption late.stops (late.delay ≡ 0) (λ stops. (late.delay < 2 ^ 64) × All FitsStop stops)
IsBlockLine (Alone pair) = AreIds pair
IsBlockLine (Shared pair) = AreIds pair
IsBlockLine (TripRow row) = IsId row.vehicle × (row.cost < 2 ^ 64) × All IsId row.riders
IsBlockLine (Trip trip) = IsId trip.vehicle × (trip.cost < 2 ^ 64) × All FitsStop trip.stops
IsBlockLine (Out rider) = IsId rider
IsBlockLine (Move m) = IsId m.vehicle × IsId m.rider × (m.seconds < 2 ^ 32)
IsBlockLine (Cost n) = n < 2 ^ 64
IsBlockLine (Bound z) = IsWide z
IsBlockLine (Nodes n) = n < 2 ^ 64
IsBlockLine (Branch branch) = IsId branch.0 × (branch.1 < 2 ^ 32)
IsBlockLine (Leaf multipliers) = All IsLong multipliers
IsBlockLine Dead = Unit {0}
IsBlockLine End = Unit {0}
