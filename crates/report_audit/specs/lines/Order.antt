-- The order of the kinds of lines in a block.
use Rattle.std.specs.Prelude.{ℕ, ◌==◌, Bool, true, ◌&&◌, List, [], ◌∷◌, nat_le}
use Rattle.dispatch_report.specs.declared.block_line.BlockLine.{BlockLine}
use Rattle.dispatch_report.specs.declared.block_line.BlockLine.TheVariants.{Batch, Expired, Overflow, Lapsed, Late, Alone, Shared, TripRow, Trip, Out, Move, Cost, Bound, Nodes, Branch, Leaf, Dead, End}

-- a number from one to another
abbrev pub is_between : ℕ → ℕ → ℕ → Bool
is_between low high n = nat_le low n && nat_le n high

-- after which places a line may follow, and the place of its kind; before the first line it is 0. The number comes first,
-- overflow stands in the place of a plan, cost, bound and number of nodes stand once and one behind the other, and the
-- lists before them stand in their order
abbrev pub order_of : BlockLine → (ℕ → Bool) × ℕ
order_of (Batch n) = (λ place. place == 0, 1)
order_of (Expired rider) = (is_between 1 2, 2)
order_of (Lapsed rider) = (is_between 1 3, 3)
order_of (Late late) = (is_between 1 4, 4)
order_of (Alone pair) = (is_between 1 5, 5)
order_of (Shared pair) = (is_between 1 6, 6)
order_of (TripRow row) = (is_between 1 7, 7)
order_of (Trip trip) = (is_between 1 8, 8)
order_of (Out rider) = (is_between 1 9, 9)
order_of (Move m) = (is_between 1 10, 10)
order_of (Cost n) = (is_between 1 10, 11)
order_of (Bound z) = (λ place. place == 11, 12)
order_of (Nodes n) = (λ place. place == 12, 13)
order_of (Branch branch) = (is_between 13 14, 14)
order_of (Leaf multipliers) = (is_between 13 14, 14)
order_of Dead = (is_between 13 14, 14)
order_of Overflow = (is_between 1 2, 15)
order_of End = (is_between 13 15, 16)

-- the place of a line's kind
abbrev pub kind_place : BlockLine → ℕ
kind_place line = (order_of line).1

-- whether a line may follow one of the kind at this place
abbrev pub may_follow_at : ℕ → BlockLine → Bool
may_follow_at place line = (order_of line).0 place

-- whether each line may follow the one before it
abbrev pub follow_on : ℕ → List BlockLine → Bool
follow_on place [] = true
follow_on place (line ∷ lines) = may_follow_at place line && follow_on (kind_place line) lines

-- the place of the last of them
abbrev pub last_place : ℕ → List BlockLine → ℕ
last_place place [] = place
last_place place (line ∷ lines) = last_place (kind_place line) lines
