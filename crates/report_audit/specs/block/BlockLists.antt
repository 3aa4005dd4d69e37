-- What the lines of a block tell, list by list.
use Rattle.std.specs.Prelude.{ℕ, ℤ, pos, Bool, true, false, List, [], ◌∷◌, ◌++◌, fold}
use Rattle.dispatch_report.specs.declared.block_line.BlockLine.{BlockLine}
use Rattle.dispatch_report.specs.declared.block_line.BlockLine.TheVariants.{Batch, Expired, Overflow, Lapsed, Late, Alone, Shared, TripRow, Trip, Out, Move, Cost, Bound, Nodes, Branch, Leaf, Dead, End}
use Rattle.dispatch_report.specs.declared.block_line.LateText.{LateText}
use Rattle.dispatch_report.specs.declared.block_line.TripRowText.{TripRowText}
use Rattle.dispatch_report.specs.declared.block_line.TripText.{TripText}
use Rattle.request_book.specs.declared.values.outcome.MoveLine.{MoveLine}

-- the numbers and the lists of a block, these as long as they are printed; a tree by its lines
pub record BlockLists : Type 0 where
  pub batch : ℕ
  pub expired : List ℕ
  pub overflow : Bool
  pub lapsed : List ℕ
  pub late : List LateText
  pub rv : List (ℕ × ℕ)
  pub rr : List (ℕ × ℕ)
  pub rows : List TripRowText
  pub chosen : List TripText
  pub left : List ℕ
  pub moves : List MoveLine
  pub cost : ℕ
  pub bound : ℤ
  pub nodes : ℕ
  pub tree : List BlockLine

-- nothing yet
abbrev pub nothing_told : BlockLists
nothing_told = record {
  batch = 0;
  expired = [];
  overflow = false;
  lapsed = [];
  late = [];
  rv = [];
  rr = [];
  rows = [];
  chosen = [];
  left = [];
  moves = [];
  cost = 0;
  bound = pos 0;
  nodes = 0;
  tree = [];
}

-- what one more line adds
abbrev pub with_line : BlockLists → BlockLine → BlockLists
with_line t (Batch n) = record t { batch = n }
with_line t (Expired rider) = record t { expired = t.expired ++ rider ∷ [] }
with_line t Overflow = record t { overflow = true }
with_line t (Lapsed rider) = record t { lapsed = t.lapsed ++ rider ∷ [] }
with_line t (Late late) = record t { late = t.late ++ late ∷ [] }
with_line t (Alone pair) = record t { rv = t.rv ++ pair ∷ [] }
with_line t (Shared pair) = record t { rr = t.rr ++ pair ∷ [] }
with_line t (TripRow row) = record t { rows = t.rows ++ row ∷ [] }
with_line t (Trip trip) = record t { chosen = t.chosen ++ trip ∷ [] }
with_line t (Out rider) = record t { left = t.left ++ rider ∷ [] }
with_line t (Move m) = record t { moves = t.moves ++ m ∷ [] }
with_line t (Cost n) = record t { cost = n }
with_line t (Bound z) = record t { bound = z }
with_line t (Nodes n) = record t { nodes = n }
with_line t (Branch branch) = record t { tree = t.tree ++ Branch branch ∷ [] }
with_line t (Leaf multipliers) = record t { tree = t.tree ++ Leaf multipliers ∷ [] }
with_line t Dead = record t { tree = t.tree ++ Dead ∷ [] }
with_line t End = t

-- what lines tell
abbrev pub told_by : List BlockLine → BlockLists
told_by lines = fold with_line nothing_told lines
