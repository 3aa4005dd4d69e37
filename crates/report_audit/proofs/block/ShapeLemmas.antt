-- A block in form is what some lists tell, printed.
use Rattle.std.proofs.Common.{◌≡◌, ℕ, Bool, true, false, if◌then◌else◌, List, [], ◌∷◌, ◌++◌, drop, flat_map, map, append_assoc, refl, ap, arith}
use Rattle.report_audit.proofs.Common.{
  All-cons,
  follow_on,
  last_place,
  BlockLine,
  Expired,
  Overflow,
  Lapsed,
  Late,
  Alone,
  Shared,
  TripRow,
  Trip,
  Out,
  Move,
  Cost,
  Bound,
  Nodes,
  Branch,
  Leaf,
  Dead,
  End,
  BlockLists,
  nothing_told,
}
use Rattle.std.specs.List.{All}
use Rattle.dispatch_report.specs.declared.block_line.BlockLine.TheVariants.{Batch}

-- a line of a tree
abbrev pub IsNodeLine : BlockLine → Type 0
IsNodeLine (Branch branch) = Unit {0}
IsNodeLine (Leaf multipliers) = Unit {0}
IsNodeLine Dead = Unit {0}
IsNodeLine _ = ⊥

-- the lines of what is told, kind by kind, and those behind so many kinds
abbrev kinds : BlockLists → List (List BlockLine)
kinds t = map Lapsed t.lapsed ∷ map Late t.late ∷ map Alone t.rv ∷ map Shared t.rr ∷ map TripRow t.rows ∷ map Trip t.chosen ∷ map Out t.left ∷ map Move t.moves
    ∷ (Cost t.cost ∷ Bound t.bound ∷ Nodes t.nodes ∷ []) ∷ t.tree ∷ (End ∷ []) ∷ []

abbrev pub from : ℕ → BlockLists → List BlockLine
from n t = flat_map (λ l. l) (drop n (kinds t))

-- something told has these lines
abbrev Are : (BlockLists → List BlockLine) → List BlockLine → Type 0
Are of lines = (t : BlockLists) × All IsNodeLine t.tree × (lines ≡ of t)

after_end : (l : List BlockLine) → follow_on 16 l ≡ true → l ≡ []
after_end [] f = refl
after_end (End ∷ l) f = absurd (cc)
after_end (x ∷ l) f = absurd (cc)

after_overflow : (l : List BlockLine) → follow_on 15 l ≡ true → last_place 15 l ≡ 16 → l ≡ End ∷ []
after_overflow [] f e = absurd (omega arith)
after_overflow (End ∷ l) f e = ap (λ r. End ∷ r) (after_end l f)
after_overflow (x ∷ l) f e = absurd (cc)

node : (x : BlockLine) (l : List BlockLine) → IsNodeLine x → Are (from 9) l → Are (from 9) (x ∷ l)
node x l is (t, drawn, whole) = (record t { tree = x ∷ t.tree }, All-cons IsNodeLine x t.tree is drawn, ap (λ r. x ∷ r) whole)

tree_more : (l : List BlockLine) → follow_on 14 l ≡ true → last_place 14 l ≡ 16 → Are (from 9) l
tree_more [] f e = absurd (omega arith)
tree_more (Branch branch ∷ l) f e = node (Branch branch) l tt (tree_more l f e)
tree_more (Leaf multipliers ∷ l) f e = node (Leaf multipliers) l tt (tree_more l f e)
tree_more (Dead ∷ l) f e = node Dead l tt (tree_more l f e)
tree_more (End ∷ l) f e = (nothing_told, (λ k d within. absurd (omega arith)), ap (λ r. End ∷ r) (after_end l f))
tree_more (x ∷ l) f e = absurd (cc)

tree : (l : List BlockLine) → follow_on 13 l ≡ true → last_place 13 l ≡ 16 → Are (from 9) l
tree [] f e = absurd (omega arith)
tree (Dead ∷ l) f e = tree_more (Dead ∷ l) f e
tree (x ∷ l) f e = tree_more (x ∷ l) f e

nodes : (l : List BlockLine) → follow_on 12 l ≡ true → last_place 12 l ≡ 16 → Are (λ t. Nodes t.nodes ∷ from 9 t) l
nodes [] f e = absurd (omega arith)
nodes (Nodes n ∷ l) f e = let b = tree l f e in (record b.0 { nodes = n }, b.1, ap (λ r. Nodes n ∷ r) b.2)
nodes (x ∷ l) f e = absurd (cc)

bound : (l : List BlockLine) → follow_on 11 l ≡ true → last_place 11 l ≡ 16 → Are (λ t. Bound t.bound ∷ Nodes t.nodes ∷ from 9 t) l
bound [] f e = absurd (omega arith)
bound (Bound z ∷ l) f e = let b = nodes l f e in (record b.0 { bound = z }, b.1, ap (λ r. Bound z ∷ r) b.2)
bound (x ∷ l) f e = absurd (cc)

moves : (l : List BlockLine) → follow_on 10 l ≡ true → last_place 10 l ≡ 16 → Are (from 7) l
moves [] f e = absurd (omega arith)
moves (Move m ∷ l) f e = let b = moves l f e in (record b.0 { moves = m ∷ b.0.moves }, b.1, ap (λ r. Move m ∷ r) b.2)
moves (Cost n ∷ l) f e = let b = bound l f e in (record b.0 { moves = []; cost = n }, b.1, ap (λ r. Cost n ∷ r) b.2)
moves (x ∷ l) f e = absurd (cc)

left : (l : List BlockLine) → follow_on 9 l ≡ true → last_place 9 l ≡ 16 → Are (from 6) l
left [] f e = absurd (omega arith)
left (Out rider ∷ l) f e = let b = left l f e in (record b.0 { left = rider ∷ b.0.left }, b.1, ap (λ r. Out rider ∷ r) b.2)
left (x ∷ l) f e = let b = moves (x ∷ l) f e in (record b.0 { left = [] }, b.1, b.2)

chosen : (l : List BlockLine) → follow_on 8 l ≡ true → last_place 8 l ≡ 16 → Are (from 5) l
chosen [] f e = absurd (omega arith)
chosen (Trip trip ∷ l) f e = let b = chosen l f e in (record b.0 { chosen = trip ∷ b.0.chosen }, b.1, ap (λ r. Trip trip ∷ r) b.2)
chosen (x ∷ l) f e = let b = left (x ∷ l) f e in (record b.0 { chosen = [] }, b.1, b.2)

rows : (l : List BlockLine) → follow_on 7 l ≡ true → last_place 7 l ≡ 16 → Are (from 4) l
rows [] f e = absurd (omega arith)
rows (TripRow row ∷ l) f e = let b = rows l f e in (record b.0 { rows = row ∷ b.0.rows }, b.1, ap (λ r. TripRow row ∷ r) b.2)
rows (x ∷ l) f e = let b = chosen (x ∷ l) f e in (record b.0 { rows = [] }, b.1, b.2)

rr : (l : List BlockLine) → follow_on 6 l ≡ true → last_place 6 l ≡ 16 → Are (from 3) l
rr [] f e = absurd (omega arith)
rr (Shared pair ∷ l) f e = let b = rr l f e in (record b.0 { rr = pair ∷ b.0.rr }, b.1, ap (λ r. Shared pair ∷ r) b.2)
rr (x ∷ l) f e = let b = rows (x ∷ l) f e in (record b.0 { rr = [] }, b.1, b.2)

rv : (l : List BlockLine) → follow_on 5 l ≡ true → last_place 5 l ≡ 16 → Are (from 2) l
rv [] f e = absurd (omega arith)
rv (Alone pair ∷ l) f e = let b = rv l f e in (record b.0 { rv = pair ∷ b.0.rv }, b.1, ap (λ r. Alone pair ∷ r) b.2)
rv (x ∷ l) f e = let b = rr (x ∷ l) f e in (record b.0 { rv = [] }, b.1, b.2)

late : (l : List BlockLine) → follow_on 4 l ≡ true → last_place 4 l ≡ 16 → Are (from 1) l
late [] f e = absurd (omega arith)
late (Late order ∷ l) f e = let b = late l f e in (record b.0 { late = order ∷ b.0.late }, b.1, ap (λ r. Late order ∷ r) b.2)
late (x ∷ l) f e = let b = rv (x ∷ l) f e in (record b.0 { late = [] }, b.1, b.2)

lapsed : (l : List BlockLine) → follow_on 3 l ≡ true → last_place 3 l ≡ 16 → Are (from 0) l
lapsed [] f e = absurd (omega arith)
lapsed (Lapsed rider ∷ l) f e = let b = lapsed l f e in (record b.0 { lapsed = rider ∷ b.0.lapsed }, b.1, ap (λ r. Lapsed rider ∷ r) b.2)
lapsed (x ∷ l) f e = let b = late (x ∷ l) f e in (record b.0 { lapsed = [] }, b.1, b.2)

-- the lines of a block: its number, the expired riders, and an overflow or a plan
abbrev pub printed : Bool → BlockLists → List BlockLine
printed overflow t = Batch t.batch ∷ (map Expired t.expired ++ (if overflow then Overflow ∷ End ∷ [] else from 0 t))

-- some block has these lines behind its number
abbrev HasRest : List BlockLine → Type 0
HasRest lines = (overflow : Bool) × (t : BlockLists) × All IsNodeLine t.tree × (Batch t.batch ∷ lines ≡ printed overflow t)

expired_more : (rider : ℕ) (l : List BlockLine) → HasRest l → HasRest (Expired rider ∷ l)
expired_more rider l (overflow, t, drawn, whole) = (
  overflow,
  record t { expired = rider ∷ t.expired },
  drawn,
  ap
      (λ r. Batch t.batch ∷ Expired rider ∷ drop 1 r) whole,
)

expired : (l : List BlockLine) → follow_on 2 l ≡ true → last_place 2 l ≡ 16 → HasRest l
expired [] f e = absurd (omega arith)
expired (Expired rider ∷ l) f e = expired_more rider l (expired l f e)
expired (Overflow ∷ l) f e = (true, nothing_told, (λ k d within. absurd (omega arith)), ap (λ r. Batch 0 ∷ Overflow ∷ r) (after_overflow l f e))
expired (x ∷ l) f e = let b = lapsed (x ∷ l) f e in (false, record b.0 { expired = [] }, b.1, ap (λ r. Batch b.0.batch ∷ r) b.2)

from_one : (l : List BlockLine) → follow_on 1 l ≡ true → last_place 1 l ≡ 16 → HasRest l
from_one [] f e = absurd (omega arith)
from_one (Expired rider ∷ l) f e = expired (Expired rider ∷ l) f e
from_one (x ∷ l) f e = expired (x ∷ l) f e

numbered_as : (n : ℕ) (l : List BlockLine) → HasRest l → (overflow : Bool) × (t : BlockLists) × All IsNodeLine t.tree × (Batch n ∷ l ≡ printed overflow t)
numbered_as n l (overflow, t, drawn, whole) = (overflow, record t { batch = n }, drawn, ap (λ r. Batch n ∷ drop 1 r) whole)

-- each block in form has these lines of something told
pub is_printed : (l : List BlockLine) → follow_on 0 l ≡ true → last_place 0 l ≡ 16 → (overflow : Bool) × (t : BlockLists) × All IsNodeLine t.tree ×
    (l ≡ printed overflow t)
is_printed [] f e = absurd (omega arith)
is_printed (Batch n ∷ l) f e = numbered_as n l (from_one l f e)
is_printed (x ∷ l) f e = absurd (cc)

-- lists that are joined from the front, joined from the end
pub nest : (b x a c d e r f g h n t z : List BlockLine) → b ++ x ++ ((a ++ c ++ d ++ e ++ r) ++ (f ++ g ++ h) ++ n ++ t) ++ z ≡ b ++
    (x ++ (a ++ (c ++ (d ++ (e ++ (r ++ (f ++ (g ++ (h ++ (n ++ (t ++ z)))))))))))
nest b x a c d e r f g h n t z = simp append_assoc refl
