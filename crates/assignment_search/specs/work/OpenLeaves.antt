-- The open leaves of a tree that grows, in a heap.
use Rattle.std.specs.Prelude.{◌≡◌, ℕ, ◌+◌, ◌<◌, List, [], ◌∷◌, length, slice_index_or, ℤ}
use Rattle.std.specs.List.{sum_by}
use Rattle.std.specs.List.Sorted.{IsPermutation}
use Rattle.std.specs.declared.cmp.Ordering.{Ordering}
use Rattle.std.specs.Ordering.{ordering_then, int_cmp, nat_cmp, bool_cmp}
use Rattle.std.specs.Cmp.Lexicographic.{slice_cmp}
use Rattle.std.specs.BinaryHeap.{IsHeap, heap_items, heap_len}
use Rattle.std.specs.declared.cmp.Reverse.{Reverse}
use Rattle.plan_rules.specs.declared.node.Node.{Node}
use Rattle.plan_rules.specs.declared.node.Node.TheVariants.{Branch, Leaf, Dead}
use Rattle.assignment_search.specs.declared.growth.OpenLeaf.{OpenLeaf}
use Rattle.assignment_search.specs.declared.growth.Growing.{Growing}

-- which of two leaves comes first: the one of less value, and of equal ones the first in preorder
abbrev pub leaf_cmp : OpenLeaf → OpenLeaf → Ordering
leaf_cmp a b = ordering_then (int_cmp a.value b.value) (ordering_then (slice_cmp bool_cmp a.turns.items b.turns.items) (nat_cmp a.number b.number))

-- the sum of a weight of the leaves' numbers and values
abbrev pub leaf_sum : (ℕ → ℤ → ℕ) → List ℕ → List Node → List ℤ → ℕ
leaf_sum f [] nodes values = 0
leaf_sum f (q ∷ numbers) [] values = 0
leaf_sum f (q ∷ numbers) (n ∷ nodes) [] = 0
leaf_sum f (q ∷ numbers) (Leaf ms ∷ nodes) (z ∷ values) = f q z + leaf_sum f numbers nodes values
leaf_sum f (q ∷ numbers) (Dead ∷ nodes) (z ∷ values) = leaf_sum f numbers nodes values
leaf_sum f (q ∷ numbers) (Branch v k ∷ nodes) (z ∷ values) = leaf_sum f numbers nodes values

-- the heap has the leaves of these nodes, each with its number and value: all weights sum up to the same
pub record AreOpen (leaves : Growing) (nodes : List Node) (values : List ℤ) : Type 0 where
  pub sized : length leaves.numbers.items ≡ length nodes
  pub valued : length values ≡ length nodes
  pub ordered : IsHeap (λ x y. leaf_cmp y.0 x.0) (heap_items leaves.heap)
  pub same : (f : ℕ → ℤ → ℕ) → sum_by (λ leaf. f leaf.0.number leaf.0.value) (heap_items leaves.heap) ≡ leaf_sum f leaves.numbers.items nodes values
  pub fresh : (i : ℕ) → i < length nodes → slice_index_or leaves.numbers.items i 0 < length nodes
  pub apart : (i j : ℕ) → i < length nodes → j < length nodes → slice_index_or leaves.numbers.items i 0 ≡ slice_index_or leaves.numbers.items j 0 → i ≡ j

-- this is the place of the leaf that comes first
pub record IsFirst (leaves : Growing) (place : ℕ) : Type 0 where
  pub within : place < length leaves.numbers.items
  pub some : 0 < heap_len leaves.heap
  pub number : (leaf : Reverse OpenLeaf) → leaf ≡ slice_index_or (heap_items leaves.heap) 0 leaf → slice_index_or leaves.numbers.items place 0 ≡ leaf.0.number

-- the leaf that came first gives way to the ends of its branch, the first of which has this number
pub record OpensEnds (number : ℕ) (first second : Node) (a b : ℤ) (old new : List (Reverse OpenLeaf)) : Type 0 where
  pub leaf : Reverse OpenLeaf
  pub rest : List (Reverse OpenLeaf)
  pub top : leaf ≡ slice_index_or old 0 leaf
  pub permutation : IsPermutation old (leaf ∷ rest)
  pub order : IsHeap (λ x y. leaf_cmp y.0 x.0) old → IsHeap (λ x y. leaf_cmp y.0 x.0) new
  pub sum : (f : ℕ → ℤ → ℕ) → sum_by (λ leaf. f leaf.0.number leaf.0.value) new ≡ leaf_sum f ((number + 1) ∷ []) (second ∷ []) (b ∷ []) + (leaf_sum f (number ∷ []) (first ∷ []) (a ∷ []) + sum_by (λ leaf. f leaf.0.number leaf.0.value) rest)
