-- Shortest walks: their seconds are one number, and what is left of one is one.
use Rattle.std.proofs.Common.{
  ◌≡◌,
  ℕ,
  zero,
  suc,
  ◌+◌,
  ◌<◌,
  ◌≤◌,
  true,
  false,
  eqb,
  List,
  [],
  ◌∷◌,
  length,
  get_or,
  Contains,
  nat_eq,
  refl,
  sym,
  ◌∙◌,
  arith,
  inl,
  inr,
  rules,
}
use Rattle.route_drive.proofs.Common.{
  IsDistinct,
  false≢true,
  All-from_recursion,
  Contains-get_or,
  passes_at_first,
  never,
  Arc,
  IsWalk,
  walk_seconds,
  IsLeastTime,
  IsTimeBetween,
  index_in,
  has_node,
  eqb-true,
  eq-eqb,
  IsWalk-append,
  walk_seconds-append,
  nat_tests,
}

pub between_unique : (arcs : List Arc) (a b s t : ℕ) → IsTimeBetween arcs a b s → IsTimeBetween arcs a b t → s ≡ t
between_unique arcs a b s t (inl one) (inl other) = omega (arith, one.least other.walk other.walks, other.least one.walk one.walks, one.takes, other.takes)
between_unique arcs a b s t (inl one) (inr other) = absurd (other.0 one.walk one.walks)
between_unique arcs a b s t (inr one) (inl other) = absurd (one.0 other.walk other.walks)
between_unique arcs a b s t (inr one) (inr other) = one.1 ∙ sym other.1

-- a time that isn't `never` is that of a walk
pub least_between : (arcs : List Arc) (a b s : ℕ) → IsTimeBetween arcs a b s → s < never → IsLeastTime arcs a b s
least_between arcs a b s (inl one) short = one
least_between arcs a b s (inr one) short = absurd (omega (arith, one.1))

-- what is left of a shortest walk is a shortest walk
pub rest_is_least : (arcs before rest : List Arc) (start via goal : ℕ) → IsWalk arcs start before via → IsWalk arcs via rest goal
    → ((other : List Arc) → IsWalk arcs start other goal → walk_seconds before + walk_seconds rest ≤ walk_seconds other)
    → IsLeastTime arcs via goal (walk_seconds rest)
rest_is_least arcs before rest start via goal there onward least = search (rules, IsWalk-append, walk_seconds-append)

-- a node that is among the nodes has an index
pub has_index : (nodes : List ℕ) (node : ℕ) → has_node nodes node ≡ true → index_in nodes node < length nodes
has_index [] node h = absurd (false≢true h)
has_index (x ∷ xs) node h = grind (arith, nat_tests, has_index xs node)

-- the name at an index is a node, and has that index
pub is_node_at : (nodes : List ℕ) (k : ℕ) → k < length nodes → has_node nodes (get_or nodes k 0) ≡ true
is_node_at [] k h = absurd (omega arith)
is_node_at (x ∷ xs) zero h = rw (eq-eqb x x refl) refl
is_node_at (x ∷ xs) (suc k) h = grind (arith, nat_tests, is_node_at xs k (omega arith))

pub index_at : (nodes : List ℕ) (k : ℕ) → IsDistinct nat_eq nodes → k < length nodes → index_in nodes (get_or nodes k 0) ≡ k
unfolding IsDistinct
index_at [] k apart h = absurd (omega arith)
index_at (x ∷ xs) zero apart h = rw (eq-eqb x x refl) refl
index_at (x ∷ xs) (suc k) apart h = grind (
  arith,
  nat_tests,
  index_at xs k apart.1 (omega arith),
  All-from_recursion (λ y. nat_eq x y ≡ false) xs apart.0 k 0
      (omega arith),
)

-- a node with an index is the name at it
pub name_at : (nodes : List ℕ) (node : ℕ) → index_in nodes node < length nodes → get_or nodes (index_in nodes node) 0 ≡ node
name_at nodes node h = sym (eqb-true node (get_or nodes (index_in nodes node) 0) (passes_at_first (λ x. eqb node x) nodes 0 h))

pub contains_node : (nodes : List ℕ) (node : ℕ) → has_node nodes node ≡ true → Contains nodes node
contains_node nodes node h = search (rules, (has_index nodes node h), (name_at nodes node), (Contains-get_or nodes))
