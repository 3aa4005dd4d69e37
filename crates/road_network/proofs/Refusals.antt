-- The first refusal, row by row.
use Rattle.std.proofs.Common.{rules, ◌≡◌, ℕ, ◌+◌, ◌<◌, ◌≤◌, cond, List, [], Some, None, Ok, Err, length, get_or, take, arith, nat_lt}
use Rattle.road_network.proofs.Common.{
  nat_tests,
  first_fault,
  most_nodes,
  most_arcs,
  nodes_of,
  field_refusal,
  refusal_at,
  network_of,
  first_refusal,
  roads_of,
  with_row,
  TooManyArcs,
  TooManyNodes,
}
use Rattle.std.specs.Option.{option_or}
use Rattle.std.proofs.lemmas.Bool.{le-ltb, lt-ltb}
use Rattle.pool_base.proofs.lemmas.InOrderLemmas.{first_fault-none, first_fault-some, first_fault-each, first_fault-all}
use Rattle.road_network.specs.declared.fault.NetworkFault.{NetworkFault}
use Rattle.road_network.proofs.RowSteps.{nodes_of-more}

-- a row is refused by its fields, or since it brings too many nodes
pub refusal_at-parts : (rows : List (List (List ℕ))) (row : ℕ) → refusal_at rows row ≡ option_or (field_refusal (row + 1) (get_or rows row []))
    (cond (nat_lt most_nodes (length (nodes_of (take (row + 1) rows)))) (Some (TooManyNodes (row + 1))) None)
unfolding refusal_at field_refusal
refusal_at-parts rows row = grind arith

-- a row whose fields are accepted is refused where it brings too many nodes
refusal_at-accepted : (rows : List (List (List ℕ))) (row : ℕ) (nodes : List ℕ) → row < length rows → nodes ≡ nodes_of (take row rows) →
    field_refusal (row + 1) (get_or rows row []) ≡ None
    → refusal_at rows row ≡ cond (nat_lt most_nodes (length (with_row nodes (get_or rows row [])))) (Some (TooManyNodes (row + 1))) None
refusal_at-accepted rows row nodes within so_far accepted = search (rules, refusal_at-parts, nodes_of-more)

-- a row that is accepted
pub first_refusal-next : (rows : List (List (List ℕ))) (row : ℕ) (nodes : List ℕ) → row < length rows → nodes ≡ nodes_of (take row rows) →
    field_refusal (row + 1) (get_or rows row []) ≡ None → length (with_row nodes (get_or rows row [])) ≤ most_nodes
    → first_fault (refusal_at rows) row ≡ None → first_fault (refusal_at rows) (row + 1) ≡ None
first_refusal-next rows row nodes within so_far accepted few before = grind (
  arith,
  nat_tests,
  first_fault-none,
  (refusal_at-accepted rows row nodes within so_far accepted),
  le-ltb,
)

-- a row whose fields are refused
pub first_refusal-field : (rows : List (List (List ℕ))) (row : ℕ) (fault : NetworkFault) → row < length rows →
    field_refusal (row + 1) (get_or rows row []) ≡ Some fault
    → first_fault (refusal_at rows) row ≡ None → first_refusal rows ≡ Some fault
first_refusal-field rows row fault within refused before = search (rules, first_fault-some, refusal_at-parts)

-- a row that brings too many nodes
pub first_refusal-nodes : (rows : List (List (List ℕ))) (row : ℕ) (nodes : List ℕ) → row < length rows → nodes ≡ nodes_of (take row rows) →
    field_refusal (row + 1) (get_or rows row []) ≡ None → most_nodes < length (with_row nodes (get_or rows row []))
    → first_fault (refusal_at rows) row ≡ None → first_refusal rows ≡ Some (TooManyNodes (row + 1))
first_refusal-nodes rows row nodes within so_far accepted many before = grind (
  arith,
  nat_tests,
  first_fault-some,
  (refusal_at-accepted rows row nodes within so_far accepted),
  lt-ltb,
)

-- no row is left
pub first_refusal-end : (rows : List (List (List ℕ))) (row : ℕ) → length rows ≤ row → first_fault (refusal_at rows) row ≡ None → first_refusal rows ≡ None
first_refusal-end rows row all none =
    first_fault-all (refusal_at rows) (length rows) (λ k below. first_fault-each (refusal_at rows) row k none (omega (arith, below, all)))

pub network_of-refused : (rows : List (List (List ℕ))) (fault : NetworkFault) → length rows ≤ most_arcs → first_refusal rows ≡ Some fault →
    network_of rows ≡ Err fault
unfolding network_of
network_of-refused rows fault few refused = search rules

pub network_of-accepted : (rows : List (List (List ℕ))) → length rows ≤ most_arcs → first_refusal rows ≡ None → network_of rows ≡ Ok (roads_of rows)
unfolding network_of
network_of-accepted rows few accepted = search rules

pub network_of-too_many : (rows : List (List (List ℕ))) → most_arcs < length rows → network_of rows ≡ Err TooManyArcs
unfolding network_of
network_of-too_many rows many = search rules
