use Rattle.std.proofs.Common.{
  rules,
  ◌≡◌,
  ℕ,
  zero,
  suc,
  ◌+◌,
  ◌*◌,
  ◌/◌,
  ◌%◌,
  ◌<◌,
  ◌≤◌,
  ◌==◌,
  Bool,
  true,
  List,
  [],
  ◌∷◌,
  map,
  inl,
  inr,
  unwrap_or,
  refl,
  ap,
  subst,
  ◌∙◌,
  arith,
}
use Rattle.input_rows.proofs.Common.{
  list_any,
  cases_eq,
  false≢true,
  list_any-append,
  mod_below,
  Stream,
  number_at,
  has_node,
  greatest_name,
  nodes_of,
  names_in,
  any-distinct,
  LoadShape,
  Field,
  draw,
  Part,
  both,
  each,
  arcs_right,
  arcs_down,
  arcs_of_row,
  network_part,
  node_id,
  arcs_between,
}
use Rattle.std.specs.List.{flat_map}
use Rattle.std.proofs.lemmas.Bool.{lt-ltb, eq-eqb}
use Rattle.std.proofs.lemmas.Nat.{div-add-mod'}
use Rattle.std.proofs.Math.Bool.{or-true}
use Rattle.std.proofs.Math.Nat.{div-lt_iff_lt-mul}
use Rattle.input_rows.proofs.made.FieldLemmas.{number_up_to-decimal}
use Rattle.input_rows.proofs.made.TextLemmas.{fields_of}
use Rattle.input_rows.proofs.made.NetworkLemmas.{network_rows, node_small}
use Rattle.input_rows.specs.declared.made.row.Field.TheVariants as field

-- whether a row's arc starts at a node
abbrev pub starts_at : ℕ → List Field → Bool
starts_at n row = number_at (fields_of row) 0 == n

-- a part that names a node, whatever the draws
abbrev pub Naming : ℕ → Part → Type 0
Naming n part = (s : Stream) → list_any (starts_at n) (part s).0 ≡ true

Naming-left : (n : ℕ) (first second : Part) → Naming n first → Naming n (both first second)
Naming-left n first second here s = search (rules, list_any-append)

Naming-right : (n : ℕ) (first second : Part) → Naming n second → Naming n (both first second)
Naming-right n first second rest s = search (rules, list_any-append, or-true)

Naming-each : (n : ℕ) (parts : ℕ → Part) (k count : ℕ) → k < count → Naming n (parts k) → Naming n (each parts count)
Naming-each n parts k zero inside is = absurd (omega arith)
Naming-each n parts k (suc m) inside is =
    elim (cases_eq k m) [
      | inl same ↦ Naming-right n (each parts m) (parts m) (subst (λ i. Naming n (parts i)) same is)
      | inr other ↦ Naming-left n (each parts m) (parts m) (Naming-each n parts k m (omega (arith, inside, other)) is)
    ]

starts : (a b t : ℕ) → a ≤ greatest_name → starts_at a (field.Number a ∷ field.Number b ∷ field.Number t ∷ []) ≡ true
starts a b t small = ap (λ o. unwrap_or o 0 == a) (number_up_to-decimal greatest_name a small (omega arith)) ∙ eq-eqb a a refl

-- two arcs between two nodes start at either
Naming-first : (a b : ℕ) → a ≤ greatest_name → Naming a (arcs_between a b)
unfolding arcs_between
Naming-first a b small s = rw (starts a b (20 + (draw 41 s).0) small) refl

Naming-second : (a b : ℕ) → b ≤ greatest_name → Naming b (arcs_between a b)
unfolding arcs_between
Naming-second a b small s = rw (starts b a (20 + (draw 41 s).0) small, or-true) refl

-- what the arcs between a node and the next name, their row of the square names
Naming-right_of : (n side i k : ℕ) → k + 1 < side → Naming n (arcs_between (node_id side i k) (node_id side i (k + 1))) → Naming n (arcs_of_row side i)
unfolding arcs_of_row arcs_right
Naming-right_of n side i k inside here =
    Naming-each n (λ j. both (arcs_right side i j) (arcs_down side i j)) k side (omega (arith, inside))
    (Naming-left n (arcs_right side i k) (arcs_down side i k) (rw (lt-ltb (k + 1) side inside) here))

-- a row of the square names each of its nodes: the first with the arcs to the next, the others with those from the one before
Naming-row : (side i j : ℕ) → 2 ≤ side → side ≤ 100 → i < side → j < side → Naming (node_id side i j) (arcs_of_row side i)
Naming-row side i zero two small row column =
    Naming-right_of (node_id side i 0) side i 0 (omega (arith, two)) (Naming-first (node_id side i 0) (node_id side i (0 + 1))
    (node_small side i 0 small (omega arith) (omega arith)))
Naming-row side i (suc k) two small row column =
    let n : ℕ = node_id side i (k + 1) in
    subst (λ j. Naming (node_id side i j) (arcs_of_row side i)) (omega arith)
    (Naming-right_of n side i k (omega (arith, column)) (Naming-second (node_id side i k) n (node_small side i (k + 1) small (omega arith) (omega arith))))

Naming-network : (shape : LoadShape) (i j : ℕ) → 2 ≤ shape.side → shape.side ≤ 100 → i < shape.side → j < shape.side →
    Naming (node_id shape.side i j) (network_part shape)
unfolding network_part
Naming-network shape i j two small row column = search (rules, Naming-each, Naming-row)

Naming-number : (shape : LoadShape) (m : ℕ) → 2 ≤ shape.side → shape.side ≤ 100 → m < shape.side * shape.side → Naming (1 + m) (network_part shape)
Naming-number shape m two small inside =
    let side : ℕ = shape.side in
    let row : m / side < side = (div-lt_iff_lt-mul {k = side} {x = m} {y = side} (omega arith)).1 inside in
    let column : m % side < side = mod_below m side (omega arith) in
    let whole : m / side * side + m % side ≡ m = div-add-mod' m side in
    subst (λ n. Naming n (network_part shape)) (omega (arith, whole)) (Naming-network shape (m / side) (m % side) two small row column)

-- a node at which a row's arc starts is named
named : (rows : List (List Field)) (n : ℕ) → list_any (starts_at n) rows ≡ true → list_any (λ node. node == n) (flat_map names_in (map fields_of rows)) ≡ true
named [] n is = absurd (false≢true is)
named (row ∷ rows) n is = grind (arith, named rows n)

-- each number of the square is a node of the network
pub node_known : (shape : LoadShape) (m : ℕ) → 2 ≤ shape.side → shape.side ≤ 100 → m < shape.side * shape.side →
    has_node (nodes_of (map fields_of (network_rows shape))) (1 + m) ≡ true
node_known shape m two small inside = search (rules, any-distinct, fields_of, network_rows, named, Naming-number)
