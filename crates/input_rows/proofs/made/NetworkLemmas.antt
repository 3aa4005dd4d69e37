use Rattle.std.proofs.lemmas.Bool.Decides.{nat_tests}
use Rattle.std.proofs.Common.{
  rules,
  ◌≡◌,
  ℕ,
  zero,
  suc,
  ◌+◌,
  ◌*◌,
  ◌<◌,
  ◌≤◌,
  Bool,
  cond,
  ltb,
  List,
  [],
  ◌∷◌,
  Some,
  None,
  Ok,
  map,
  length,
  take,
  get_or,
  refl,
  ap,
  ◌∙◌,
  arith,
}
use Rattle.input_rows.proofs.Common.{
  option_or,
  length-map,
  get_or-map,
  mod_below,
  length-distinct,
  first_fault-all,
  most_nodes,
  longest_arc,
  greatest_name,
  nodes_of,
  field_refusal,
  refusal_at,
  network_of,
  names_in,
  roads_of,
  LoadShape,
  Field,
  draw,
  both,
  draws_of,
  nothing,
  arcs_right,
  arcs_down,
  arcs_of_row,
  network_part,
  node_id,
  arcs_between,
}
use Rattle.std.specs.List.{flat_map}
use Rattle.std.proofs.lemmas.Bool.{le-ltb}
use Rattle.std.proofs.lemmas.List.{length-append, length-take-le}
use Rattle.std.proofs.Math.Nat.{mul-le-mul}
use Rattle.road_network.specs.declared.fault.NetworkFault.TheVariants.{TooManyNodes}
use Rattle.input_rows.proofs.made.FieldLemmas.{AllFit, number_up_to-decimal}
use Rattle.input_rows.proofs.made.TextLemmas.{fields_of, RowsFit}
use Rattle.input_rows.proofs.made.PartLemmas.{Step, Lead, Lead-fit, IsPart, IsPart-nothing, IsPart-both, IsPart-each, IsPart-cond}
use Rattle.input_rows.specs.declared.made.row.Field.TheVariants as field

-- a row of an arc: two names of nodes, and its seconds
pub record IsArc (row : List Field) : Type 0 where
  pub from : ℕ
  pub to : ℕ
  pub seconds : ℕ
  pub is : row ≡ field.Number from ∷ field.Number to ∷ field.Number seconds ∷ []
  pub from_small : from ≤ greatest_name
  pub to_small : to ≤ greatest_name
  pub short : seconds ≤ longest_arc

-- each row is one of an arc
abbrev pub ArcStep : Step
ArcStep low row next = IsArc row

IsArcs-between : (a b : ℕ) → a ≤ greatest_name → b ≤ greatest_name → IsPart ArcStep 0 0 2 (arcs_between a b)
unfolding arcs_between draw
IsArcs-between a b a_small b_small = search (rules, mod_below)

pub node_small : (side i j : ℕ) → side ≤ 100 → i ≤ side → j ≤ side → node_id side i j ≤ greatest_name
node_small side i j small row column = search (rules, mul-le-mul)

-- the arcs of a node to its neighbour, where the square goes on there
IsArcs-where : (c : Bool) (a b : ℕ) → a ≤ greatest_name → b ≤ greatest_name → IsPart ArcStep 0 0 2 (cond c (arcs_between a b) nothing)
IsArcs-where c a b a_small b_small = IsPart-cond ArcStep 0 0 2 c (arcs_between a b) nothing (IsArcs-between a b a_small b_small) (IsPart-nothing ArcStep 0 2)

IsArcs-node : (side i j : ℕ) → side ≤ 100 → i < side → j < side → IsPart ArcStep 0 0 4 (both (arcs_right side i j) (arcs_down side i j))
unfolding arcs_right arcs_down
IsArcs-node side i j small row column =
    let here : node_id side i j ≤ greatest_name = node_small side i j small (omega arith) (omega arith) in
    IsPart-both ArcStep 0 0 0 2 2 (arcs_right side i j) (arcs_down side i j)
    (IsArcs-where (ltb (j + 1) side) (node_id side i j) (node_id side i (j + 1)) here (node_small side i (j + 1) small (omega arith) (omega arith)))
    (IsArcs-where (ltb (i + 1) side) (node_id side i j) (node_id side (i + 1) j) here (node_small side (i + 1) j small (omega arith) (omega arith)))

IsArcs-network : (shape : LoadShape) → shape.side ≤ 100 → IsPart ArcStep 0 0 (shape.side * (shape.side * 4)) (network_part shape)
unfolding network_part arcs_of_row
IsArcs-network shape small =
    let side : ℕ = shape.side in
    IsPart-each ArcStep (λ i. 0) (side * 4) (arcs_of_row side) side
    (λ i row. IsPart-each ArcStep (λ j. 0) 4 (λ j. both (arcs_right side i j) (arcs_down side i j)) side (λ j column. IsArcs-node side i j small row column))

-- a row of an arc has three fields, whose numbers are numbers of the files
arc_fits : (low next : ℕ) (row : List Field) → IsArc row → (length row ≡ 3) × AllFit row
arc_fits low next row arc = search (rules, AllFit)

-- no field of an arc is refused
no_field : (number : ℕ) (row : List Field) → IsArc row → field_refusal number (fields_of row) ≡ None
unfolding field_refusal
no_field number row arc = search (rules, number_up_to-decimal, le-ltb)

-- a row names two nodes
two_names : (rows : List (List (List ℕ))) → length (flat_map names_in rows) ≡ 2 * length rows
two_names [] = refl
two_names (fields ∷ rows) = search (rules, length-append, (two_names rows))

-- rows of arcs, place by place
arc_at : (low high : ℕ) (rows : List (List Field)) (k : ℕ) → Lead ArcStep low high rows → k < length rows → IsArc (get_or rows k [])
arc_at low high [] k all below = absurd (omega (arith, below))
arc_at low high (row ∷ rows) zero all below = all.1
arc_at low high (row ∷ rows) (suc k) all below = arc_at all.0 high rows k all.2 (omega (arith, below))

refusal_parts : (rows : List (List (List ℕ))) (k : ℕ) → refusal_at rows k ≡ option_or (field_refusal (k + 1) (get_or rows k []))
    (cond (ltb most_nodes (length (nodes_of (take (k + 1) rows)))) (Some (TooManyNodes (k + 1))) None)
unfolding refusal_at field_refusal
refusal_parts rows k = grind arith

-- no row of arcs is refused, where the rows are few
no_refusal : (rows : List (List Field)) (k : ℕ) → Lead ArcStep 0 0 rows → 2 * length rows ≤ most_nodes → k < length rows →
    refusal_at (map fields_of rows) k ≡ None
no_refusal rows k all few below =
    let records : List (List (List ℕ)) = map fields_of rows in
    let fine : field_refusal (k + 1) (get_or records k []) ≡ None =
    ap (field_refusal (k + 1)) (get_or-map fields_of rows k [] [] below) ∙ no_field (k + 1) (get_or rows k []) (arc_at 0 0 rows k all below) in
    let size : length records ≡ length rows = length-map rows fields_of in
    refusal_parts records k
    ∙ ap (λ o. option_or o (cond (ltb most_nodes (length (nodes_of (take (k + 1) records)))) (Some (TooManyNodes (k + 1))) None)) fine
    ∙ ap (λ b. cond b (Some (TooManyNodes (k + 1))) None) (le-ltb most_nodes (length (nodes_of (take (k + 1) records)))
    (omega (
      arith,
      length-distinct (flat_map names_in (take (k + 1) records)),
      two_names (take (k + 1) records),
      length-take-le (k + 1) records
          (omega (arith, below, size)),
      below,
      few,
    )))

network_given : (rows : List (List Field)) → Lead ArcStep 0 0 rows → length rows ≤ 40000 → network_of (map fields_of rows) ≡ Ok (roads_of (map fields_of rows))
unfolding network_of
network_given rows all few = search (rules, fields_of, length-map, first_fault-all, no_refusal, le-ltb)

-- the rows of the network of a shape
abbrev pub network_rows : LoadShape → List (List Field)
network_rows shape = (network_part shape (draws_of shape.seed)).0

network_few : (shape : LoadShape) → shape.side ≤ 100 → length (network_rows shape) ≤ 40000
network_few shape small =
    let most : length (network_rows shape) ≤ shape.side * (shape.side * 4) = (IsArcs-network shape small).few (draws_of shape.seed) in
    let inner : shape.side * 4 ≤ 400 = omega (arith, small) in
    let area : shape.side * (shape.side * 4) ≤ 100 * 400 = mul-le-mul small inner in
    omega (arith, most, area)

-- the rows of a shape's network give a network
pub network_accepted : (shape : LoadShape) → shape.side ≤ 100 → RowsFit 3 (network_rows shape) ×
    (network_of (map fields_of (network_rows shape)) ≡ Ok (roads_of (map fields_of (network_rows shape))))
network_accepted shape small = grind (arith, nat_tests, Lead, (IsArcs-network shape small), Lead-fit, (arc_fits 0 0), network_given, (network_few shape small))
