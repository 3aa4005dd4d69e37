-- One more row of a network.
use Rattle.std.proofs.Common.{rules, ◌≡◌, ◌==◌, ℕ, ◌+◌, ◌<◌, ◌≤◌, List, [], ◌∷◌, ◌++◌, length, get_or, take, map, refl, sym, ap, ◌∙◌, All}
use Rattle.road_network.proofs.Common.{
  list_any,
  flat_map_more,
  map_more,
  take_more,
  All-map,
  All-more,
  Arc,
  IsArcAmong,
  index_in,
  longest_arc,
  arc_in,
  nodes_of,
  arc_seconds,
  names_in,
  number_at,
  with_row,
  with_name,
}
use Rattle.std.specs.List.{flat_map}
use Rattle.std.proofs.lemmas.List.{append_assoc}
use Rattle.pool_base.specs.Distinct.{distinct}
use Rattle.pool_base.proofs.lemmas.DistinctLemmas.{any-distinct, distinct-push}
use Rattle.road_network.proofs.Numbering.{IsRowNumbered, All-numbered, map-arc_in, with_row-numbers}

-- the two ways to ask for a name
any_flip : (name : ℕ) (nodes : List ℕ) → list_any (λ node. name == node) nodes ≡ list_any (λ node. node == name) nodes
any_flip name [] = refl
any_flip name (node ∷ nodes) = search (rules, (any_flip name nodes))

-- one more name among distinct ones
with_name-distinct : (names : List ℕ) (name : ℕ) → with_name (distinct names) name ≡ distinct (names ++ name ∷ [])
with_name-distinct names name = search (rules, any_flip, any-distinct, distinct-push)

-- the nodes with one more row
pub nodes_of-more : (rows : List (List (List ℕ))) (row : ℕ) (nodes : List ℕ) → row < length rows → nodes ≡ nodes_of (take row rows) →
    with_row nodes (get_or rows row []) ≡ nodes_of (take (row + 1) rows)
nodes_of-more rows row nodes within so_far =
    let fields : List (List ℕ) = get_or rows row [] in
    let names : List ℕ = flat_map names_in (take row rows) in
    let more : flat_map names_in (take (row + 1) rows) ≡ names ++ names_in fields =
    ap (flat_map names_in) (take_more rows row [] within) ∙ sym (flat_map_more names_in [] (take row rows) fields) in
    ap (λ (ns : List ℕ). with_row ns fields) so_far
    ∙ ap (λ (ns : List ℕ). with_name ns (number_at fields 1)) (with_name-distinct names (number_at fields 0))
    ∙ with_name-distinct (names ++ number_at fields 0 ∷ []) (number_at fields 1)
    ∙ ap distinct (append_assoc names (number_at fields 0 ∷ []) (number_at fields 1 ∷ []) ∙ sym more)

pub arcs-more : (rows : List (List (List ℕ))) (row : ℕ) (nodes : List ℕ) (arcs : List Arc) (arc : Arc) → row < length rows →
    All (IsRowNumbered nodes) (take row rows) → arcs ≡ map (arc_in nodes) (take row rows)
    → arc ≡ arc_in (with_row nodes (get_or rows row [])) (get_or rows row []) → arcs ++ arc ∷ [] ≡ map (arc_in (with_row nodes (get_or rows row [])))
    (take (row + 1) rows)
arcs-more rows row nodes arcs arc within numbered so_far is =
    let before = so_far ∙ sym (map-arc_in nodes (get_or rows row []) (take row rows) numbered) in
    ap (λ (l : List Arc). l ++ arc ∷ []) before ∙ ap (λ (a : Arc). map (arc_in (with_row nodes (get_or rows row []))) (take row rows) ++ a ∷ []) is
    ∙ sym (map_more (arc_in (with_row nodes (get_or rows row []))) rows row [] within)

pub arc_in-numbered : (nodes : List ℕ) (fields : List (List ℕ)) (from to seconds : ℕ) → from ≡ index_in (with_name nodes (number_at fields 0))
    (number_at fields 0) → to ≡ index_in (with_row nodes fields) (number_at fields 1)
    → seconds ≡ arc_seconds fields → record { from = from; to = to; seconds = seconds } ≡ arc_in (with_row nodes fields) fields
arc_in-numbered nodes fields from to seconds from_is to_is seconds_is = rw (from_is, to_is, seconds_is, (with_row-numbers nodes fields).1) refl

pub All-numbered-more : (rows : List (List (List ℕ))) (row : ℕ) (nodes : List ℕ) → row < length rows → All (IsRowNumbered nodes) (take row rows) →
    All (IsRowNumbered (with_row nodes (get_or rows row []))) (take (row + 1) rows)
All-numbered-more rows row nodes within numbered =
    All-more (IsRowNumbered (with_row nodes (get_or rows row []))) rows row [] within (All-numbered nodes (get_or rows row []) (take row rows) numbered)
    (with_row-numbers nodes (get_or rows row [])).0

pub All-arc_in : (nodes : List ℕ) (rows : List (List (List ℕ))) → All (IsRowNumbered nodes) rows → All (λ fields. arc_seconds fields ≤ longest_arc) rows →
    All (IsArcAmong (length nodes)) (map (arc_in nodes) rows)
All-arc_in nodes rows numbered short = All-map (IsArcAmong (length nodes)) (arc_in nodes) rows
    (λ k d below. ((numbered k d below).0, (numbered k d below).1, short k d below))
