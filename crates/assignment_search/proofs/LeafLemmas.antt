-- A sound tree has a leaf.
use Rattle.std.proofs.Common.{◌≡◌, ℕ, suc, ◌≤◌, List, [], ◌∷◌, Option, count_by, refl, arith}
use Rattle.assignment_search.proofs.Common.{
  Graph,
  IsGoodGraph,
  Usable,
  Place,
  belongs_to_end,
  belongs_to_dead_end,
  places_from,
  IsWholeTree,
  Node,
  Leaf,
  each_plan_at_one_end,
  no_plan_at_dead_ends,
  HasLeaf,
  coming_after,
}
use Rattle.std.proofs.lemmas.Bool.Decides.{nat_tests}
use Rattle.plan_rules.proofs.lemmas.TreeLemmas.{count-cons}

later : (n : Node) (nodes : List Node) → HasLeaf nodes → HasLeaf (n ∷ nodes)
later n nodes h = record { place = suc h.place; multipliers = h.multipliers; within = omega (arith, h.within); leaf = h.leaf }

leaf_among : (g : Graph) (chosen : List (Option ℕ)) (nodes : List Node) (coming : List Usable) →
    count_by (belongs_to_dead_end g chosen) (places_from g coming nodes) ≡ 0 → 1 ≤ count_by (belongs_to_end g chosen) (places_from g coming nodes) →
    HasLeaf nodes
leaf_among g chosen [] coming dead some = absurd (omega (arith, some))
leaf_among g chosen (n ∷ nodes) [] dead some = absurd (omega (arith, some))
leaf_among g chosen (Leaf ms ∷ nodes) (u ∷ us) dead some = record { place = 0; multipliers = ms; within = omega arith; leaf = refl }
leaf_among g chosen (n ∷ nodes) (u ∷ us) dead some =
    let p : Place = record { node = n; usable = u } in
    let after = coming_after g u n us in
    let first = count-cons (belongs_to_dead_end g chosen) p (places_from g after nodes) in
    let second = count-cons (belongs_to_end g chosen) p (places_from g after nodes) in
    later n nodes (leaf_among g chosen nodes after (omega (arith, first, dead)) (omega (arith, first, second, dead, some)))

pub sound_has_leaf : (g : Graph) (nodes : List Node) → IsGoodGraph g → IsWholeTree g nodes → HasLeaf nodes
sound_has_leaf g nodes good sound = grind (
  arith,
  nat_tests,
  (each_plan_at_one_end g nodes g.held good sound),
  (leaf_among g g.held nodes),
  (no_plan_at_dead_ends g nodes g.held good sound),
)
