-- Trees read node by node, and the places that they have.
use Rattle.std.proofs.Common.{◌≡◌, List, [], ◌∷◌, ◌++◌, Option, Some, None, ℤ, refl, sym, ap, subst, arith, rules}
use Rattle.plan_rules.proofs.Common.{
  ints,
  int_min_is,
  int_min,
  lesser,
  Graph,
  Usable,
  leaf_value,
  Place,
  rounded_up,
  with_leaf,
  least_leaf,
  IsSoundNode,
  coming_after,
  ReadsTo,
  places_from,
  Node,
  Branch,
  Leaf,
  Dead,
}

-- two parts, one after the other
pub reads_append : (g : Graph) (xs ys : List Node) (a b d : List Usable) → ReadsTo g a xs b → ReadsTo g b ys d → ReadsTo g a (xs ++ ys) d
reads_append g [] ys a b d first second = subst (λ (c : List Usable). ReadsTo g c ys d) (sym first) second
reads_append g (n ∷ xs) ys [] b d first second = absurd first
reads_append g (n ∷ xs) ys (u ∷ us) b d first second = (first.0, reads_append g xs ys (coming_after g u n us) b d (first.1) second)

-- one more node
pub reads_push : (g : Graph) (xs : List Node) (n : Node) (a : List Usable) (u : Usable) (us : List Usable) → ReadsTo g a xs (u ∷ us) → IsSoundNode g u n →
    ReadsTo g a (xs ++ n ∷ []) (coming_after g u n us)
reads_push g xs n a u us first sound = reads_append g xs (n ∷ []) a (u ∷ us) (coming_after g u n us) first (sound, refl)

pub places_append : (g : Graph) (xs ys : List Node) (a b : List Usable) → ReadsTo g a xs b →
    places_from g a (xs ++ ys) ≡ places_from g a xs ++ places_from g b ys
places_append g [] ys a b first = ap (λ (c : List Usable). places_from g c ys) first
places_append g (n ∷ xs) ys [] b first = absurd first
places_append g (n ∷ xs) ys (u ∷ us) b first = search (rules, (places_append g xs ys))

pub places_push : (g : Graph) (xs : List Node) (n : Node) (a : List Usable) (u : Usable) (us : List Usable) → ReadsTo g a xs (u ∷ us) →
    places_from g a (xs ++ n ∷ []) ≡ places_from g a xs ++ record { node = n; usable = u } ∷ []
places_push g xs n a u us first = places_append g xs (n ∷ []) a (u ∷ us) first

-- ---- the least leaf, in any order

lesser_swap : (o : Option ℤ) (v w : ℤ) → lesser (Some (lesser o v)) w ≡ lesser (Some (lesser o w)) v
lesser_swap None v w = omega (arith, ints, int_min_is v w, int_min_is w v)
lesser_swap (Some y) v w = omega (arith, ints, int_min_is y v, int_min_is y w, int_min_is (int_min y v) w, int_min_is (int_min y w) v)

with_leaf_swap : (g : Graph) (m n : Node) (u w : Usable) (o : Option ℤ) → with_leaf g u m (with_leaf g w n o) ≡ with_leaf g w n (with_leaf g u m o)
with_leaf_swap g (Leaf ms) (Leaf ns) u w o = ap Some (lesser_swap o (rounded_up (leaf_value g w ns)) (rounded_up (leaf_value g u ms)))
with_leaf_swap g (Leaf ms) Dead u w o = refl
with_leaf_swap g (Leaf ms) (Branch v k) u w o = refl
with_leaf_swap g Dead n u w o = refl
with_leaf_swap g (Branch v k) n u w o = refl

pub least_leaf_push : (g : Graph) (ps : List Place) (p : Place) → least_leaf g (ps ++ p ∷ []) ≡ with_leaf g p.usable p.node (least_leaf g ps)
least_leaf_push g [] p = refl
least_leaf_push g (q ∷ ps) p = search (rules, with_leaf_swap, (least_leaf_push g ps p))
