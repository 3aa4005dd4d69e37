-- Trees that grow.
use Rattle.std.proofs.Common.{
  ◌≡◌,
  ℕ,
  zero,
  suc,
  ◌<◌,
  ◌≤◌,
  List,
  [],
  ◌∷◌,
  ◌++◌,
  length,
  get_or,
  take,
  drop,
  Option,
  Some,
  ℤ,
  pos,
  ◌≤ℤ◌,
  refl,
  sym,
  ap,
  ◌∙◌,
  subst,
  ⊎_elim,
  arith,
  unwrap_or,
  rules,
}
use Rattle.assignment_search.proofs.Common.{
  none-some,
  same_Some,
  ints,
  int_min_is,
  cases_eq,
  lesser,
  Graph,
  IsRowOf,
  row_vehicle,
  Usable,
  leaf_value,
  every_row,
  only_row,
  without_row,
  CanBranch,
  rounded_up,
  least_leaf,
  IsSoundNode,
  coming_after,
  ReadsTo,
  places_from,
  value_read,
  IsLawful,
  cost_of,
  IsGreedy,
  Node,
  Branch,
  Leaf,
  Dead,
  IsWorthBranching,
  IsGoodLeaf,
  IsGoodNode,
  IsGrown,
  HasUsable,
  IsLowest,
  IsNewEnd,
  IsFairNode,
  nat_tests,
}
use Rattle.std.specs.List.{AllByRecursion as ByRecursion}
use Rattle.plan_rules.proofs.lemmas.SumLemmas.{lesser-le_left, lesser-le_right}
use Rattle.plan_rules.proofs.lemmas.TreeLemmas.{rounded_up_mono}

-- ---- grown trees are sound

good_sound : (g : Graph) (low : ℤ) (limit : ℕ) (u : Usable) (n : Node) (z : ℤ) → IsGoodNode g low limit u n z → IsSoundNode g u n
good_sound g low limit u (Leaf ms) z h = h.judged.sized
good_sound g low limit u Dead z h = h
good_sound g low limit u (Branch v k) z h = h.0

pub grown_reads : (g : Graph) (low : ℤ) (limit : ℕ) (nodes : List Node) (values : List ℤ) (coming rest : List Usable) →
    IsGrown g low limit coming nodes values rest → ReadsTo g coming nodes rest
grown_reads g low limit [] [] coming rest h = h
grown_reads g low limit (n ∷ nodes) (z ∷ values) (u ∷ us) rest h = (
  good_sound g low limit u n z (h.0),
  grown_reads g low limit nodes values
      (coming_after g u n us) rest (h.1),
)
grown_reads g low limit nodes values coming rest h = absurd h

-- ---- a node of a grown tree, with what is before and after it

pub record IsSplit (g : Graph) (low : ℤ) (limit : ℕ) (coming : List Usable) (nodes : List Node) (values : List ℤ) (rest : List Usable) (i : ℕ) : Type 0 where
  pub usable : Usable
  pub later : List Usable
  pub before : IsGrown g low limit coming (take i nodes) (take i values) (usable ∷ later)
  pub here : IsGoodNode g low limit usable (get_or nodes i Dead) (get_or values i (pos 0))
  pub after : IsGrown g low limit (coming_after g usable (get_or nodes i Dead) later) (drop (suc i) nodes) (drop (suc i) values) rest

pub grown_split : (g : Graph) (low : ℤ) (limit : ℕ) (nodes : List Node) (values : List ℤ) (coming rest : List Usable) (i : ℕ) →
    IsGrown g low limit coming nodes values rest → i < length nodes → IsSplit g low limit coming nodes values rest i
grown_split g low limit [] values coming rest i h l = absurd (omega (arith, l))
grown_split g low limit (n ∷ nodes) (z ∷ values) (u ∷ us) rest zero h l = record { usable = u; later = us; before = refl; here = h.0; after = h.1 }
grown_split g low limit (n ∷ nodes) (z ∷ values) (u ∷ us) rest (suc i) h l =
    let s = grown_split g low limit nodes values (coming_after g u n us) rest i (h.1) (omega (arith, l)) in
    record { usable = s.usable; later = s.later; before = (h.0, s.before); here = s.here; after = s.after }
grown_split g low limit nodes values coming rest i h l = absurd h

pub grown_join : (g : Graph) (low : ℤ) (limit : ℕ) (xs : List Node) (zs : List ℤ) (ys : List Node) (ws : List ℤ) (a b d : List Usable) →
    IsGrown g low limit a xs zs b → IsGrown g low limit b ys ws d → IsGrown g low limit a (xs ++ ys) (zs ++ ws) d
grown_join g low limit [] [] ys ws a b d first second = subst (λ (c : List Usable). IsGrown g low limit c ys ws d) (sym first) second
grown_join g low limit (n ∷ xs) (z ∷ zs) ys ws (u ∷ us) b d first second = (
  first.0,
  grown_join g low limit xs zs ys ws (coming_after g u n us) b d (first.1)
      second,
)
grown_join g low limit xs zs ys ws a b d first second = absurd first

-- ---- a leaf becomes a branch

-- a new end goes into the tree, and nothing more is to come for it
new_end_good : (g : Graph) (low : ℤ) (limit : ℕ) (u : Usable) (parent : List ℤ) (n : Node) (z : ℤ) → low ≤ℤ rounded_up (leaf_value g u parent) →
    ((a b : ℤ) → a ≤ℤ b → rounded_up a ≤ℤ rounded_up b) → IsNewEnd g u parent n z → IsGoodNode g low limit u n z
new_end_good g low limit u parent (Leaf ms) z floor mono h =
    let up : rounded_up (leaf_value g u parent) ≤ℤ rounded_up z = mono (leaf_value g u parent) z h.inherited in
    record { judged = h.judged; first_fit = h.first_fit; floor = omega (arith, ints); alive = h.alive }
new_end_good g low limit u parent Dead z floor mono h = h
new_end_good g low limit u parent (Branch v k) z floor mono h = absurd h

new_end_ends : (g : Graph) (u w : Usable) (parent : List ℤ) (n : Node) (z : ℤ) (c : List Usable) → IsNewEnd g w parent n z → coming_after g u n c ≡ c
new_end_ends g u w parent (Branch v k) z c h = absurd h
new_end_ends g u w parent n z c h = refl

-- the tree with the leaf at i made a branch with these ends
pub branched : (g : Graph) (low : ℤ) (limit : ℕ) (nodes : List Node) (values : List ℤ) (i v k : ℕ) (parent : List ℤ) (first second : Node) (a b x : ℤ) →
    IsGrown g low limit (every_row ∷ []) nodes values [] → i < length nodes → get_or nodes i Dead ≡ Leaf parent
    → (s : IsSplit g low limit (every_row ∷ []) nodes values [] i) → CanBranch g s.usable v k → IsWorthBranching g low limit s.usable
    → low ≤ℤ rounded_up (leaf_value g (only_row g s.usable v k) parent) → low ≤ℤ rounded_up (leaf_value g (without_row s.usable k) parent)
    → IsNewEnd g (only_row g s.usable v k) parent first a → IsNewEnd g (without_row s.usable k) parent second b
    → IsGrown g low limit (every_row ∷ []) (take i nodes ++ (Branch v k ∷ first ∷ second ∷ drop (suc i) nodes))
    (take i values ++ (x ∷ a ∷ b ∷ drop (suc i) values)) []
branched g low limit nodes values i v k parent first second a b x grown l leaf s can worth floor_a floor_b end_a end_b =
    let after : IsGrown g low limit s.later (drop (suc i) nodes) (drop (suc i) values) [] =
    subst (λ (n : Node). IsGrown g low limit (coming_after g s.usable n s.later) (drop (suc i) nodes) (drop (suc i) values) []) leaf s.after in
    let third : IsGrown g low limit (without_row s.usable k ∷ s.later) (second ∷ drop (suc i) nodes) (b ∷ drop (suc i) values) [] = (
      new_end_good g low limit (without_row s.usable k) parent second b floor_b rounded_up_mono end_b,
      subst (λ (c : List Usable). IsGrown g low limit c (drop (suc i) nodes) (drop (suc i) values) [])
          (sym (new_end_ends g (without_row s.usable k) (without_row s.usable k) parent second b s.later end_b)) after,
    ) in
    let both : IsGrown g low limit (only_row g s.usable v k ∷ without_row s.usable k ∷ s.later) (first ∷ second ∷ drop (suc i) nodes)
    (a ∷ b ∷ drop (suc i) values) [] = (
      new_end_good g low limit (only_row g s.usable v k) parent first a floor_a rounded_up_mono end_a,
      subst (λ (c : List Usable). IsGrown g low limit c (second ∷ drop (suc i) nodes) (b ∷ drop (suc i) values) [])
          (sym (new_end_ends g (only_row g s.usable v k) (only_row g s.usable v k) parent first a (without_row s.usable k ∷ s.later) end_a)) third,
    ) in
    grown_join g low limit (take i nodes) (take i values) (Branch v k ∷ first ∷ second ∷ drop (suc i) nodes) (x ∷ a ∷ b ∷ drop (suc i) values) (every_row ∷ [])
    (s.usable ∷ s.later) [] s.before ((can, worth), both)

-- ---- the bound rises

-- each leaf's value, in seconds, is at least this
abbrev pub LeavesAbove : ℤ → List Node → List ℤ → Type 0
LeavesAbove low nodes values = (k : ℕ) (ms : List ℤ) → k < length nodes → get_or nodes k Dead ≡ Leaf ms → low ≤ℤ rounded_up (get_or values k (pos 0))

raise_node : (g : Graph) (low new : ℤ) (limit : ℕ) (u : Usable) (n : Node) (z : ℤ) → low ≤ℤ new → ((ms : List ℤ) → n ≡ Leaf ms → new ≤ℤ rounded_up z) →
    IsGoodNode g low limit u n z → IsGoodNode g new limit u n z
raise_node g low new limit u (Leaf ms) z up floor h = record { judged = h.judged; first_fit = h.first_fit; floor = floor ms refl; alive = h.alive }
raise_node g low new limit u Dead z up floor h = h
raise_node g low new limit u (Branch v k) z up floor h = search rules

pub raised : (g : Graph) (low new : ℤ) (limit : ℕ) (nodes : List Node) (values : List ℤ) (coming rest : List Usable) → low ≤ℤ new →
    LeavesAbove new nodes values → IsGrown g low limit coming nodes values rest → IsGrown g new limit coming nodes values rest
raised g low new limit [] [] coming rest up above h = h
raised g low new limit (n ∷ nodes) (z ∷ values) (u ∷ us) rest up above h = (
  raise_node g low new limit u n z up (λ ms e. above 0 ms (omega arith) e) (h.0),
  raised g low new limit nodes values (coming_after g u n us) rest up (λ k ms l e. above (suc k) ms (omega (arith, l)) e) (h.1),
)
raised g low new limit nodes values coming rest up above h = absurd h

-- no leaf is below the lowest
pub lowest_above : (nodes : List Node) (values : List ℤ) (i : ℕ) → IsLowest nodes values i → LeavesAbove (rounded_up (get_or values i (pos 0))) nodes values
lowest_above nodes values i low k ms l e = rounded_up_mono (get_or values i (pos 0)) (get_or values k (pos 0)) (low.least k ms l e)

-- the lowest leaf's value is at least what the tree showed before
pub lowest_floor : (g : Graph) (low : ℤ) (limit : ℕ) (nodes : List Node) (values : List ℤ) (i : ℕ) → IsGrown g low limit (every_row ∷ []) nodes values [] →
    IsLowest nodes values i → low ≤ℤ rounded_up (get_or values i (pos 0))
lowest_floor g low limit nodes values i grown lowest =
    let s = grown_split g low limit nodes values (every_row ∷ []) [] i grown lowest.within in
    let here : IsGoodLeaf g low s.usable lowest.multipliers (get_or values i (pos 0)) = subst
    (λ (n : Node). IsGoodNode g low limit s.usable n (get_or values i (pos 0))) lowest.leaf s.here in
    here.floor

-- ---- the tree's value

least_low : (g : Graph) (low : ℤ) (limit : ℕ) (nodes : List Node) (values : List ℤ) (coming rest : List Usable) → IsGrown g low limit coming nodes values rest →
    (z : ℤ) → least_leaf g (places_from g coming nodes) ≡ Some z → low ≤ℤ z
least_low g low limit [] [] coming rest h z e = absurd (none-some z e)
least_low g low limit (Leaf ms ∷ nodes) (w ∷ values) (u ∷ us) rest h z e = search (
  rules,
  same_Some,
  ints,
  int_min_is,
  (least_low g low limit nodes values us rest (h.1)),
)
least_low g low limit (n ∷ nodes) (w ∷ values) (u ∷ us) rest h z e = least_low g low limit nodes values (coming_after g u n us) rest (h.1) z e
least_low g low limit nodes values coming rest h z e = absurd h

-- a leaf's value is not below the least
least_high : (g : Graph) (low : ℤ) (limit : ℕ) (nodes : List Node) (values : List ℤ) (coming rest : List Usable) (i : ℕ) (ms : List ℤ) →
    IsGrown g low limit coming nodes values rest → i < length nodes → get_or nodes i Dead ≡ Leaf ms →
    (z : ℤ) × (least_leaf g (places_from g coming nodes) ≡ Some z) × (z ≤ℤ rounded_up (get_or values i (pos 0)))
least_high g low limit [] values coming rest i ms h l e = absurd (omega (arith, l))
least_high g low limit (Leaf ns ∷ nodes) (w ∷ values) (u ∷ us) rest zero ms h l e =
    let leaf = h.0 in
    let least = least_leaf g (places_from g us nodes) in
    let value = rounded_up (leaf_value g u ns) in
    (lesser least value, refl, omega (arith, ints, ap rounded_up leaf.judged.judged, lesser-le_right least value))
least_high g low limit (Leaf ns ∷ nodes) (w ∷ values) (u ∷ us) rest (suc i) ms h l e =
    let before = least_high g low limit nodes values us rest i ms (h.1) (omega (arith, l)) e in
    let least = least_leaf g (places_from g us nodes) in
    let value = rounded_up (leaf_value g u ns) in
    (lesser least value, refl, omega (arith, ints, ap (λ (o : Option ℤ). lesser o value) before.1, lesser-le_left before.0 value, before.2))
least_high g low limit (n ∷ nodes) (w ∷ values) (u ∷ us) rest zero ms h l e = search rules
least_high g low limit (n ∷ nodes) (w ∷ values) (u ∷ us) rest (suc i) ms h l e = least_high g low limit nodes values (coming_after g u n us) rest i ms (h.1)
    (omega (arith, l)) e
least_high g low limit nodes values coming rest i ms h l e = absurd h

-- the tree's value is that of its lowest leaf
pub value_is : (g : Graph) (limit : ℕ) (nodes : List Node) (values : List ℤ) (i : ℕ) → IsGrown g (rounded_up (get_or values i (pos 0))) limit (every_row ∷ [])
    nodes values [] → IsLowest nodes values i → value_read g nodes ≡ rounded_up (get_or values i (pos 0))
value_is g limit nodes values i grown lowest =
    let low = rounded_up (get_or values i (pos 0)) in
    let w = least_high g low limit nodes values (every_row ∷ []) [] i lowest.multipliers grown lowest.within lowest.leaf in
    let same : w.0 ≡ low = omega (arith, ints, w.2, least_low g low limit nodes values (every_row ∷ []) [] grown (w.0) (w.1)) in
    ap (λ (o : Option ℤ). unwrap_or o (pos 0)) (w.1) ∙ same

-- ---- what the leaves and branches of a grown tree are

pub nodes_fair : (g : Graph) (low : ℤ) (limit : ℕ) → limit ≤ cost_of g g.held → ((chosen : List (Option ℕ)) → IsGreedy g chosen → IsLawful g chosen →
    limit ≤ cost_of g chosen)
    → (nodes : List Node) (values : List ℤ) (coming rest : List Usable) → IsGrown g low limit coming nodes values rest →
    ByRecursion (λ p. IsFairNode g low p.usable p.node) (places_from g coming nodes)
nodes_fair g low limit held greedy [] [] coming rest h = tt
nodes_fair g low limit held greedy (n ∷ nodes) (z ∷ values) (u ∷ us) rest h = search (rules, ints, (nodes_fair g low limit held greedy nodes values))
nodes_fair g low limit held greedy nodes values coming rest h = absurd h

-- ---- vehicles keep a usable row

pub usable_only : (g : Graph) (u : Usable) (v k : ℕ) → CanBranch g u v k → HasUsable g u → HasUsable g (only_row g u v k)
usable_only g u v k can has w i row =
    ⊎_elim
    (λ (here : w ≡ v). (k, record { row = subst (λ (q : ℕ). IsRowOf g q k) (sym here) can.row.row; usable_row = grind (arith, nat_tests, can.row.usable_row) }))
    (λ (other : w ≡ v → ⊥).
    let j = has w i row in
    (j.0, record { row = (j.1).row; usable_row = grind (arith, nat_tests, (j.1).usable_row, (j.1).row.own, other) }))
    (cases_eq w v)

pub usable_without : (g : Graph) (u : Usable) (v k : ℕ) → CanBranch g u v k → HasUsable g u → HasUsable g (without_row u k)
usable_without g u v k can has w i row =
    ⊎_elim
    (λ (here : w ≡ v). (
      can.other,
      record {
        row = subst (λ (q : ℕ). IsRowOf g q can.other) (sym here) can.other_row.row;
        usable_row =
            grind (arith, nat_tests, can.other_row.usable_row, can.differs);
      },
    ))
    (λ (other : w ≡ v → ⊥).
    let j = has w i row in
    let apart : j.0 ≡ k → ⊥ = λ e. other (sym (j.1).row.own ∙ ap (row_vehicle g) e ∙ can.row.row.own) in
    (j.0, record { row = (j.1).row; usable_row = grind (arith, nat_tests, (j.1).usable_row, apart) }))
    (cases_eq w v)

-- each of these leaves each vehicle a row
abbrev AllUsable : Graph → List Usable → Type 0
AllUsable g [] = Unit {0}
AllUsable g (u ∷ us) = HasUsable g u × AllUsable g us

usable_along : (g : Graph) (nodes : List Node) (coming rest : List Usable) → ReadsTo g coming nodes rest → AllUsable g coming → AllUsable g rest
usable_along g [] coming rest h all = subst (AllUsable g) h all
usable_along g (n ∷ nodes) [] rest h all = absurd h
usable_along g (Branch v k ∷ nodes) (u ∷ us) rest h all = search (rules, usable_only, usable_without, (usable_along g nodes))
usable_along g (n ∷ nodes) (u ∷ us) rest h all = usable_along g nodes us rest (h.1) (all.1)

every_usable : (g : Graph) → HasUsable g every_row
every_usable g v k row = (k, record { row = row; usable_row = refl })

-- where a walk from the root stands, each vehicle may use a row
pub usable_here : (g : Graph) (nodes : List Node) (u : Usable) (later : List Usable) → ReadsTo g (every_row ∷ []) nodes (u ∷ later) → HasUsable g u
usable_here g nodes u later h = (usable_along g nodes (every_row ∷ []) (u ∷ later) h (every_usable g, tt)).0

-- reading is a function
pub reads_unique : (g : Graph) (nodes : List Node) (a b d : List Usable) → ReadsTo g a nodes b → ReadsTo g a nodes d → b ≡ d
reads_unique g [] a b d first second = sym first ∙ second
reads_unique g (n ∷ nodes) [] b d first second = absurd first
reads_unique g (n ∷ nodes) (u ∷ us) b d first second = reads_unique g nodes (coming_after g u n us) b d (first.1) (second.1)
