-- What a search finds.
use Rattle.std.proofs.Common.{
  ◌≡◌,
  ℕ,
  suc,
  ◌+◌,
  ◌*◌,
  ◌<◌,
  ◌≤◌,
  Bool,
  true,
  List,
  [],
  ◌∷◌,
  ◌++◌,
  length,
  get_or,
  take,
  drop,
  Option,
  Result,
  Ok,
  Err,
  ℤ,
  pos,
  ◌≤ℤ◌,
  ◌<ℤ◌,
  to_z,
  of_z,
  All,
  refl,
  sym,
  ap,
  ◌∙◌,
  subst,
  arith,
  rules,
}
use Rattle.assignment_search.proofs.Common.{
  w128,
  ints,
  Graph,
  IsGoodGraph,
  IsBound,
  IsLawful,
  cost_of,
  IsGreedy,
  Usable,
  usable_of,
  leaf_value,
  first_fit_value,
  every_row,
  only_row,
  without_row,
  CanBranch,
  IsDeadEnd,
  Place,
  rounded_up,
  places,
  places_read,
  ReadsTo,
  Node,
  Branch,
  Leaf,
  Dead,
  within_every_row,
  dead_end_holds_none,
  tree_value_bounds,
  Agree,
  agree_back,
  leaf_value_agrees,
  first_fit_value_agrees,
  dead_end_agrees,
  may_use_agrees,
  can_branch_agrees,
  both_ways,
  IsSmallSum,
  IsWorthBranching,
  IsGoodLeaf,
  IsGoodNode,
  IsGrown,
  HasUsable,
  IsFixed,
  IsSolePlan,
  IsLowest,
  HasLeaf,
  IsNewEnd,
  IsJudged,
  choice_count,
  IsBestNear,
  IsFairNode,
  IsSearchAnswer,
  IsTreeSoFar,
  IsParting,
  IsPartedAt,
}
use Rattle.std.specs.Result.{IfOk}
use Rattle.std.proofs.lemmas.List.Elements.{All-from_recursion}
use Rattle.plan_rules.proofs.lemmas.SearchTreeLemmas.{tree_of_reads, places_are, value_is_read}
use Rattle.assignment_search.specs.declared.found.Found.{Found}
use Rattle.assignment_search.specs.declared.parting.Ends.{Ends}
use Rattle.assignment_search.proofs.GrowthLemmas.{
  IsSplit,
  grown_split,
  grown_reads,
  branched,
  raised,
  lowest_above,
  lowest_floor,
  value_is,
  nodes_fair,
  usable_here,
  usable_only,
  usable_without,
  reads_unique,
}
use Rattle.plan_rules.proofs.lemmas.TreeLemmas.{rounded_up_mono}
use Rattle.assignment_search.proofs.ApartLemmas.{back}
use Rattle.assignment_search.proofs.RiseLemmas.{value_rises, only_fewer, without_fewer}
use Rattle.assignment_search.proofs.CountLemmas.{tree_short}
use Rattle.assignment_search.proofs.FixedLemmas.{sole_is_lawful, sole_reaches}
use Rattle.assignment_search.proofs.LeafLemmas.{sound_has_leaf}
use Rattle.assignment_search.proofs.StandingLemmas.{head_is}
use Rattle.assignment_search.proofs.EditLemmas.{edit_length}

pub if_ok_map : {X E : Type 0} (P Q : X → Type 0) → ((x : X) → P x → Q x) → (r : Result X E) → IfOk r P → IfOk r Q
if_ok_map P Q f (Ok x) h = f x h
if_ok_map P Q f (Err e) h = h

-- ---- small numbers

pub small_back : (z : ℤ) → IsSmallSum 1500 z → to_z w128 (of_z w128 z) ≡ z
small_back z h = back z (record { low = omega (arith, ints, h.low); high = omega (arith, ints, h.high) })

-- ---- ends

judged_agrees : (g : Graph) (w u : Usable) (ms : List ℤ) (z : ℤ) → Agree g w u → IsJudged g w ms z → IsJudged g u ms z
judged_agrees g w u ms z agree h = record { sized = h.sized; judged = h.judged ∙ leaf_value_agrees g w u ms agree; small = h.small }

pub new_end_agrees : (g : Graph) (w u : Usable) (parent : List ℤ) (n : Node) (z : ℤ) → Agree g w u → IsNewEnd g w parent n z → IsNewEnd g u parent n z
new_end_agrees g w u parent (Leaf ms) z agree h =
    let fit = first_fit_value_agrees g w u agree in
    let value = leaf_value_agrees g w u parent agree in
    record {
      judged = judged_agrees g w u ms z agree h.judged;
      first_fit = subst (λ (y : ℤ). y ≤ℤ z) fit h.first_fit;
      inherited = subst (λ (y : ℤ). y ≤ℤ z) value h.inherited;
      alive = λ dead. h.alive (dead_end_agrees g u w (agree_back g w u agree) dead);
    }
new_end_agrees g w u parent Dead z agree h = dead_end_agrees g w u agree h
new_end_agrees g w u parent (Branch v k) z agree h = absurd h

pub root_is_good : (g : Graph) (allowed : List Bool) (ms : List ℤ) (value : ℤ) → IsGoodGraph g → ((k : ℕ) → k < length g.rows → usable_of allowed k ≡ true) →
    IsJudged g (usable_of allowed) ms value
    → first_fit_value g (usable_of allowed) ≤ℤ value → IsGoodLeaf g (rounded_up value) every_row ms value
root_is_good g allowed ms value good all judged fitted =
    let agree : Agree g (usable_of allowed) every_row = all in
    let fit : first_fit_value g (usable_of allowed) ≡ first_fit_value g every_row = first_fit_value_agrees g (usable_of allowed) every_row agree in
    record {
      judged = judged_agrees g (usable_of allowed) every_row ms value agree judged;
      first_fit = omega (arith, ints);
      floor = omega (arith, ints);
      alive = λ dead. both_ways _ (dead_end_holds_none g every_row g.held good good.held dead) (within_every_row g g.held);
    }

-- ---- a tree that grows

pub so_far_start : (g : Graph) (budget limit : ℕ) (ms : List ℤ) (z : ℤ) (nodes : List Node) (values : List ℤ) → 1 ≤ budget →
    IsGoodLeaf g (rounded_up z) every_row ms z → nodes ≡ Leaf ms ∷ [] → values ≡ z ∷ [] → IsTreeSoFar g budget limit nodes values
so_far_start g budget limit ms z nodes values some leaf is vals =
    let start : IsGrown g (rounded_up z) limit (every_row ∷ []) (Leaf ms ∷ []) (z ∷ []) [] = (leaf, refl) in
    record {
      low = rounded_up z;
      root = rounded_up_mono (first_fit_value g every_row) z leaf.first_fit;
      grown = subst (λ (ns : List Node). IsGrown g (rounded_up z) limit (every_row ∷ []) ns values []) (sym is)
          (subst (λ (zs : List ℤ). IsGrown g (rounded_up z) limit (every_row ∷ []) (Leaf ms ∷ []) zs []) (sym vals) start);
      short = let size = ap (λ (ns : List Node). length ns) is in omega (arith, size, some);
    }

pub so_far_leaf : (g : Graph) (budget limit : ℕ) (nodes : List Node) (values : List ℤ) → IsGoodGraph g → IsTreeSoFar g budget limit nodes values → HasLeaf nodes
so_far_leaf g budget limit nodes values good t = sound_has_leaf g nodes good (grown_reads g t.low limit nodes values (every_row ∷ []) [] t.grown)

pub so_far_raised : (g : Graph) (budget limit : ℕ) (nodes : List Node) (values : List ℤ) (place : ℕ) → IsTreeSoFar g budget limit nodes values →
    IsLowest nodes values place → IsGrown g (rounded_up (get_or values place (pos 0))) limit (every_row ∷ []) nodes values []
so_far_raised g budget limit nodes values place t lowest =
    raised g t.low (rounded_up (get_or values place (pos 0))) limit nodes values (every_row ∷ []) []
    (lowest_floor g t.low limit nodes values place t.grown lowest) (lowest_above nodes values place lowest) t.grown

-- the leaf of least value in a grown tree
pub leaf_here : (g : Graph) (low : ℤ) (limit : ℕ) (nodes : List Node) (values : List ℤ) (place : ℕ)
    (s : IsSplit g low limit (every_row ∷ []) nodes values [] place) (lowest : IsLowest nodes values place) →
    IsGoodLeaf g low s.usable lowest.multipliers (get_or values place (pos 0))
leaf_here g low limit nodes values place s lowest = subst (λ (n : Node). IsGoodNode g low limit s.usable n (get_or values place (pos 0))) lowest.leaf s.here

pub lowest_small : (g : Graph) (low : ℤ) (limit : ℕ) (nodes : List Node) (values : List ℤ) (place : ℕ) → IsGrown g low limit (every_row ∷ []) nodes values [] →
    IsLowest nodes values place → IsSmallSum 1500 (get_or values place (pos 0))
lowest_small g low limit nodes values place grown lowest =
    let s = grown_split g low limit nodes values (every_row ∷ []) [] place grown lowest.within in
    (leaf_here g low limit nodes values place s lowest).judged.small

inner : (a b : List ℤ) → Leaf a ≡ Leaf b → a ≡ b
inner a b e = cc

-- where a walk came to the leaf, these are the rows that may be chosen
stands_at : (g : Graph) (low : ℤ) (limit : ℕ) (nodes : List Node) (values : List ℤ) (place : ℕ) (u : Usable) (later : List Usable)
    (s : IsSplit g low limit (every_row ∷ []) nodes values [] place) → ReadsTo g (every_row ∷ []) (take place nodes) (u ∷ later) → u ≡ s.usable
stands_at g low limit nodes values place u later s reads =
    head_is u s.usable later s.later
    (reads_unique g (take place nodes) (every_row ∷ []) (u ∷ later) (s.usable ∷ s.later) reads
    (grown_reads g low limit (take place nodes) (take place values) (every_row ∷ []) (s.usable ∷ s.later) s.before))

pub so_far_grow : (g : Graph) (budget limit : ℕ) (nodes : List Node) (values : List ℤ) (place : ℕ) (ends : Ends) (new : List Node) (news : List ℤ) →
    IsTreeSoFar g budget limit nodes values → IsLowest nodes values place
    → IsPartedAt g nodes place ends → length nodes + 2 ≤ budget → rounded_up (get_or values place (pos 0)) <ℤ pos limit
    → new ≡ take place nodes ++ (Branch ends.vehicle ends.row ∷ ends.first.node ∷ ends.second.node ∷ drop (suc place) nodes)
    → news ≡ take place values ++ (get_or values place (pos 0) ∷ ends.first.value ∷ ends.second.value ∷ drop (suc place) values) →
    IsTreeSoFar g budget limit new news
so_far_grow g budget limit nodes values place ends new news t lowest parted room below_limit is vals =
    let low = rounded_up (get_or values place (pos 0)) in
    let grown : IsGrown g low limit (every_row ∷ []) nodes values [] = so_far_raised g budget limit nodes values place t lowest in
    let s = grown_split g low limit nodes values (every_row ∷ []) [] place grown lowest.within in
    let here = leaf_here g low limit nodes values place s lowest in
    let stands : parted.usable ≡ s.usable = stands_at g low limit nodes values place parted.usable parted.later s parted.reads in
    let parent_is : parted.parent ≡ lowest.multipliers = inner parted.parent lowest.multipliers (sym parted.leaf ∙ lowest.leaf) in
    let parting : IsParting g s.usable parted.parent ends = subst (λ (u : Usable). IsParting g u parted.parent ends) stands parted.parting in
    let can = parting.can in
    let has : HasUsable g s.usable = usable_here g (take place nodes) s.usable s.later (grown_reads g low limit (take place nodes) (take place values)
    (every_row ∷ []) (s.usable ∷ s.later) s.before) in
    let judged : get_or values place (pos 0) ≡ leaf_value g s.usable parted.parent = here.judged.judged ∙ ap (leaf_value g s.usable) (sym parent_is) in
    let only_up = value_rises g s.usable (only_row g s.usable ends.vehicle ends.row) parted.parent (λ k e. only_fewer g s.usable ends.vehicle ends.row k e)
    (usable_only g s.usable ends.vehicle ends.row can has) in
    let without_up = value_rises g s.usable (without_row s.usable ends.row) parted.parent (λ k e. without_fewer s.usable ends.row k e)
    (usable_without g s.usable ends.vehicle ends.row can has) in
    let floor_only = rounded_up_mono (get_or values place (pos 0)) (leaf_value g (only_row g s.usable ends.vehicle ends.row) parted.parent)
    (subst (λ (z : ℤ). z ≤ℤ leaf_value g (only_row g s.usable ends.vehicle ends.row) parted.parent) (sym judged) only_up) in
    let floor_without = rounded_up_mono (get_or values place (pos 0)) (leaf_value g (without_row s.usable ends.row) parted.parent)
    (subst (λ (z : ℤ). z ≤ℤ leaf_value g (without_row s.usable ends.row) parted.parent) (sym judged) without_up) in
    let fit : rounded_up (first_fit_value g s.usable) ≤ℤ low = rounded_up_mono (first_fit_value g s.usable) (get_or values place (pos 0)) here.first_fit in
    let worth : IsWorthBranching g low limit s.usable = record { at_most = fit; below = omega (arith, ints) } in
    let next = branched g low limit nodes values place ends.vehicle ends.row parted.parent ends.first.node ends.second.node ends.first.value ends.second.value
    (get_or values place (pos 0)) grown lowest.within parted.leaf s can worth floor_only floor_without parting.first parting.second in
    let rises : t.low ≤ℤ low = lowest_floor g t.low limit nodes values place t.grown lowest in
    let root : rounded_up (first_fit_value g every_row) ≤ℤ t.low = t.root in
    let size = ap (λ (ns : List Node). length ns) is ∙ edit_length nodes place (Branch ends.vehicle ends.row) ends.first.node ends.second.node lowest.within in
    record {
      low = low;
      root = omega (arith, ints);
      grown = subst (λ (ns : List Node). IsGrown g low limit (every_row ∷ []) ns news []) (sym is)
          (subst (λ (zs : List ℤ). IsGrown g low limit (every_row ∷ [])
          (take place nodes ++ (Branch ends.vehicle ends.row ∷ ends.first.node ∷ ends.second.node ∷ drop (suc place) nodes)) zs []) (sym vals) next);
      short = omega (arith, size, room);
    }

-- ---- a leaf where no vehicle has a choice, and one where the budget is spent

module _ (g : Graph) (limit place : ℕ) (nodes : List Node) (values : List ℤ) (u : Usable) (later : List Usable) (allowed : List Bool) (good : IsGoodGraph g)
    (lowest : IsLowest nodes values place)
    (grown : IsGrown g (rounded_up (get_or values place (pos 0))) limit (every_row ∷ []) nodes values [])
    (reads : ReadsTo g (every_row ∷ []) (take place nodes) (u ∷ later)) (agree : Agree g (usable_of allowed) u) where
  s : IsSplit g (rounded_up (get_or values place (pos 0))) limit (every_row ∷ []) nodes values [] place
  s = grown_split g (rounded_up (get_or values place (pos 0))) limit nodes values (every_row ∷ []) [] place grown lowest.within

  here : IsGoodLeaf g (rounded_up (get_or values place (pos 0))) s.usable lowest.multipliers (get_or values place (pos 0))
  here = leaf_here g (rounded_up (get_or values place (pos 0))) limit nodes values place s lowest

  same : Agree g (usable_of allowed) s.usable
  same k l = agree k l ∙ ap (λ (w : Usable). w k) (stands_at g (rounded_up (get_or values place (pos 0))) limit nodes values place u later s reads)

  pub fixed_answer : (chosen : List (Option ℕ)) → IsFixed g (usable_of allowed) → length chosen ≡ g.vehicles → IsSolePlan g (usable_of allowed) chosen →
      IsLawful g chosen × (pos (cost_of g chosen) ≤ℤ rounded_up (get_or values place (pos 0)))
  fixed_answer chosen fixed sized sole =
      let back : Agree g s.usable (usable_of allowed) = agree_back g (usable_of allowed) s.usable same in
      let has : HasUsable g s.usable = usable_here g (take place nodes) s.usable s.later (grown_reads g (rounded_up (get_or values place (pos 0))) limit
      (take place nodes) (take place values) (every_row ∷ []) (s.usable ∷ s.later) s.before) in
      let has_here : HasUsable g (usable_of allowed) = λ v k row. let j = has v k row in (j.0, may_use_agrees g s.usable (usable_of allowed) v (j.0) back (j.1))
      in
      let alive : IsDeadEnd g (usable_of allowed) → ⊥ = λ dead. here.alive (dead_end_agrees g (usable_of allowed) s.usable same dead) in
      let fit : first_fit_value g s.usable ≡ first_fit_value g (usable_of allowed) = first_fit_value_agrees g s.usable (usable_of allowed) back in (
        sole_is_lawful g (usable_of allowed) chosen good sized sole fixed has_here alive,
        sole_reaches g (usable_of allowed) chosen good sized sole fixed has_here alive (get_or values place (pos 0))
            (subst (λ (z : ℤ). z ≤ℤ get_or values place (pos 0)) fit here.first_fit),
      )

  pub judged_here : (ms : List ℤ) → get_or nodes place Dead ≡ Leaf ms → IsJudged g (usable_of allowed) ms (get_or values place (pos 0))
  judged_here ms is = search (rules, inner, here, s, leaf_value_agrees, same)

  pub full_answer : (v k : ℕ) → v < g.vehicles → CanBranch g (usable_of allowed) v k → length nodes + 3 ≤ 2 * choice_count g every_row
  full_answer v k below can =
      tree_short g (rounded_up (get_or values place (pos 0))) limit nodes values place v k lowest.multipliers (λ j l. (good.rows j l).vehicle) lowest.within
      lowest.leaf s below (can_branch_agrees g (usable_of allowed) s.usable v k same can)

-- ---- the answer

-- a plan that costs no more than a bound is the best near it
best_from_least : (g : Graph) (plan : List (Option ℕ)) (low : ℤ) → IsGoodGraph g → pos (cost_of g plan) ≤ℤ low → IsBound g low → IsBestNear g plan
best_from_least g plan low good most bound = search rules

module _ (g : Graph) (budget limit place : ℕ) (nodes : List Node) (values : List ℤ) (good : IsGoodGraph g) (so_far : IsTreeSoFar g budget limit nodes values)
    (lowest : IsLowest nodes values place)
    (held : limit ≤ cost_of g g.held) (greedy : (chosen : List (Option ℕ)) → IsGreedy g chosen → IsLawful g chosen → limit ≤ cost_of g chosen)
    (plan : List (Option ℕ)) (lawful : IsLawful g plan) where
  abbrev low : ℤ
  low = rounded_up (get_or values place (pos 0))

  grown : IsGrown g low limit (every_row ∷ []) nodes values []
  grown = so_far_raised g budget limit nodes values place so_far lowest

  -- the tree's value is a bound
  low_is_bound : IsBound g low
  low_is_bound chosen fair = search (rules, value_is, grown, tree_value_bounds, grown_reads, low)

  answer_of : IsBestNear g plan → (low <ℤ pos (cost_of g plan) → budget < length nodes + 2) →
      (2 * choice_count g every_row ≤ budget → low ≡ pos (cost_of g plan))
      → IsSearchAnswer g budget (record { plan = plan; cost = cost_of g plan; bound = low; tree = nodes })
  answer_of best limited closed =
      let t = tree_of_reads g nodes (grown_reads g low limit nodes values (every_row ∷ []) [] grown) in
      let same : places_read g nodes ≡ places g (t.0) = places_are g nodes (t.0) (t.1) in
      let rises : so_far.low ≤ℤ low = lowest_floor g so_far.low limit nodes values place so_far.grown lowest in
      let root : rounded_up (first_fit_value g every_row) ≤ℤ so_far.low = so_far.root in
      record {
        lawful = lawful;
        costs = refl;
        shown = record {
          few = so_far.short;
          tree = (t.0, t.1, sym (value_is g limit nodes values place grown lowest) ∙ value_is_read g nodes (t.0) (t.1));
          least = low_is_bound;
        };
        close = record { root = omega (arith, ints); limited = limited; closed = closed };
        fair = record {
          tree = t.0;
          shape = t.1;
          fair = subst (λ (ps : List Place). All (λ p. IsFairNode g low p.usable p.node) ps) same
              (All-from_recursion (λ (p : Place). IsFairNode g low p.usable p.node) (places_read g nodes)
              (nodes_fair g low limit held greedy nodes values (every_row ∷ []) [] grown));
        };
        best = best;
      }

  module _ (found : Found) (of : found.plan ≡ plan) (costs : found.cost ≡ cost_of g plan) (is : found.bound ≡ low) (same : found.tree ≡ nodes) where
    answer_found : IsSearchAnswer g budget (record { plan = plan; cost = cost_of g plan; bound = low; tree = nodes }) → IsSearchAnswer g budget found
    answer_found answer = search rules

    -- the plan costs no more than the tree shows
    pub answer_met : pos (cost_of g plan) ≤ℤ low → IsSearchAnswer g budget found
    answer_met met = answer_found (answer_of (best_from_least g plan low good met low_is_bound) (λ below. absurd (omega (arith, ints, met, below)))
        (λ enough. let above : low ≤ℤ pos (cost_of g plan) = low_is_bound plan lawful in omega (arith, ints, met, above)))

    -- the budget is spent
    pub answer_full : IsBestNear g plan → (budget < length nodes + 2) × (budget < 2 * choice_count g every_row) → IsSearchAnswer g budget found
    answer_full best full = answer_found (answer_of best (λ below. full.0) (λ enough. absurd (omega (arith, full.1, enough))))
