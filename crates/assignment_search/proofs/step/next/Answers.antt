use Rattle.std.proofs.Common.{◌≡◌, ◌+◌, ◌<◌, ℕ, Bool, List, ℤ, Option, pos, ◌≤ℤ◌, length, get_or, [], ◌∷◌, sym, ◌∙◌, subst, arith}
use Rattle.assignment_search.proofs.Common.{
  get_or_read,
  IsLawful,
  cost_of,
  usable_of,
  every_row,
  rounded_up,
  CanBranch,
  standing_of,
  can_branch_agrees,
  Node,
  Dead,
  IsFixed,
  IsSolePlan,
  IsJudged,
}
use Rattle.assignment_search.proofs.GrowthLemmas.{grown_reads}
use Rattle.assignment_search.proofs.AnswerLemmas.{small_back, lowest_small, judged_here, fixed_answer, full_answer}
use Rattle.assignment_search.proofs.step.next.Goals as goal

pub is_met-requires-clause-small : goal.is_met-requires-clause-small
is_met-requires-clause-small c =
    let values : List ℤ = c.args.tree.now.values.items in
    lowest_small c.args.graph.now (rounded_up (get_or values c.args.place (pos 0))) c.requires.grown.0 c.args.tree.now.nodes.items values c.args.place
    c.requires.grown.1 c.requires.lowest

pub path_to-requires-clause-sound : goal.path_to-requires-clause-sound
path_to-requires-clause-sound c =
    let values : List ℤ = c.args.tree.now.values.items in
    grown_reads c.args.graph.now (rounded_up (get_or values c.args.place (pos 0))) c.requires.grown.0 c.args.tree.now.nodes.items values (every_row ∷ []) []
    c.requires.grown.1

pub returns-then-is_full : goal.returns-then-is_full
returns-then-is_full c =
    let g = c.args.graph.now in
    let path = c.in_ok-path.path in
    let allowed : List Bool = c.in_ok-allowed.allowed.items in
    let v = c.in-Some-branch_row.at.0 in
    let k = c.in-Some-branch_row.at.1 in
    let full : c.args.tree.now.budget < length c.args.tree.now.nodes.items + 2 = c.if-is_full.ensures in
    let can : CanBranch g (usable_of allowed) v k = subst (λ (xs : List Bool). CanBranch g (usable_of xs) v k) c.deref.ensures.value
    (c.in-Some-branch_row.ensures.found.0) in
    let short = full_answer g c.requires.grown.0 c.args.place c.args.tree.now.nodes.items c.args.tree.now.values.items (standing_of g path).usable
    (standing_of g path).coming allowed c.allowed_at.ensures.good
    c.requires.lowest c.requires.grown.1 c.in_ok-path.ensures.reads c.in_ok-allowed.ensures.allowed v k (c.in-Some-branch_row.ensures.found.1) can in
    (full, omega (arith, full, short))

pub part-requires-clause-can : goal.part-requires-clause-can
part-requires-clause-can c =
    let g = c.args.graph.now in
    let allowed : List Bool = c.in_ok-allowed.allowed.items in
    let v = c.in-Some-branch_row.at.0 in
    let k = c.in-Some-branch_row.at.1 in
    can_branch_agrees g (usable_of allowed) (standing_of g c.in_ok-path.path).usable v k c.in_ok-allowed.ensures.allowed
    (subst (λ (xs : List Bool). CanBranch g (usable_of xs) v k) c.deref.ensures.value (c.in-Some-branch_row.ensures.found.0))

pub invariant_of-parent-clause-judged : goal.invariant_of-parent-clause-judged
invariant_of-parent-clause-judged c =
    let g = c.args.graph.now in
    let path = c.in_ok-path.path in
    let nodes : List Node = c.args.tree.now.nodes.items in
    let values : List ℤ = c.args.tree.now.values.items in
    let allowed : List Bool = c.in_ok-allowed.allowed.items in
    let parent : List ℤ = c.multipliers_of.result.now in
    let node : Node = c.index.result.now in
    let here : node ≡ get_or nodes c.args.place Dead = get_or_read nodes c.args.place node c.requires.lowest.within c.index.ensures Dead in
    let value : ℤ = c.index-value.result.now in
    let is : value ≡ get_or values c.args.place (pos 0) = get_or_read values c.args.place value (omega (arith, c.requires.lowest.within, c.requires.valued))
    c.index-value.ensures (pos 0) in
    let judged : IsJudged g (usable_of allowed) parent value = subst (IsJudged g (usable_of allowed) parent) (sym is)
    (judged_here g c.requires.grown.0 c.args.place nodes values (standing_of g path).usable (standing_of g path).coming allowed c.allowed_at.ensures.good
    c.requires.lowest c.requires.grown.1 c.in_ok-path.ensures.reads c.in_ok-allowed.ensures.allowed parent (sym here ∙ c.multipliers_of.ensures)) in
    subst (IsJudged g (usable_of c.deref-in-Some-branch_row.result.now) parent) (sym (small_back value judged.small))
    (subst (λ (xs : List Bool). IsJudged g (usable_of xs) parent value) (sym c.deref-in-Some-branch_row.ensures.value) judged)

pub returns-in_ok-chosen-in-None : goal.returns-in_ok-chosen-in-None
returns-in_ok-chosen-in-None c =
    let g = c.args.graph.now in
    let path = c.in_ok-path.path in
    let values : List ℤ = c.args.tree.now.values.items in
    let allowed : List Bool = c.in_ok-allowed.allowed.items in
    let chosen : List (Option ℕ) = c.in_ok-chosen-in-None.chosen.items in
    let fixed : IsFixed g (usable_of allowed) = subst (λ (xs : List Bool). IsFixed g (usable_of xs)) c.deref.ensures.value c.in-None.ensures.none in
    let sole : IsSolePlan g (usable_of allowed) chosen = subst (λ (xs : List Bool). IsSolePlan g (usable_of xs) chosen) c.deref-in-None.ensures.value
    c.in_ok-chosen-in-None.ensures.rows in
    subst (λ (p : List (Option ℕ)). IsLawful g p × (pos (cost_of g p) ≤ℤ rounded_up (get_or values c.args.place (pos 0)))) (sym c.of.ensures)
    (fixed_answer g c.requires.grown.0 c.args.place c.args.tree.now.nodes.items values (standing_of g path).usable (standing_of g path).coming allowed
    c.allowed_at.ensures.good
    c.requires.lowest c.requires.grown.1 c.in_ok-path.ensures.reads c.in_ok-allowed.ensures.allowed chosen fixed c.in_ok-chosen-in-None.ensures.len sole)
