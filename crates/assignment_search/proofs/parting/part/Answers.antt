use Rattle.std.proofs.Common.{◌≡◌, ℕ, true, List, [], ◌∷◌, ◌++◌, sym, ap, ◌∙◌, subst}
use Rattle.assignment_search.proofs.Common.{Graph, Usable, only_row, without_row, standing_of, IsPathOf, IsNewEnd}
use Rattle.plan_rules.specs.declared.path.Decision.{Decision}
use Rattle.plan_rules.proofs.lemmas.PathLemmas.{coming_entered, path_push}
use Rattle.assignment_search.proofs.StandingLemmas.{left_next, head_is, tail_is}
use Rattle.assignment_search.proofs.ApartLemmas.{only_apart, without_apart}
use Rattle.assignment_search.proofs.parting.part.Goals as goal

-- a walk that enters a branch stands where the vehicle has the row alone, and then where it hasn't the row
module _ (g : Graph) (path entered : List Decision) (v k : ℕ) (is : entered ≡ path ++ record { vehicle = v; row = k; alone = true } ∷ []) where
  only_is : (standing_of g entered).usable ≡ only_row g (standing_of g path).usable v k
  only_is = head_is (standing_of g entered).usable _ (standing_of g entered).coming _ (coming_entered g path entered v k is)

  without_is : (left : List Decision) → ((u : Usable) (us : List Usable) → (standing_of g entered).coming ≡ u ∷ us →
      (standing_of g left).usable ∷ (standing_of g left).coming ≡ u ∷ us) → (standing_of g left).usable ≡ without_row (standing_of g path).usable k
  without_is left goes = head_is (standing_of g left).usable _ (standing_of g left).coming _
      (goes _ _ (tail_is (standing_of g entered).usable _ (standing_of g entered).coming _ (coming_entered g path entered v k is)))

pub end_of-requires-clause-path : goal.end_of-requires-clause-path
end_of-requires-clause-path c =
    subst (IsPathOf c.args.parent.now.graph.now) (sym c.in_ok-enter.ensures.ok)
    (path_push c.args.parent.now.graph.now c.args.path (record { vehicle = c.args.at.0; row = c.args.at.1; alone = true }) c.requires.path
    (c.requires.vehicle, c.requires.can.row.row))

pub end_of-requires-2-clause-path : goal.end_of-requires-2-clause-path
end_of-requires-2-clause-path c =
    let g = c.args.parent.now.graph.now in
    c.leave.ensures.path g
    (subst (IsPathOf g) (sym c.in_ok-enter.ensures.ok)
    (path_push g c.args.path (record { vehicle = c.args.at.0; row = c.args.at.1; alone = true }) c.requires.path (c.requires.vehicle, c.requires.can.row.row)))

pub end_of-requires-clause-apart : goal.end_of-requires-clause-apart
end_of-requires-clause-apart c =
    let g = c.args.parent.now.graph.now in
    let u : Usable = (standing_of g c.args.path).usable in
    λ j l other. c.requires.before j l ∙ only_apart g u c.args.at.0 c.args.at.1 j l other ∙
    ap (λ (w : Usable). w j) (sym (only_is g c.args.path c.enter.new.self c.args.at.0 c.args.at.1 c.in_ok-enter.ensures.ok))

pub end_of-requires-2-clause-apart : goal.end_of-requires-2-clause-apart
end_of-requires-2-clause-apart c =
    let g = c.args.parent.now.graph.now in
    let u : Usable = (standing_of g c.args.path).usable in
    let is = without_is g c.args.path c.enter.new.self c.args.at.0 c.args.at.1 c.in_ok-enter.ensures.ok c.leave.new.self
    (λ w us e. left_next g c.leave.result c.enter.new.self c.leave.new.self w us (c.leave.ensures.next g) e) in
    λ j l other. c.requires.before j l ∙ without_apart g u c.args.at.0 c.args.at.1 c.requires.can.row.row.own j l other ∙ ap (λ (w : Usable). w j) (sym is)

pub returns : goal.returns
returns c =
    let g = c.args.parent.now.graph.now in
    let parent = c.args.parent.now.multipliers.now in
    record {
      can = c.requires.can;
      first = subst (λ (w : Usable). IsNewEnd g w parent c.in_ok-first.first.node c.in_ok-first.first.value)
          (only_is g c.args.path c.enter.new.self c.args.at.0 c.args.at.1 c.in_ok-enter.ensures.ok) c.in_ok-first.ensures;
      second = subst (λ (w : Usable). IsNewEnd g w parent c.in_ok-second.second.node c.in_ok-second.second.value)
          (without_is g c.args.path c.enter.new.self c.args.at.0 c.args.at.1 c.in_ok-enter.ensures.ok c.leave.new.self
          (λ w us e. left_next g c.leave.result c.enter.new.self c.leave.new.self w us (c.leave.ensures.next g) e)) c.in_ok-second.ensures;
    }
