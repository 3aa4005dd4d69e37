use Rattle.std.proofs.Common.{List, ◌∷◌, sym, ap, ◌∙◌, subst, arith}
use Rattle.bound_checker.proofs.Common.{Standing, standing_of, IsPathOf, Decision, standing_start, coming_next}
use Rattle.bound_checker.proofs.LeaveLemmas.{none_left, coming_popped, path_popped, path_turned}
use Rattle.bound_checker.proofs.decisions.leave.Goals as goal

pub loop-last-preserved : goal.loop-last-preserved
loop-last-preserved c = record {
  coming = λ g. c.loop-last.invariant.coming g ∙ coming_popped g _ _ c.in-Some.last c.in-Some.ensures.items c.if-last.false;
  path = λ g path. path_popped g _ _ c.in-Some.last c.in-Some.ensures.items (c.loop-last.invariant.path g path);
}

pub returns-then-last-clause-next : goal.returns-then-last-clause-next
returns-then-last-clause-next c = λ g.
    c.loop-last.invariant.coming g
    ∙ ap (λ (p : List Decision). (standing_of g p).coming) c.in-Some.ensures.items
    ∙ coming_next g _ c.in-Some.last c.if-last.true
    ∙ sym (ap (λ (p : List Decision). (standing_of g p).usable ∷ (standing_of g p).coming) c.in_ok-push.ensures.items)

pub returns-then-last-clause-path : goal.returns-then-last-clause-path
returns-then-last-clause-path c = λ g path. subst (IsPathOf g) (sym c.in_ok-push.ensures.items)
    (path_turned g _ _ c.in-Some.last c.in-Some.ensures.items (c.loop-last.invariant.path g path))

pub returns-clause-next : goal.returns-clause-next
returns-clause-next c = λ g.
    c.loop-last.invariant.coming g
    ∙ ap (λ (p : List Decision). (standing_of g p).coming) (none_left c.loop-last.decisions.items
    (omega (arith, c.in_default.ensures.cases.0, c.loop-last.decisions.ok.0)))
    ∙ ap (λ (s : Standing). s.coming) (standing_start g)
