use Rattle.std.proofs.Common.{◌++◌, ◌<◌, inl, inr, length, get_or, sym, ap, ◌∙◌, subst, arith}
use Rattle.std.proofs.lemmas.Bool.{cases_eq}
use Rattle.std.proofs.lemmas.List.{get_or_default}
use Rattle.road_network.specs.declared.arc.Arc.{Arc}
use Rattle.road_hierarchy.specs.work.build.Checked.{IsPassed}
use Rattle.road_hierarchy.proofs.build.check.past.are_each_passed.Goals as goal

pub is_passed-requires-clause-down : goal.is_passed-requires-clause-down
is_passed-requires-clause-down c =
    let none : Arc = record { from = 0; to = 0; seconds = 0 } in
    let inside : c.loop-first.first-index < length c.args.downs.now = omega arith in
    c.requires.downs c.loop-first.first-index none inside

pub loop-first-preserved : goal.loop-first-preserved
loop-first-preserved c =
    let none : Arc = record { from = 0; to = 0; seconds = 0 } in
    let inside : c.loop-first.first-index < length c.args.downs.now = omega arith in
    record {
      same_length = c.in_ok-is_passed.ensures.length ∙ c.loop-first.invariant.same_length;
      none_later = c.in_ok-is_passed.ensures.none_later c.if-not-branch.false;
      passed = λ k d lt. elim (cases_eq k c.loop-first.first-index) [
        | inl e ↦
            subst (λ (first : Arc). IsPassed (c.args.draft.now.up.items ++ c.args.draft.now.down.items) c.args.draft.now.up.items first)
            (get_or_default c.args.downs.now c.loop-first.first-index none d inside ∙ ap (λ x. get_or c.args.downs.now x d) (sym e))
            (c.in_ok-is_passed.ensures.passed c.if-not-branch.false)
        | inr ne ↦ c.loop-first.invariant.passed k d (omega (arith, lt, ne))
      ];
    }
