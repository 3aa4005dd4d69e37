use Rattle.std.proofs.Common.{◌++◌, ◌<◌, inl, inr, Contains, length, get_or, refl, sym, ap, ◌∙◌, subst, arith}
use Rattle.std.proofs.lemmas.Bool.{cases_eq}
use Rattle.std.proofs.lemmas.List.{get_or_default}
use Rattle.road_network.specs.declared.arc.Arc.{Arc}
use Rattle.road_hierarchy.proofs.build.check.listed.are_each_listed.Goals as goal

pub loop-arc-preserved : goal.loop-arc-preserved
loop-arc-preserved c = λ k d lt.
    let none : Arc = record { from = 0; to = 0; seconds = 0 } in
    let inside : c.loop-arc.arc-index < length c.args.arcs.now = omega (arith, c.loop-arc-test.true) in
    elim (cases_eq k c.loop-arc.arc-index) [
      | inl e ↦
          subst (λ (arc : Arc). Contains (c.args.draft.now.up.items ++ c.args.draft.now.down.items) arc)
          (get_or_default c.args.arcs.now c.loop-arc.arc-index none d inside ∙ ap (λ x. get_or c.args.arcs.now x d) (sym e)) (c.if-not-is_listed.ensures refl)
      | inr ne ↦ c.loop-arc.invariant k d (omega (arith, lt, ne))
    ]
