use Rattle.std.proofs.Common.{◌<◌, inl, inr, length, get_or, refl, sym, ap, ◌∙◌, subst, arith}
use Rattle.std.proofs.lemmas.Bool.{cases_eq}
use Rattle.std.proofs.lemmas.List.{get_or_default}
use Rattle.road_network.specs.declared.arc.Arc.{Arc}
use Rattle.road_hierarchy.specs.work.build.Checked.{IsBacked, given_arcs}
use Rattle.road_hierarchy.proofs.build.check.backed.are_backed.Goals as goal

pub loop-place-preserved : goal.loop-place-preserved
loop-place-preserved c = λ k d lt.
    let none : Arc = record { from = 0; to = 0; seconds = 0 } in
    let inside : c.loop-place.place < length c.args.arcs.now = omega (arith, c.loop-place-test.true) in
    elim (cases_eq k c.loop-place.place) [
      | inl e ↦
          subst (λ (arc : Arc). IsBacked (given_arcs c.args.network.now c.args.draft.now.turns.items) c.args.draft.now.up.items c.args.draft.now.down.items arc)
          (get_or_default c.args.arcs.now c.loop-place.place none d inside ∙ ap (λ x. get_or c.args.arcs.now x d) (sym e)) (c.if-not-is_backed.ensures refl)
      | inr ne ↦ c.loop-place.invariant k d (omega (arith, lt, ne))
    ]

pub returns : goal.returns
returns c = λ yes k d inside. c.loop-place.invariant k d (omega (arith, inside, c.loop-place-test.false))
