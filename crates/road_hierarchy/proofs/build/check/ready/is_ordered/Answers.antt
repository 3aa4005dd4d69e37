use Rattle.std.proofs.Common.{ℕ, List, refl, subst}
use Rattle.road_hierarchy.specs.work.build.Turns.{AreTurns}
use Rattle.road_hierarchy.specs.work.build.Checked.{AreDowns, AreUps}
use Rattle.road_hierarchy.proofs.build.check.ready.is_ordered.Goals as goal

pub returns-clause-turns : goal.returns-clause-turns
returns-clause-turns c = λ yes.
    subst (λ (turns : List ℕ). AreTurns turns c.args.draft.now.nodes.items) c.as_slice-turns.ensures.value
    (subst (AreTurns c.as_slice-turns.result.now) c.as_slice-order.ensures.value (c.if-not-are_turns.ensures refl))

pub returns-clause-ups : goal.returns-clause-ups
returns-clause-ups c = λ yes. subst (AreUps c.args.nodes) c.as_slice-up.ensures.value (c.if-not-are_ups.ensures refl)

pub returns-clause-downs : goal.returns-clause-downs
returns-clause-downs c = λ yes. subst (AreDowns c.args.nodes) c.as_slice-down.ensures.value (c.if-not-are_downs.ensures refl)
