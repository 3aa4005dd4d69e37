use Rattle.std.proofs.Common.{All, refl, subst}
use Rattle.road_hierarchy.specs.work.build.Checked.{IsBacked, given_arcs}
use Rattle.road_hierarchy.proofs.build.check.ready.is_timed.Goals as goal

pub returns-clause-kept : goal.returns-clause-kept
returns-clause-kept c = λ yes. c.if-not-are_kept.ensures refl

pub returns-clause-ups : goal.returns-clause-ups
returns-clause-ups c = λ yes.
    subst (All (IsBacked (given_arcs c.args.network.now c.args.draft.now.turns.items) c.args.draft.now.up.items c.args.draft.now.down.items))
    c.as_slice-up.ensures.value (c.are_backed-rising.ensures c.if-not-rising.false)

pub returns-clause-downs : goal.returns-clause-downs
returns-clause-downs c = λ yes.
    subst (All (IsBacked (given_arcs c.args.network.now c.args.draft.now.turns.items) c.args.draft.now.up.items c.args.draft.now.down.items))
    c.as_slice-down.ensures.value (c.are_backed-falling.ensures c.if-not-falling.false)
