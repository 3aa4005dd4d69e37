use Rattle.std.proofs.Common.{length, refl, sym, ◌∙◌, subst}
use Rattle.road_hierarchy.specs.work.build.Checked.{AreDowns, AreUps}
use Rattle.road_hierarchy.proofs.build.Checking.{ready_of}
use Rattle.road_hierarchy.proofs.build.Within.{listed_within}
use Rattle.road_hierarchy.proofs.build.check.ready.is_ready.Goals as goal

pub is_timed-requires : goal.is_timed-requires
is_timed-requires c = c.if-not-is_ordered.ensures.count refl ∙ c.node_count-nodes.ensures.count

pub are_passed-requires-clause-ups : goal.are_passed-requires-clause-ups
are_passed-requires-clause-ups c = subst (λ n. AreUps n c.args.draft.now.up.items) (sym (c.if-not-is_ordered.ensures.count refl))
    (c.if-not-is_ordered.ensures.ups refl)

pub are_passed-requires-clause-downs : goal.are_passed-requires-clause-downs
are_passed-requires-clause-downs c = subst (λ n. AreDowns n c.args.draft.now.down.items) (sym (c.if-not-is_ordered.ensures.count refl))
    (c.if-not-is_ordered.ensures.downs refl)

pub are_passed-requires-clause-listed : goal.are_passed-requires-clause-listed
are_passed-requires-clause-listed c = c.if-not-are_listed.ensures refl

pub are_passed-requires-clause-within : goal.are_passed-requires-clause-within
are_passed-requires-clause-within c =
    let ups : AreUps (length c.args.draft.now.turns.items) c.args.draft.now.up.items =
    subst (λ n. AreUps n c.args.draft.now.up.items) (sym (c.if-not-is_ordered.ensures.count refl)) (c.if-not-is_ordered.ensures.ups refl) in
    let downs : AreDowns (length c.args.draft.now.turns.items) c.args.draft.now.down.items =
    subst (λ n. AreDowns n c.args.draft.now.down.items) (sym (c.if-not-is_ordered.ensures.count refl)) (c.if-not-is_ordered.ensures.downs refl) in
    listed_within (length c.args.draft.now.turns.items) c.args.draft.now.up.items c.args.draft.now.down.items c.args.draft.now.leaving.items ups downs
    (c.if-not-are_listed.ensures refl)

pub returns : goal.returns
returns c = λ yes.
    let ups : AreUps (length c.args.draft.now.turns.items) c.args.draft.now.up.items =
    subst (λ n. AreUps n c.args.draft.now.up.items) (sym (c.if-not-is_ordered.ensures.count refl)) (c.if-not-is_ordered.ensures.ups refl) in
    let downs : AreDowns (length c.args.draft.now.turns.items) c.args.draft.now.down.items =
    subst (λ n. AreDowns n c.args.draft.now.down.items) (sym (c.if-not-is_ordered.ensures.count refl)) (c.if-not-is_ordered.ensures.downs refl) in
    ready_of c.args.network.now c.args.draft.now.turns.items c.args.draft.now.nodes.items c.args.draft.now.up.items c.args.draft.now.down.items
    c.node_count-nodes.ensures.kept (c.if-not-is_ordered.ensures.count refl ∙ c.node_count-nodes.ensures.count)
    (c.if-not-is_ordered.ensures.turns refl) ups downs (c.if-not-is_timed.ensures.kept refl) (c.if-not-is_timed.ensures.ups refl)
    (c.if-not-is_timed.ensures.downs refl) (c.in_ok-are_passed.ensures c.if-not-branch.false)
