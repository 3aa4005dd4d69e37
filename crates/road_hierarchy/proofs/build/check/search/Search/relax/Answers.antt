use Rattle.std.proofs.Common.{◌≡◌, ◌++◌, ◌<◌, length, Contains, sym, ◌∙◌, subst, arith}
use Rattle.std.proofs.lemmas.List.{get_or_read}
use Rattle.road_hierarchy.specs.work.build.Labels.{IsLabelled}
use Rattle.road_hierarchy.proofs.build.check.search.Search.relax.Goals as goal

pub loop-place-preserved : goal.loop-place-preserved
loop-place-preserved c =
    let arcs = c.args.draft.now.up.items ++ c.args.draft.now.down.items in
    let leaving = c.args.draft.now.leaving.items in
    let arc = c.index-arc.result.now in
    let inside : c.loop-place.place < length c.args.draft.now.leaving.items = omega arith in
    let read = get_or_read leaving c.loop-place.place arc inside c.index-arc.ensures arc in
    let among : Contains (c.args.draft.now.up.items ++ c.args.draft.now.down.items) c.index-arc.result.now =
    subst (λ x. Contains (c.args.draft.now.up.items ++ c.args.draft.now.down.items) x) (sym read) (c.requires.listed c.loop-place.place arc inside) in
    let from : c.index-arc.result.now.from ≡ c.args.node = omega (arith, c.if-arc-node.false) in
    record {
      same_length = c.in_ok-lower.ensures.length ∙ c.loop-place.invariant.same_length;
      labels = c.in_ok-lower.ensures.labels arcs c.loop-place.invariant.labels among
          (subst (λ x. IsLabelled (c.args.draft.now.up.items ++ c.args.draft.now.down.items) c.args.first.to c.args.first.from x c.args.seconds) (sym from)
          c.loop-place.invariant.here) (omega (arith, c.if-arc-first.false));
      here = c.loop-place.invariant.here;
    }
