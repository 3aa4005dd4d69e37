use Rattle.std.proofs.Common.{◌≡◌, List, [], length, subst, sym, ap, ◌∙◌, arith}
use Rattle.travel_times.proofs.Common.{get_or_read, Hub, NodeLabels, label_at, IsRising, IsLeastInCommon}
use Rattle.travel_times.proofs.labels.Query.{time_by_labels}
use Rattle.travel_times.proofs.labels.labels.Labels.time.Goals as goal

pub least_in_common-requires-clause-forward : goal.least_in_common-requires-clause-forward
least_in_common-requires-clause-forward c =
    let inside = ap (λ (v : NodeLabels). length v.forward) c.self.view_is in
    rw (c.deref.ensures.value, c.as_slice.ensures)
    (subst (λ (l : List Hub). IsRising c.self.inside.rank.items l) (sym c.index.ensures) (c.self.invariant.forward_rising c.args.a c.index.result.now
    (omega (arith, inside, c.requires.from))))

pub least_in_common-requires-clause-backward : goal.least_in_common-requires-clause-backward
least_in_common-requires-clause-backward c =
    let inside = ap (λ (v : NodeLabels). length v.backward) c.self.view_is in
    rw (c.deref.ensures.value, c.as_slice-2.ensures)
    (subst (λ (l : List Hub). IsRising c.self.inside.rank.items l) (sym c.index-2.ensures)
    (c.self.invariant.backward_rising c.args.b c.index-2.result.now (omega (arith, inside, c.requires.to))))

pub returns : goal.returns
returns c = λ roads of.
    let view = c.self.view_is in
    let inside = ap (λ (v : NodeLabels). length v.forward) view in
    let inside' = ap (λ (v : NodeLabels). length v.backward) view in
    let forward : c.as_slice.result.now ≡ label_at c.args.self.now.forward c.args.a = c.as_slice.ensures ∙
    get_or_read c.self.inside.forward.items c.args.a c.index.result.now (omega (arith, inside, c.requires.from)) c.index.ensures [] ∙
    ap (λ (v : NodeLabels). label_at v.forward c.args.a) view in
    let backward : c.as_slice-2.result.now ≡ label_at c.args.self.now.backward c.args.b = c.as_slice-2.ensures ∙
    get_or_read c.self.inside.backward.items c.args.b c.index-2.result.now (omega (arith, inside', c.requires.to)) c.index-2.ensures [] ∙
    ap (λ (v : NodeLabels). label_at v.backward c.args.b) view in
    let common : IsLeastInCommon (label_at c.args.self.now.forward c.args.a) (label_at c.args.self.now.backward c.args.b) c.least_in_common.result =
    rw (forward, backward) at c.least_in_common.ensures in
    time_by_labels roads c.args.self.now c.args.a c.args.b c.least_in_common.result of (omega (arith, of.forward_each, c.requires.from))
    (omega (arith, of.backward_each, c.requires.to)) common
