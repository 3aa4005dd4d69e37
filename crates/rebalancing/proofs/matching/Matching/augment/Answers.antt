use Rattle.std.proofs.Common.{◌≡◌, ◌<◌, length, slice_index, sym, ap, ◌∙◌, arith}
use Rattle.rebalancing.proofs.Common.{get_or_read}
use Rattle.rebalancing.proofs.Augmenting.{IsPriced-closed, IsOpen-step}
use Rattle.rebalancing.proofs.matching.Matching.augment.Goals as goal

pub loop-position-preserved : goal.loop-position-preserved
loop-position-preserved c =
    let s = c.loop-position.self in
    let t = c.args.tree.now in
    let position = c.loop-position.position in
    let between = c.loop-position.invariant.0 in
    let within : c.loop-position.position < length c.args.tree.now.vehicles.items = between.position_within in
    let c_within : c.loop-position.position < length c.args.tree.now.riders.items = let e : length c.args.tree.now.riders.items ≡ length
    c.args.tree.now.vehicles.items = between.tree.c_length in omega arith in
    let parent_within : c.loop-position.position < length c.args.tree.now.parents.items = let e : length c.args.tree.now.parents.items ≡ length
    c.args.tree.now.vehicles.items = between.tree.parent_length in omega arith in
    let vehicle : slice_index t.vehicles.items position ≡ c.index.result.now = sym (get_or_read t.vehicles.items position c.index.result.now within
    c.index.ensures 0) in
    let rider : slice_index t.riders.items position ≡ c.index-rider.result.now = sym (get_or_read t.riders.items position c.index-rider.result.now c_within
    c.index-rider.ensures 0) in
    let parent : c.index-position.result.now ≡ slice_index t.parents.items position = get_or_read t.parents.items position c.index-position.result.now
    parent_within c.index-position.ensures 0 in (
      rw (c.join.ensures.partners_alone, c.join.ensures.rider_of, c.join.ensures.vehicle_of, parent)
          (IsOpen-step between vehicle rider (omega (arith, c.loop-position-test.true))),
      record {
        vehicles = ap (λ x. x.vehicles) c.join.ensures.partners_alone ∙ c.loop-position.invariant.1.vehicles;
        riders = ap (λ x. x.riders) c.join.ensures.partners_alone ∙ c.loop-position.invariant.1.riders;
        weights = ap (λ x. x.weights) c.join.ensures.partners_alone ∙ c.loop-position.invariant.1.weights;
      },
    )

pub returns-clause-priced : goal.returns-clause-priced
returns-clause-priced c =
    let t = c.args.tree.now in
    let between = c.loop-position.invariant.0 in
    let first : c.loop-position.position ≡ 0 = omega (arith, c.loop-position-test.false) in
    let within : 0 < length c.args.tree.now.vehicles.items = let h : c.loop-position.position < length c.args.tree.now.vehicles.items =
    between.position_within in omega arith in
    let vehicle : slice_index t.vehicles.items c.loop-position.position ≡ c.index-2.result.now = ap (slice_index t.vehicles.items) first ∙
    sym (get_or_read t.vehicles.items 0 c.index-2.result.now within c.index-2.ensures 0) in
    rw (c.join-2.ensures.partners_alone, c.join-2.ensures.rider_of, c.join-2.ensures.vehicle_of) (IsPriced-closed between vehicle first)
