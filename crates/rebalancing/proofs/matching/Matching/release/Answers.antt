use Rattle.std.proofs.Common.{◌≡◌, ◌<◌, length, slice_index, sym, arith}
use Rattle.rebalancing.proofs.Common.{get_or_read}
use Rattle.rebalancing.proofs.Augmenting.{IsOpen-released, IsPriced-root_left}
use Rattle.rebalancing.proofs.matching.Matching.release.Goals as goal

pub augment-requires : goal.augment-requires
augment-requires c =
    let s = c.args.self.now in
    let t = c.args.tree.now in
    let position = t.cheapest in
    let grown = c.requires.tree.grown in
    let within : c.args.tree.now.cheapest < length c.args.tree.now.vehicles.items = c.requires.tree.cheapest.within in
    let c_within : c.args.tree.now.cheapest < length c.args.tree.now.riders.items = let e : length c.args.tree.now.riders.items ≡ length
    c.args.tree.now.vehicles.items = grown.tree.c_length in omega arith in
    let parent_within : c.args.tree.now.cheapest < length c.args.tree.now.parents.items = let e : length c.args.tree.now.parents.items ≡ length
    c.args.tree.now.vehicles.items = grown.tree.parent_length in omega arith in
    let vehicle : slice_index t.vehicles.items position ≡ c.index.result.now = sym (get_or_read t.vehicles.items position c.index.result.now within
    c.index.ensures 0) in
    let rider : slice_index t.riders.items position ≡ c.index-then-position-ne0.result.now =
    sym (get_or_read t.riders.items position c.index-then-position-ne0.result.now c_within c.index-then-position-ne0.ensures 0) in
    let parent : c.index-then-position-ne0-2.result.now ≡ slice_index t.parents.items position =
    get_or_read t.parents.items position c.index-then-position-ne0-2.result.now parent_within c.index-then-position-ne0-2.ensures 0 in
    record {
      between = rw parent (IsOpen-released c.requires.priced grown vehicle rider (omega (arith, c.if-position-ne0.true)) within
          (rw vehicle at c.requires.price));
    }

pub returns-else-position-ne0-clause-priced : goal.returns-else-position-ne0-clause-priced
returns-else-position-ne0-clause-priced c =
    let first : c.args.tree.now.cheapest ≡ 0 = omega (arith, c.if-position-ne0.false) in
    IsPriced-root_left c.requires.priced c.requires.tree.grown (rw (first, c.requires.tree.grown.tree.root) at c.requires.price)
