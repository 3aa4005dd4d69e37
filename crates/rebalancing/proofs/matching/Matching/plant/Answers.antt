use Rattle.std.proofs.Common.{◌≡◌, ℕ, ◌+◌, ◌<◌, ◌≤◌, ap, [], ◌∷◌, length, slice_index, replicate, arith}
use Rattle.rebalancing.proofs.Common.{with_items_is, get_or_read, get_or-replicate, length-replicate, pair_worth, weight_in, Relaxes}
use Rattle.rebalancing.proofs.Growing.{b_most, IsGrown-root, IsReached-root, IsCheapest-root}
use Rattle.rebalancing.proofs.matching.Matching.plant.Goals as goal

pub returns-clause-tree : goal.returns-clause-tree
returns-clause-tree c =
    let s = c.args.self.now in
    let t = c.args.tree.now in
    let k = c.args.vehicle in
    let priced = c.requires.priced in
    let hk = c.requires.within in
    let vehicles : c.push.new.self.vehicles.items ≡ c.args.vehicle ∷ [] = rw c.clear.ensures.vehicles at c.in_ok-push.ensures.vehicles in
    let riders : c.push.new.self.riders.items ≡ c.args.self.now.riders ∷ [] = rw c.clear.ensures.riders at c.in_ok-push.ensures.riders in
    let parents : c.push.new.self.parents.items ≡ 0 ∷ [] = rw c.clear.ensures.parents at c.in_ok-push.ensures.parents in
    let place : c.clear.new.self.place.items ≡ replicate s.riders 0 = rw c.requires.room.place at c.clear.ensures.place in
    let far : c.clear.new.self.tight_at.items ≡ replicate s.riders 18446744073709551615 = rw c.requires.room.tight_at at c.clear.ensures.tight_at in
    let price : c.index.result.now ≡ slice_index s.vehicle_price.items k = get_or_read s.vehicle_price.items k c.index.result.now (rw priced.prices.a_length hk)
    c.index.ensures 0 in
    let relaxes : Relaxes c.row.result.now s.rider_price.items c.clear.new.self.place.items (slice_index s.vehicle_price.items k) 0
    c.clear.new.self.tight_at.items c.clear.new.self.parent_of.items c.relax.new.tight_at c.relax.new.parent_of =
    rw (price, c.deref_mut.ensures.value, c.deref_mut-2.ensures.value, c.deref.ensures.value, c.deref-2.ensures.value, c.push.ensures.lists_alone) at
    c.relax.ensures.relaxes in
    let tight_length : length c.relax.new.tight_at ≡ c.clear.new.self.tight_at.len = omega (arith, relaxes.tight_length, c.clear.new.self.tight_at.ok.0) in
    let of_length : length c.relax.new.parent_of ≡ c.clear.new.self.parent_of.len = omega (arith, relaxes.parent_length, c.clear.new.self.parent_of.ok.0) in
    let far_length : length c.clear.new.self.tight_at.items ≡ s.riders = rw far (length-replicate {A = ℕ} s.riders 18446744073709551615) in
    let po_length : length c.clear.new.self.parent_of.items ≡ s.riders = rw c.clear.ensures.parent_of c.requires.room.parent_of in
    record {
      grown = rw (c.push.ensures.lists_alone, vehicles, riders, parents, place) (IsGrown-root priced hk);
      reached = rw (
        c.push.ensures.lists_alone,
        vehicles,
        with_items_is c.clear.new.self.tight_at c.relax.new.tight_at tight_length,
        with_items_is
            c.clear.new.self.parent_of c.relax.new.parent_of of_length,
        c.clear.ensures.lowered,
      )
          (IsReached-root priced hk {huge = 18446744073709551615} c.row.ensures.length far_length po_length c.row.ensures.weights
          (λ j hj. rw far (get_or-replicate {A = ℕ} s.riders j 18446744073709551615 0 hj)) (omega arith) relaxes);
      cheapest = rw (c.push.ensures.lists_alone, vehicles, c.clear.ensures.cheapest, c.clear.ensures.lowered) (IsCheapest-root priced hk);
    }

pub relax-requires-clause-fits : goal.relax-requires-clause-fits
relax-requires-clause-fits c = λ j h.
    let s = c.args.self.now in
    let priced = c.requires.priced in
    let hj : j < c.args.self.now.riders = rw c.row.ensures.length at h in
    let price : c.index.result.now ≡ slice_index c.args.self.now.vehicle_price.items c.args.vehicle =
    get_or_read s.vehicle_price.items c.args.vehicle c.index.result.now (rw priced.prices.a_length c.requires.within) c.index.ensures 0 in
    let most : slice_index c.args.self.now.vehicle_price.items c.args.vehicle ≤ pair_worth = priced.prices.a_most c.args.vehicle c.requires.within in
    let rider_most : slice_index c.args.self.now.rider_price.items j ≤ pair_worth = b_most priced j hj in
    rw c.deref-2.ensures.value (omega (arith, price, most, rider_most))

pub relax-requires-clause-covers : goal.relax-requires-clause-covers
relax-requires-clause-covers c = λ j h.
    let s = c.args.self.now in
    let priced = c.requires.priced in
    let hj : j < c.args.self.now.riders = rw c.row.ensures.length at h in
    let price : c.index.result.now ≡ slice_index s.vehicle_price.items c.args.vehicle = get_or_read s.vehicle_price.items c.args.vehicle c.index.result.now
    (rw priced.prices.a_length c.requires.within) c.index.ensures 0 in
    let cover : weight_in c.args.self.now c.args.vehicle j ≤ slice_index c.args.self.now.vehicle_price.items c.args.vehicle + slice_index
    c.args.self.now.rider_price.items j = priced.prices.covers c.args.vehicle j c.requires.within hj in
    rw (c.row.ensures.weights j hj, c.deref-2.ensures.value, price) (omega (arith, cover))

pub returns-clause-nearest : goal.returns-clause-nearest
returns-clause-nearest c =
    let t = c.push.new.self in
    rw (with_items_is t.tight_at c.relax.new.tight_at
    (omega (arith, ap length c.deref_mut.ensures.value, c.relax.ensures.relaxes.tight_length, t.tight_at.ok.0)))
    (rw (c.row.ensures.length, c.deref.ensures.value) at c.relax.ensures.nearest)
