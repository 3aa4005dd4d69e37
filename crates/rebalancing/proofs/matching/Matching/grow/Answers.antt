use Rattle.std.proofs.Common.{◌≡◌, ◌+◌, ◌<◌, ◌≤◌, [], ◌∷◌, ◌++◌, length, slice_index, set, refl, sym, ap, ◌∙◌, ⊎_elim, arith}
use Rattle.rebalancing.proofs.Common.{with_items_is, get_or_read, get_or_append_left, get_or_push, weight_in, Relaxes, IsCheaper, root_of, IsCheapest}
use Rattle.rebalancing.proofs.Growing.{IsGrown-more, IsReached-more, IsCheapest-new, IsCheapest-old, offset_fits}
use Rattle.rebalancing.proofs.matching.Matching.grow.Goals as goal

pub relax-requires-clause-covers : goal.relax-requires-clause-covers
relax-requires-clause-covers c = λ j h.
    let s = c.args.self.now in
    let priced = c.requires.priced in
    let v = c.index-vehicle.result.now in
    let ev : slice_index s.vehicle_of.items c.args.rider ≡ v = sym (get_or_read s.vehicle_of.items c.args.rider v (rw priced.p_length c.requires.within)
    c.index-vehicle.ensures 0) in
    let hv : c.index-vehicle.result.now < c.args.self.now.vehicles = rw ev at c.requires.matched in
    let hj : j < c.args.self.now.riders = rw c.row.ensures.length at h in
    let price : c.index.result.now ≡ slice_index s.vehicle_price.items v = get_or_read s.vehicle_price.items v c.index.result.now (rw priced.prices.a_length hv)
    c.index.ensures 0 in
    let cover : weight_in c.args.self.now c.index-vehicle.result.now j ≤ slice_index c.args.self.now.vehicle_price.items c.index-vehicle.result.now +
    slice_index c.args.self.now.rider_price.items j = priced.prices.covers v j hv hj in
    rw (c.row.ensures.weights j hj, c.deref-4.ensures.value, price) (omega (arith, cover))

pub relax-requires-clause-fits : goal.relax-requires-clause-fits
relax-requires-clause-fits c = λ j h.
    let s = c.args.self.now in
    let priced = c.requires.priced in
    let t = c.requires.tree in
    let v = c.index-vehicle.result.now in
    let ev : slice_index s.vehicle_of.items c.args.rider ≡ v = sym (get_or_read s.vehicle_of.items c.args.rider v (rw priced.p_length c.requires.within)
    c.index-vehicle.ensures 0) in
    let hv : c.index-vehicle.result.now < c.args.self.now.vehicles = rw ev at c.requires.matched in
    let hj : j < c.args.self.now.riders = rw c.row.ensures.length at h in
    let price : c.index.result.now ≡ slice_index s.vehicle_price.items v = get_or_read s.vehicle_price.items v c.index.result.now (rw priced.prices.a_length hv)
    c.index.ensures 0 in
    let fits : slice_index c.args.self.now.vehicle_price.items c.index-vehicle.result.now + c.args.tree.now.lowered + slice_index
    c.args.self.now.rider_price.items j < 2000000000000 = offset_fits priced t.grown t.reached t.cheapest c.requires.within c.requires.outside
    c.requires.tight c.requires.matched ev j hj in
    rw (c.deref-4.ensures.value, price, c.push.ensures.lists_alone) (omega (arith, fits))

pub returns-clause-tree : goal.returns-clause-tree
returns-clause-tree c =
    let s = c.args.self.now in
    let t = c.args.tree.now in
    let j = c.args.rider in
    let r = t.vehicles.items in
    let priced = c.requires.priced in
    let tree = c.requires.tree in
    let v = c.index-vehicle.result.now in
    let ev : slice_index s.vehicle_of.items j ≡ v = sym (get_or_read s.vehicle_of.items j v (rw priced.p_length c.requires.within) c.index-vehicle.ensures 0) in
    let hv : c.index-vehicle.result.now < c.args.self.now.vehicles = rw ev at c.requires.matched in
    let price : c.index.result.now ≡ slice_index s.vehicle_price.items v = get_or_read s.vehicle_price.items v c.index.result.now (rw priced.prices.a_length hv)
    c.index.ensures 0 in
    let position : c.len-position.result ≡ length r = c.len-position.ensures ∙ t.vehicles.ok.0 in
    let reached_from : c.index-parent.result.now ≡ slice_index t.parent_of.items j = get_or_read t.parent_of.items j c.index-parent.result.now
    (rw tree.reached.of_length c.requires.within) c.index-parent.ensures 0 in
    let vehicles : c.push.new.self.vehicles.items ≡ r ++ v ∷ [] = c.in_ok-push.ensures.vehicles in
    let riders : c.push.new.self.riders.items ≡ t.riders.items ++ j ∷ [] = c.in_ok-push.ensures.riders in
    let parents : c.push.new.self.parents.items ≡ t.parents.items ++ slice_index t.parent_of.items j ∷ [] = rw reached_from at c.in_ok-push.ensures.parents in
    let relaxes : Relaxes c.row.result.now s.rider_price.items (set t.place.items j (length r)) (slice_index s.vehicle_price.items v + t.lowered) (length r)
    t.tight_at.items t.parent_of.items c.relax.new.tight_at c.relax.new.parent_of =
    rw (price, c.deref_mut.ensures.value, c.deref_mut-2.ensures.value, c.deref-3.ensures.value, c.deref-4.ensures.value, position, c.push.ensures.lists_alone)
    at c.relax.ensures.relaxes in
    let tight_length : length c.relax.new.tight_at ≡ t.tight_at.len = omega (arith, relaxes.tight_length, t.tight_at.ok.0) in
    let cheaper : IsCheaper s.vehicle_price.items (r ++ v ∷ []) t.cheapest (length r) c.cheaper-tree.result =
    rw (c.deref.ensures.value, c.deref-2.ensures.value, vehicles, position, c.push.ensures.lists_alone) at c.cheaper-tree.ensures in
    let old : slice_index (r ++ v ∷ []) t.cheapest ≡ slice_index r t.cheapest = get_or_append_left r (v ∷ []) 0 t.cheapest tree.cheapest.within in
    let new : slice_index (r ++ v ∷ []) (length r) ≡ v = get_or_push r v 0 (length r) refl in
    let cheapest : IsCheapest (root_of t) s.vehicle_price.items (r ++ v ∷ []) c.cheaper-tree.result t.lowered = ⊎_elim
    (λ (is : (c.cheaper-tree.result ≡ length r) × (slice_index s.vehicle_price.items (slice_index (r ++ v ∷ []) (length r)) < slice_index s.vehicle_price.items
    (slice_index (r ++ v ∷ []) t.cheapest))).
    rw is.0 (IsCheapest-new priced tree.grown tree.reached tree.cheapest c.requires.within c.requires.outside c.requires.tight c.requires.matched ev
    (rw (new, old) at is.1)))
    (λ (is : (c.cheaper-tree.result ≡ t.cheapest) × (slice_index s.vehicle_price.items (slice_index (r ++ v ∷ []) t.cheapest) ≤ slice_index
    s.vehicle_price.items (slice_index (r ++ v ∷ []) (length r)))).
    rw is.0 (IsCheapest-old priced tree.grown tree.reached tree.cheapest c.requires.within c.requires.outside c.requires.tight c.requires.matched ev
    (rw (new, old) at is.1)))
    cheaper in
    record {
      grown = rw (c.push.ensures.lists_alone, vehicles, riders, parents, position) (IsGrown-more priced tree.grown tree.reached tree.cheapest c.requires.within
          c.requires.outside c.requires.tight c.requires.matched ev);
      reached = rw (
        c.push.ensures.lists_alone,
        vehicles,
        with_items_is t.tight_at c.relax.new.tight_at tight_length,
        with_items_is t.parent_of
            c.relax.new.parent_of (omega (arith, relaxes.parent_length, t.parent_of.ok.0)),
        position,
      )
          (IsReached-more priced tree.grown tree.reached tree.cheapest c.requires.within c.requires.outside c.requires.tight c.requires.matched ev
          c.row.ensures.length c.row.ensures.weights relaxes);
      cheapest = rw (c.push.ensures.lists_alone, vehicles) cheapest;
    }

pub cheaper-tree-requires-clause-first_price : goal.cheaper-tree-requires-clause-first_price
cheaper-tree-requires-clause-first_price c =
    let t = c.args.tree.now in
    let tree = c.requires.tree in
    rw (
      c.deref.ensures.value,
      c.deref-2.ensures.value,
      c.push.ensures.lists_alone,
      c.in_ok-push.ensures.vehicles,
      get_or_append_left t.vehicles.items
          (c.index-vehicle.result.now ∷ []) 0 t.cheapest tree.cheapest.within,
      c.requires.priced.prices.a_length,
    )
    (tree.grown.tree.vehicle t.cheapest tree.cheapest.within)

pub overflow_add-reached : goal.overflow_add-reached
overflow_add-reached c =
    let s = c.args.self.now in
    let priced = c.requires.priced in
    let t = c.requires.tree in
    let v = c.index-vehicle.result.now in
    let ev : slice_index s.vehicle_of.items c.args.rider ≡ v = sym (get_or_read s.vehicle_of.items c.args.rider v (rw priced.p_length c.requires.within)
    c.index-vehicle.ensures 0) in
    let hv : c.index-vehicle.result.now < c.args.self.now.vehicles = rw ev at c.requires.matched in
    let price : c.index.result.now ≡ slice_index c.args.self.now.vehicle_price.items c.index-vehicle.result.now =
    get_or_read s.vehicle_price.items v c.index.result.now (rw priced.prices.a_length hv) c.index.ensures 0 in
    let fits : slice_index c.args.self.now.vehicle_price.items c.index-vehicle.result.now + c.args.tree.now.lowered + slice_index
    c.args.self.now.rider_price.items c.args.rider < 2000000000000 = offset_fits priced t.grown t.reached t.cheapest c.requires.within c.requires.outside
    c.requires.tight c.requires.matched ev c.args.rider c.requires.within in
    rw c.push.ensures.lists_alone (omega (arith, price, fits))

pub returns-clause-nearest : goal.returns-clause-nearest
returns-clause-nearest c =
    let t = c.push.new.self in
    rw (with_items_is t.tight_at c.relax.new.tight_at
    (omega (arith, ap length c.deref_mut.ensures.value, c.relax.ensures.relaxes.tight_length, t.tight_at.ok.0)))
    (rw (c.row.ensures.length, c.deref-3.ensures.value) at c.relax.ensures.nearest)
