use Rattle.std.proofs.Common.{refl, arith}
use Rattle.rebalancing.proofs.Common.{with_items_is, Falls, Rises}
use Rattle.rebalancing.proofs.Shifting.{vehicles_differ, IsPriced-shifted, IsGrown-shifted, IsReached-shifted, IsCheapest-shifted}
use Rattle.rebalancing.proofs.matching.Matching.shift.Goals as goal

pub lower-requires-clause-distinct : goal.lower-requires-clause-distinct
lower-requires-clause-distinct c = rw c.deref.ensures.value (vehicles_differ c.requires.tree.grown.tree)

pub returns : goal.returns
returns c =
    let s = c.args.self.now in
    let t = c.args.tree.now in
    let h = c.requires in
    let fall : Falls t.vehicles.items c.args.by s.vehicle_price.items c.lower.new.prices =
    rw (c.deref_mut.ensures.value, c.deref.ensures.value) at c.lower.ensures in
    let rise : Rises t.riders.items c.args.by s.rider_price.items c.raise.new.prices = rw (c.deref_mut-2.ensures.value, c.deref-2.ensures.value) at
    c.raise.ensures in
    let a = with_items_is s.vehicle_price c.lower.new.prices (omega (arith, fall.same_length, s.vehicle_price.ok.0)) in
    let b = with_items_is s.rider_price c.raise.new.prices (omega (arith, rise.same_length, s.rider_price.ok.0)) in
    record {
      priced = rw (a, b) (IsPriced-shifted h.priced h.tree.grown h.tree.reached h.tree.cheapest h.enough h.not_past fall rise);
      tree = record {
        grown = rw (a, b) (IsGrown-shifted h.priced h.tree.grown h.tree.reached h.tree.cheapest h.enough h.not_past fall rise);
        reached = rw (a, b) (IsReached-shifted h.priced h.tree.grown h.tree.reached h.tree.cheapest h.enough h.not_past fall rise);
        cheapest = rw a (IsCheapest-shifted h.priced h.tree.grown h.tree.reached h.tree.cheapest h.enough h.not_past fall rise);
      };
      price = rw a (fall.inside t.cheapest h.tree.cheapest.within);
      prices_alone = refl;
      lowered_alone = refl;
    }
