use Rattle.std.proofs.Common.{◌≡◌, ◌+◌, ℕ, length, take, [], ◌∷◌, ◌++◌, sym, ap, ◌∙◌, subst, arith}
use Rattle.dispatch_engine.proofs.Common.{travel_time, length_push, take_more, All-push, Passenger, Leg, IsLeg, no_leg, IsShort, IsLegOf, IsBetweenPlaces}
use Rattle.std.specs.List.{sum_by}
use Rattle.dispatch_engine.proofs.limits.Pairing.{pairs_more, pairs_all}
use Rattle.dispatch_engine.proofs.limits.Seats.{sum_by_push}
use Rattle.dispatch_engine.proofs.limits.settled_vehicles.legs_of.Goals as goal

pub leg_of-requires-clause-places : goal.leg_of-requires-clause-places
leg_of-requires-clause-places c =
    subst (λ (p : Passenger). IsBetweenPlaces c.args.points.now p.origin p.destination) (sym c.passenger-item.is)
    (c.requires.places c.loop-passenger.passenger-index c.passenger-item.result c.loop-passenger-test.true)

pub loop-passenger-preserved : goal.loop-passenger-preserved
loop-passenger-preserved c =
    let settings = c.args.settings.now in let points = c.args.points.now in let tau = travel_time c.args.times.now in
    let legs = c.loop-passenger.legs.items in let i = c.loop-passenger.passenger-index in let ps = c.args.passengers.now in
    let p = c.passenger-item.result in let leg = c.leg_of.result in
    let more : take (i + 1) ps ≡ take i ps ++ p ∷ [] = take_more ps i p c.loop-passenger-test.true ∙
    ap (λ (x : Passenger). take i ps ++ x ∷ []) (sym c.passenger-item.is) in
    rw c.push.ensures.items (record {
      count = length_push legs leg ∙ ap (λ (n : ℕ). n + 1) c.loop-passenger.invariant.count;
      each = pairs_more (λ (x : Passenger) (y : Leg). IsLegOf settings points tau x.origin x.destination x.time x.party y) no_leg i ps legs p leg
          c.loop-passenger-test.true c.passenger-item.is c.loop-passenger.invariant.count c.leg_of.ensures.leg c.loop-passenger.invariant.each;
      valid = All-push (IsLeg (length points)) legs leg c.loop-passenger.invariant.valid c.leg_of.ensures.valid;
      short = All-push IsShort legs leg c.loop-passenger.invariant.short c.leg_of.ensures.short;
      party = sum_by_push (λ (y : Leg). y.party) legs leg
          ∙ ap (λ (n : ℕ). n + leg.party) c.loop-passenger.invariant.party
          ∙ ap (λ (n : ℕ). sum_by (λ (x : Passenger). x.party) (take i ps) + n) c.leg_of.ensures.leg.size
          ∙ sym (sum_by_push (λ (x : Passenger). x.party) (take i ps) p)
          ∙ ap (sum_by (λ (x : Passenger). x.party)) (sym more);
    })

pub returns-clause-legs : goal.returns-clause-legs
returns-clause-legs c =
    let settings = c.args.settings.now in let points = c.args.points.now in let tau = travel_time c.args.times.now in
    pairs_all (λ (x : Passenger) (y : Leg). IsLegOf settings points tau x.origin x.destination x.time x.party y) no_leg c.loop-passenger.passenger-index
    c.args.passengers.now c.loop-passenger.legs.items
    (omega arith) c.loop-passenger.invariant.each
