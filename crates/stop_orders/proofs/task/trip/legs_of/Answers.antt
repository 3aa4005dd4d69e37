use Rattle.std.proofs.Common.{◌≡◌, ℕ, ◌+◌, ◌<◌, List, [], ◌∷◌, ◌++◌, length, take, map, get_or, slice_index_or, length-take, sym, ap, ◌∙◌, arith}
use Rattle.stop_orders.proofs.Common.{length-map, get_or_default, no_rider, Leg}
use Rattle.stop_orders.specs.declared.task.settled_rider.SettledRider.{SettledRider}
use Rattle.std.proofs.lemmas.List.{map_more, take_all}
use Rattle.stop_orders.proofs.task.trip.legs_of.Goals as goal

-- one more leg
leg_pushed : (riders : List SettledRider) (trip : List ℕ) (i : ℕ) (old new : List Leg) (rider : SettledRider) → i < length trip →
    get_or trip i 0 < length riders
    → old ≡ map (λ r. (slice_index_or riders r no_rider).leg) (take i trip) → new ≡ old ++ (get_or riders (get_or trip i 0) rider).leg ∷ [] →
    new ≡ map (λ r. (slice_index_or riders r no_rider).leg) (take (i + 1) trip)
leg_pushed riders trip i old new rider h within so_far pushed =
    let f : ℕ → Leg = λ r. (slice_index_or riders r no_rider).leg in
    let leg : (get_or riders (get_or trip i 0) rider).leg ≡ f (get_or trip i 0) = ap (λ r. r.leg)
    (get_or_default riders (get_or trip i 0) rider no_rider within) in
    pushed ∙ ap (λ xs. xs ++ (get_or riders (get_or trip i 0) rider).leg ∷ []) so_far ∙ ap (λ l. map f (take i trip) ++ l ∷ []) leg ∙
    sym (map_more f trip i 0 h)

pub push-requires : goal.push-requires
push-requires c =
    let i = c.loop-rider.rider-index in
    let trip = c.args.trip.now in
    let so_far = ap length c.loop-rider.invariant ∙ length-map (take i trip) (λ r. (slice_index_or c.args.riders.now r no_rider).leg) in
    let room : length c.loop-rider.legs.items < 6 = omega (arith, so_far, length-take i trip, c.loop-rider-test.true, c.requires.size) in
    (omega arith, room)

pub loop-rider-preserved : goal.loop-rider-preserved
loop-rider-preserved c =
    leg_pushed c.args.riders.now c.args.trip.now c.loop-rider.rider-index c.loop-rider.legs.items c.push.new.self.items c.index-riders-rider.result
    c.loop-rider-test.true
    (c.requires.trip.within c.loop-rider.rider-index 0 c.loop-rider-test.true) c.loop-rider.invariant c.push.ensures.items

pub returns : goal.returns
returns c = c.loop-rider.invariant ∙ ap (λ xs. map (λ r. (slice_index_or c.args.riders.now r no_rider).leg) xs)
    (take_all c.loop-rider.rider-index c.args.trip.now c.loop-rider-test.false)
