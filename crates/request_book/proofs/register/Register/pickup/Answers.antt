use Rattle.std.proofs.Common.{◌≡◌, ◌<◌, ◌≤◌, List, Some, None, length, get_or, refl, sym, ap, subst, ◌∙◌, arith, set}
use Rattle.request_book.proofs.Common.{All-get_or, HasSeats, Vehicle, Reply, Picked, Aboard, State, state_of, takes_in, BookRider, changed_at, with_status}
use Rattle.std.proofs.lemmas.Option.{MatchOption-at_none}
use Rattle.request_book.proofs.lemmas.register.IndexLemmas.{vehicle-set, IsIndexed-vehicle, less-room}
use Rattle.request_book.proofs.lemmas.register.StepLemmas.{pickup-no_vehicle, pickup-no_rider_at, pickup-known, fifth-none}
use Rattle.request_book.proofs.register.Register.pickup.Goals as goal

pub returns-in_default-clause-stepped : goal.returns-in_default-clause-stepped
returns-in_default-clause-stepped c = pickup-no_vehicle (state_of c.args.self.now) c.args.vehicle c.args.rider c.args.time c.in_default.ensures

pub returns-in_default-rider-clause-stepped : goal.returns-in_default-rider-clause-stepped
returns-in_default-rider-clause-stepped c =
    pickup-no_rider_at (state_of c.args.self.now) c.args.vehicle c.args.rider c.args.time c.in-Some.at c.in-Some.ensures.0 c.in-Some.ensures.1
    (sym c.rider.ensures ∙ c.in_default-rider.is)

pub take_in-requires : goal.take_in-requires
take_in-requires c =
    let vs = c.args.self.now.vehicles.items in
    let v = c.index-carrier.result.now in
    let d = c.index_mut.result.now in
    let at = c.in-Some.at in
    let one : Some (get_or vs at v) ≡ Some (get_or vs at d) = sym (c.in-Some.ensures.1 v) ∙ c.in-Some.ensures.1 d in
    let e1 = c.index-carrier.ensures in
    let e2 = c.index_mut.ensures.value in
    let same : d ≡ v = cc in
    let none = fifth-none c.is_aboard.result c.has_ended.result c.not_promised.result c.time_back.result c.vehicle_full.result
    (sym c.first_of.ensures ∙ c.in-None.is) in
    let room : length v.aboard.items < v.seats = MatchOption-at_none _ _ none c.vehicle_full.ensures.room in
    let seats : HasSeats (get_or vs at v) = All-get_or HasSeats vs at v c.in-Some.ensures.0 c.requires.seats in
    let most : v.seats ≤ 10 = subst (λ (u : Vehicle). u.seats ≤ 10) (sym e1) seats.most in
    subst (λ (u : Vehicle). length u.aboard.items < 10) (sym same) (omega (arith, room, most))

pub returns-in-Some-first_of-clause-stepped : goal.returns-in-Some-first_of-clause-stepped
returns-in-Some-first_of-clause-stepped c =
    let v = c.index-carrier.result.now in
    pickup-known (state_of c.args.self.now) c.args.vehicle c.args.rider c.args.time v c.in-Some-rider.found (Some c.in-Some-first_of.refusal) _ _ _ _ _
    (c.in-Some.ensures.1 v ∙ ap Some (sym c.index-carrier.ensures)) (sym c.rider.ensures ∙ c.in-Some-rider.is)
    (sym c.in-Some-first_of.is ∙ c.first_of.ensures) c.is_aboard.ensures c.has_ended.ensures c.not_promised.ensures c.time_back.ensures
    c.vehicle_full.ensures.seats

pub retire-requires-clause-indexed : goal.retire-requires-clause-indexed
retire-requires-clause-indexed c =
    let r = c.in-Some-rider.found in
    let changed = vehicle-set (takes_in r c.args.time) c.args.vehicle c.in-Some.at c.args.self.now.vehicles.items c.index_mut.result.now c.take_in.new.vehicle
    c.requires.indexed.vehicles c.in-Some.ensures.0 c.in-Some.ensures.1 c.index_mut.ensures.value c.take_in.ensures in
    IsIndexed-vehicle c.args.self.now _ (takes_in r c.args.time) c.args.vehicle (λ u. refl) changed c.requires.indexed

pub returns-in-None-clause-stepped : goal.returns-in-None-clause-stepped
returns-in-None-clause-stepped c =
    let s = state_of c.args.self.now in
    let v = c.index-carrier.result.now in
    let r = c.in-Some-rider.found in
    let changed = vehicle-set (takes_in r c.args.time) c.args.vehicle c.in-Some.at c.args.self.now.vehicles.items c.index_mut.result.now c.take_in.new.vehicle
    c.requires.indexed.vehicles c.in-Some.ensures.0 c.in-Some.ensures.1 c.index_mut.ensures.value c.take_in.ensures in
    let picked : State → State × Reply = λ t. (t, Picked) in
    ap picked c.retire.ensures.state
    ∙ ap (λ us. picked (record s { riders = changed_at (λ x. x.id) r.id (with_status (Aboard c.args.vehicle)) s.riders; vehicles = us })) changed
    ∙ pickup-known s c.args.vehicle c.args.rider c.args.time v r None _ _ _ _ _ (c.in-Some.ensures.1 v ∙ ap Some (sym c.index-carrier.ensures))
    (sym c.rider.ensures ∙ c.in-Some-rider.is)
    (sym c.in-None.is ∙ c.first_of.ensures) c.is_aboard.ensures c.has_ended.ensures c.not_promised.ensures c.time_back.ensures c.vehicle_full.ensures.seats

pub returns-in-None-clause-room : goal.returns-in-None-clause-room
returns-in-None-clause-room c n room = let less = less-room n c.args.self.now room in c.retire.ensures.room n (record { riders = less.riders; ids = less.ids })
