use Rattle.std.proofs.Common.{◌≡◌, List, Some, None, refl, sym, ap, subst, ◌∙◌, set}
use Rattle.request_book.proofs.Common.{
  All-get_or,
  Vehicle,
  Reply,
  Dropped,
  Delivered,
  State,
  KeysDiffer,
  state_of,
  lets_out,
  BookRider,
  changed_at,
  with_status,
}
use Rattle.request_book.proofs.lemmas.register.IndexLemmas.{vehicle-set, IsIndexed-vehicle, less-room}
use Rattle.request_book.proofs.lemmas.register.StepLemmas.{dropoff-no_vehicle, dropoff-no_rider_at, dropoff-known}
use Rattle.request_book.proofs.register.Register.dropoff.Goals as goal

pub returns-in_default-clause-stepped : goal.returns-in_default-clause-stepped
returns-in_default-clause-stepped c = dropoff-no_vehicle (state_of c.args.self.now) c.args.vehicle c.args.rider c.args.time c.in_default.ensures

pub returns-in_default-rider-clause-stepped : goal.returns-in_default-rider-clause-stepped
returns-in_default-rider-clause-stepped c =
    dropoff-no_rider_at (state_of c.args.self.now) c.args.vehicle c.args.rider c.args.time c.in-Some.at c.in-Some.ensures.0 c.in-Some.ensures.1
    (sym c.rider.ensures ∙ c.in_default-rider.is)

pub let_out-requires : goal.let_out-requires
let_out-requires c =
    let vs = c.args.self.now.vehicles.items in
    let d = c.index_mut.result.now in
    let P : Vehicle → Type 0 = λ u. KeysDiffer (λ p. p.rider) u.aboard.items in
    subst P (sym c.index_mut.ensures.value) (All-get_or P vs c.in-Some.at d c.in-Some.ensures.0 c.requires.consistent.passengers)

pub returns-in-Some-first_of-clause-stepped : goal.returns-in-Some-first_of-clause-stepped
returns-in-Some-first_of-clause-stepped c =
    let v = c.index.result.now in
    dropoff-known (state_of c.args.self.now) c.args.vehicle c.args.rider c.args.time v c.in-Some-rider.found (Some c.in-Some-first_of.refusal) _ _
    (c.in-Some.ensures.1 v ∙ ap Some (sym c.index.ensures)) (sym c.rider.ensures ∙ c.in-Some-rider.is)
    (sym c.in-Some-first_of.is ∙ c.first_of.ensures) c.not_aboard.ensures c.time_back.ensures

pub retire-requires-clause-indexed : goal.retire-requires-clause-indexed
retire-requires-clause-indexed c =
    let r = c.in-Some-rider.found in
    let changed = vehicle-set (lets_out r c.args.time) c.args.vehicle c.in-Some.at c.args.self.now.vehicles.items c.index_mut.result.now c.let_out.new.vehicle
    c.requires.indexed.vehicles c.in-Some.ensures.0 c.in-Some.ensures.1 c.index_mut.ensures.value c.let_out.ensures in
    IsIndexed-vehicle c.args.self.now _ (lets_out r c.args.time) c.args.vehicle (λ u. refl) changed c.requires.indexed

pub returns-in-None-clause-stepped : goal.returns-in-None-clause-stepped
returns-in-None-clause-stepped c =
    let s = state_of c.args.self.now in
    let v = c.index.result.now in
    let r = c.in-Some-rider.found in
    let changed = vehicle-set (lets_out r c.args.time) c.args.vehicle c.in-Some.at c.args.self.now.vehicles.items c.index_mut.result.now c.let_out.new.vehicle
    c.requires.indexed.vehicles c.in-Some.ensures.0 c.in-Some.ensures.1 c.index_mut.ensures.value c.let_out.ensures in
    let dropped : State → State × Reply = λ t. (t, Dropped) in
    ap dropped c.retire.ensures.state
    ∙ ap (λ us. dropped (record s { riders = changed_at (λ x. x.id) r.id (with_status Delivered) s.riders; vehicles = us })) changed
    ∙ dropoff-known s c.args.vehicle c.args.rider c.args.time v r None _ _ (c.in-Some.ensures.1 v ∙ ap Some (sym c.index.ensures))
    (sym c.rider.ensures ∙ c.in-Some-rider.is)
    (sym c.in-None.is ∙ c.first_of.ensures) c.not_aboard.ensures c.time_back.ensures

pub returns-in-None-clause-room : goal.returns-in-None-clause-room
returns-in-None-clause-room c n room = let less = less-room n c.args.self.now room in c.retire.ensures.room n (record { riders = less.riders; ids = less.ids })
