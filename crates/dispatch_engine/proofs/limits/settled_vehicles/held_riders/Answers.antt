use Rattle.std.proofs.Common.{◌≡◌, ◌<◌, ◌≤◌, ℕ, List, length, inr, sym, ap, ◌∙◌, subst, arith, slice_index_or}
use Rattle.dispatch_engine.proofs.Common.{
  length-map,
  point_count,
  travel_time,
  Leg,
  IsTask,
  IsServable,
  promised_to,
  no_rider,
  vehicle_task,
  request_at,
  kept_legs,
  kept_leg,
}
use Rattle.std.specs.List.{All}
use Rattle.stop_orders.specs.declared.task.task.Task.{Task}
use Rattle.dispatch_engine.proofs.lemmas.limits.Promises.{promised_trip}
use Rattle.dispatch_engine.proofs.limits.Seats.{kept_legs_valid, task_with_legs}
use Rattle.dispatch_engine.proofs.limits.settled_vehicles.held_riders.Goals as goal

pub legs_as_promised-legs-requires-clause-within : goal.legs_as_promised-legs-requires-clause-within
legs_as_promised-legs-requires-clause-within c =
    subst (λ (t : List ℕ). All (λ k. k < length c.args.requests.now) t) (sym (c.as_slice.ensures.value ∙ c.in-Some.ensures.0))
    (promised_trip c.args.vehicle.now.id c.args.requests.now).within

pub can_serve-requires : goal.can_serve-requires
can_serve-requires c =
    let points = point_count c.args.times.now in let wait = c.args.settings.now.wait in let requests = c.args.requests.now in let plain = c.args.plain.now in
    let trip = c.as_slice.result.now in let dwell = c.args.settings.now.dwell in let v = c.args.vehicle.now in
    let within = subst (λ (t : List ℕ). All (λ k. k < length requests) t) (sym (c.as_slice.ensures.value ∙ c.in-Some.ensures.0))
    (promised_trip v.id requests).within in
    let few : length (kept_legs wait requests plain trip) ≤ 6 =
    (let n = length-map trip (λ (k : ℕ). kept_leg wait (request_at requests k) (slice_index_or plain k no_rider).leg) in let most =
    c.as_slice.ensures.fits in omega arith) in
    let valid = task_with_legs points dwell v (kept_legs wait requests plain trip) c.requires.valid
    (kept_legs_valid points wait requests plain trip c.requires.legs within) few in
    subst (IsTask points) (sym (c.task_with-task.ensures ∙ ap (λ (legs : List Leg). vehicle_task dwell v legs) c.legs_as_promised-legs.ensures)) valid

pub returns-else-branch : goal.returns-else-branch
returns-else-branch c =
    let wait = c.args.settings.now.wait in let requests = c.args.requests.now in let plain = c.args.plain.now in let dwell =
    c.args.settings.now.dwell in let v = c.args.vehicle.now in
    let task : c.task_with-task.result ≡ vehicle_task dwell v (kept_legs wait requests plain (promised_to v.id requests)) =
    c.task_with-task.ensures ∙ ap (λ (legs : List Leg). vehicle_task dwell v legs) (c.legs_as_promised-legs.ensures ∙
    ap (kept_legs wait requests plain) (c.as_slice.ensures.value ∙ c.in-Some.ensures.0)) in
    let none = rw c.if-branch.false at c.in_ok-can_serve.ensures in
    inr (λ some live. none (subst (λ (t : Task). IsServable (travel_time c.args.times.now) t) (sym task) live.servable), c.new-else-branch.ensures)
