use Rattle.std.proofs.Common.{◌<◌, ℕ, length, inl, inr, ⊎_elim, sym, ◌∙◌, subst, slice_index_or}
use Rattle.dispatch_engine.proofs.Common.{travel_time, IsServable, no_rider, vehicle_task, request_at, promised_to, kept_legs, CanBeKept}
use Rattle.dispatch_engine.proofs.limits.Seats.{plain_can_be_kept}
use Rattle.dispatch_engine.proofs.limits.Assembly.{nobody_served}
use Rattle.dispatch_engine.proofs.limits.settled_vehicles.settled_vehicle.Goals as goal

pub held_riders-requires-clause-legs : goal.held_riders-requires-clause-legs
held_riders-requires-clause-legs c =
    subst (λ (n : ℕ). (k : ℕ) → k < length c.args.basis.now.requests.now → CanBeKept n c.args.basis.now.settings.now.wait
    (request_at c.args.basis.now.requests.now k) (slice_index_or c.args.basis.now.plain.now k no_rider).leg)
    (sym c.args.basis.now.table)
    (plain_can_be_kept c.args.basis.now.settings.now c.args.basis.now.points.now (travel_time c.args.basis.now.times.now) c.args.basis.now.requests.now
    c.args.basis.now.plain.now c.args.basis.now.right)

-- a vehicle to which nobody is promised is live where it isn't late
pub returns : goal.returns
returns c =
    let settings = c.args.basis.now.settings.now in let tau = travel_time c.args.basis.now.times.now in let requests =
    c.args.basis.now.requests.now in let plain = c.args.basis.now.plain.now in
    let v = c.placed_vehicle-placed.result in let placed = c.placed_vehicle-placed.ensures.placed in
    record {
      placed = record {
        id = placed.id;
        start = placed.start;
        ready = placed.ready;
        seats = placed.seats;
        aboard_count = placed.aboard_count;
        aboard_legs =
            placed.aboard_legs;
        aboard_ids = placed.aboard_ids;
      };
      late = c.in_ok-late.ensures;
      held = ⊎_elim (λ w. inl (record { few = w.0.few; servable = w.0.servable }, w.1))
          (λ w. ⊎_elim (λ u. inl (record { few = u.0; servable = u.1 }, w.1 ∙ u.2)) (λ u. inr (λ l. u l.few l.servable, w.1))
          (nobody_served (λ trip. IsServable tau (vehicle_task settings.dwell v (kept_legs settings.wait requests plain trip))) settings.trip c.in_ok-late.late
          (promised_to v.id requests) c.in_ok-late.ensures
          (λ some few servable. w.0 some (record { few = few; servable = servable })))) c.in_ok-held.ensures;
      valid = c.placed_vehicle-placed.ensures.valid;
      short = c.placed_vehicle-placed.ensures.short;
    }
