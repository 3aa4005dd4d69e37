use Rattle.std.specs.Prelude.{◌≡◌, ℕ, ◌+◌, ◌≤◌, Option, Some, None, map, option_and_then, vec_len, vec_capacity, if◌then◌else◌}
use Rattle.request_book.specs.declared.register.Register.{Register}
use Rattle.request_book.specs.declared.values.rider.BookRider.{BookRider}
use Rattle.request_book.specs.declared.values.state.State.{State}
use Rattle.request_book.specs.values.Keyed.{look_up, KeysRise, KeysDiffer}
use Rattle.request_book.specs.values.Rider.{is_active}
use Rattle.request_book.specs.values.State.{find_rider}

-- the state that a register holds
abbrev pub state_of : Register → State
state_of g = record { riders = g.riders.items; vehicles = g.vehicles.items; last_seal = g.last_seal; sealed = g.sealed; batches = g.batches }

-- the id of a rider who waits or has a promise
abbrev pub pool_id : BookRider → Option ℕ
pool_id r = if is_active r.status then Some r.id else None

-- by what a register finds its riders and vehicles
pub record IsIndexed (g : Register) : Type 0 where
  pub ids : g.ids.names ≡ map (λ r. r.id) g.riders.items
  pub vehicle_ids : g.vehicle_ids.names ≡ map (λ v. v.id) g.vehicles.items
  pub riders : KeysDiffer (λ r. r.id) g.riders.items
  pub vehicles : KeysRise (λ v. v.id) g.vehicles.items
  pub pool_rise : KeysRise (λ id. id) g.pool.items
  pub pool : (id : ℕ) → look_up (λ id. id) id g.pool.items ≡ option_and_then pool_id (find_rider id g.riders.items)
  pub pool_room : 1000 ≤ vec_capacity g.pool

-- there is room for n more riders without memory
pub record HasRoom (n : ℕ) (g : Register) : Type 0 where
  pub riders : vec_len g.riders + n ≤ vec_capacity g.riders
  pub ids : n ≤ g.ids.spare
