use Rattle.std.proofs.Common.{rules, ◌≡◌, ℕ, List, Bool, refl, ◌&&◌}
use Rattle.std.proofs.Math.Dec.{eqb}
use Rattle.std.specs.Bool.{Decides}
use Rattle.std.proofs.lemmas.Bool.{and_from, eq-eqb}
use Rattle.request_book.specs.declared.values.passenger.Passenger.{Passenger}
use Rattle.request_book.specs.declared.values.batch_rider.Rider.{Rider}
use Rattle.request_book.specs.declared.values.vehicle.Vehicle.{Vehicle}
use Rattle.request_book.specs.values.Batch.{Batch}

-- a vehicle of its parts
vehicle_of : ℕ → ℕ → ℕ → ℕ → List Passenger → Vehicle
vehicle_of id seats node time items = record { id = id; seats = seats; node = node; time = time; aboard = record { items = items } }

vehicle_of-parts : (a : Vehicle) → vehicle_of a.id a.seats a.node a.time a.aboard.items ≡ a
unfolding vehicle_of
vehicle_of-parts a = refl

-- whether two vehicles agree, field by field, where E compares their passengers
abbrev pub vehicles_agree : (List Passenger → List Passenger → Bool) → Vehicle → Vehicle → Bool
vehicles_agree E a b = eqb a.id b.id && (eqb a.seats b.seats && (eqb a.node b.node && (eqb a.time b.time && E a.aboard.items b.aboard.items)))

-- vehicles that agree in every field are equal, and the other way round
pub vehicles_agree-Decides : (E : List Passenger → List Passenger → Bool) → ((xs ys : List Passenger) → Decides (E xs ys) (xs ≡ ys)) → (a b : Vehicle) →
    Decides (vehicles_agree E a b) (a ≡ b)
vehicles_agree-Decides E decides a b = search (rules, vehicle_of-parts, and_from, eq-eqb)

-- a batch of its parts
batch_of : ℕ → ℕ → List Vehicle → List Rider → List ℕ → Batch
batch_of number sealed_at vehicles riders expired = record { number = number; sealed_at = sealed_at; vehicles = vehicles; riders = riders; expired = expired }

batch_of-parts : (a : Batch) → batch_of a.number a.sealed_at a.vehicles a.riders a.expired ≡ a
unfolding batch_of
batch_of-parts a = refl

-- batches that tell the same in every part are equal
pub same_batch : (a b : Batch) → a.number ≡ b.number → a.sealed_at ≡ b.sealed_at → a.vehicles ≡ b.vehicles → a.riders ≡ b.riders → a.expired ≡ b.expired → a ≡ b
same_batch a b number sealed_at vehicles riders expired = search (rules, batch_of-parts)
