use Rattle.stop_orders.proofs.TripLemmas.{sub_trip_servable, sub_trip_no_dearer}
use Rattle.stop_orders.proofs.laws.sub_trips_are_servable.Goals as goal

pub returns-clause-servable : goal.returns-clause-servable
returns-clause-servable c = λ k points tau settled v trip i t sound vehicle riders few within served. sub_trip_servable k points tau settled t sound v vehicle
    trip riders few i within served

pub returns-clause-no_dearer : goal.returns-clause-no_dearer
returns-clause-no_dearer c = λ k points tau settled v trip i cost less t sound vehicle riders few within all part. sub_trip_no_dearer k points tau settled t
    sound v vehicle trip riders few i within cost less all part
