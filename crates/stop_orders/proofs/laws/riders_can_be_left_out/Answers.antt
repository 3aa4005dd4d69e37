use Rattle.stop_orders.proofs.lemmas.task.DeletionLemmas.{rider_left_out}
use Rattle.stop_orders.proofs.laws.riders_can_be_left_out.Goals as goal

pub returns : goal.returns
returns c = λ points tau task stops i t valid within serves. rider_left_out points task valid i within tau t stops serves
