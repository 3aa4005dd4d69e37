use Rattle.stop_orders.proofs.lemmas.task.DeletionLemmas.{passenger_left_out}
use Rattle.stop_orders.proofs.laws.passengers_can_be_left_out.Goals as goal

pub returns : goal.returns
returns c = λ points tau task stops j t valid within serves. passenger_left_out points task valid j within tau t stops serves
