use Rattle.stop_orders.proofs.TripLemmas.{delay_small}
use Rattle.stop_orders.proofs.laws.delays_are_small.Goals as goal

pub returns : goal.returns
returns c = λ k points tau settled v trip stops sound vehicle riders few serves. delay_small k points tau settled v trip stops sound vehicle riders few serves
