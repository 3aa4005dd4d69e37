use Rattle.stop_orders.proofs.TripLemmas.{pair_is_edge}
use Rattle.stop_orders.proofs.laws.pairs_are_edges.Goals as goal

pub returns : goal.returns
returns c = λ k points tau settled v a b t sound vehicle trip served. pair_is_edge k points tau settled t sound v vehicle a b trip served
