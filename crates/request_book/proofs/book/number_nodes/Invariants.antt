use Rattle.std.proofs.Common.{◌≡◌, take}
use Rattle.request_book.proofs.book.number_nodes.Given as goal

abbrev pub invariant-loop-index : goal.invariant-loop-index
invariant-loop-index l = l.nodes.names ≡ take l.index l.network.nodes
