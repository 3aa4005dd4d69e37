use Rattle.std.proofs.Common.{◌∷◌, [], take}
use Rattle.assignment_search.proofs.Common.{every_row, ReadsTo, standing_of, IsPathOf}
use Rattle.assignment_search.proofs.standing.path_to.Given as goal

abbrev pub invariant-loop-k : goal.invariant-loop-k
invariant-loop-k l = record {
  reads : ReadsTo l.graph (every_row ∷ []) (take l.k l.tree.nodes.items) ((standing_of l.graph l.path).usable ∷ (standing_of l.graph l.path).coming);
  path : IsPathOf l.graph l.path;
}
