use Rattle.std.proofs.Common.{◌≡◌, ◌∷◌, [], length, take, All}
use Rattle.report_audit.proofs.Common.{every_row, IsPathOf, ReadsTo, places_read, coming_of, IsFairNode}
use Rattle.report_audit.proofs.points.nodes.is_fair.Given as goal

abbrev pub invariant-loop-node : goal.invariant-loop-node
invariant-loop-node l = record {
  reads : ReadsTo l.graph (every_row ∷ []) (take l.node-index l.fn.tree) (coming_of l.graph l.walk.ended l.walk.path);
  path : IsPathOf l.graph l.walk.path;
  sized : length l.usable.items ≡ length l.graph.rows;
  fair : All (λ p. IsFairNode l.graph l.bound p.usable p.node) (places_read l.graph (take l.node-index l.fn.tree));
}
