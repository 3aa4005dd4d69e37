use Rattle.std.proofs.Common.{◌≡◌, take, map}
use Rattle.report_audit.proofs.Common.{node_of}
use Rattle.report_audit.proofs.block.judged.nodes_of.Given as goal

abbrev pub invariant-loop-line : goal.invariant-loop-line
invariant-loop-line l = l.items.items ≡ map (node_of l.ids) (take l.line-index l.lines)
