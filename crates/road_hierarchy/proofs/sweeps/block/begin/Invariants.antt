use Rattle.std.proofs.Common.{length}
use Rattle.road_hierarchy.proofs.sweeps.Beginning.{IsBegun}
use Rattle.road_hierarchy.proofs.sweeps.block.begin.Given as goal

abbrev pub invariant-loop-k : goal.invariant-loop-k
invariant-loop-k l = IsBegun l.sources (length l.fn.rows) l.k l.rows
