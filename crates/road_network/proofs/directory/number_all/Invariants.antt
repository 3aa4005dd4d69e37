use Rattle.std.proofs.Common.{take}
use Rattle.road_network.specs.work.Directory.{FindsEach}
use Rattle.road_network.proofs.directory.number_all.Given as goal

abbrev pub invariant-loop-number : goal.invariant-loop-number
invariant-loop-number l = FindsEach (take l.number l.names) l.numbers
