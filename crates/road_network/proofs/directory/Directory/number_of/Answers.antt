use Rattle.std.proofs.Common.{rules}
use Rattle.road_network.proofs.DirectoryLemmas.{found}
use Rattle.road_network.proofs.directory.Directory.number_of.Goals as goal

pub returns-clause-found : goal.returns-clause-found
returns-clause-found c = search (rules, found)
