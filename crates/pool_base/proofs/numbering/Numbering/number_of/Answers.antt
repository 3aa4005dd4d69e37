use Rattle.std.proofs.Common.{rules}
use Rattle.pool_base.proofs.NumberingLemmas.{found}
use Rattle.pool_base.proofs.numbering.Numbering.number_of.Goals as goal

pub returns-clause-found : goal.returns-clause-found
returns-clause-found c = search (rules, found)
