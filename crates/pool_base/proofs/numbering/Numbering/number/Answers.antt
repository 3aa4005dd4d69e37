use Rattle.std.proofs.Common.{rules}
use Rattle.pool_base.proofs.NumberingLemmas.{keys-insert, position-with_name}
use Rattle.pool_base.proofs.numbering.Numbering.number.Goals as goal

pub returns-clause-names : goal.returns-clause-names
returns-clause-names c = search (rules, keys-insert)

pub returns-clause-number : goal.returns-clause-number
returns-clause-number c = search (rules, keys-insert, position-with_name)
