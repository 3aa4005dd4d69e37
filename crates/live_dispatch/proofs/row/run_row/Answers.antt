use Rattle.live_dispatch.proofs.WriteLemmas.{some-broken, some-then}
use Rattle.live_dispatch.proofs.row.run_row.Goals as goal

pub returns-in-Ok-clause-wrote : goal.returns-in-Ok-clause-wrote
returns-in-Ok-clause-wrote g c = some-then _ _ _ _ _ c.in-Ok.field-0 c.run_command.result c.in-Ok.ensures c.run_command.ensures.wrote

pub returns-in-Err-clause-wrote : goal.returns-in-Err-clause-wrote
returns-in-Err-clause-wrote g c = some-broken _ _ _ c.in-Err.fault c.in-Err.ensures
