use Rattle.std.proofs.Common.{refl}
use Rattle.ridepool.proofs.InputLemmas.{got_run, got_audit, got_day, got_no_day, got_stop, got_made}
use Rattle.ridepool.proofs.inputs.inputs_from.Goals as goal

pub returns-in-Load-clause-got : goal.returns-in-Load-clause-got
returns-in-Load-clause-got g c report untouched =
    got_made c.args.settings.now _ c.in-Load.shape c.made_inputs.result c.in-Load.is (record
    { network = refl; fleet = refl; script = refl; report = untouched })
    c.made_inputs.ensures.read c.made_inputs.ensures.memory

pub returns-in-Run-clause-got : goal.returns-in-Run-clause-got
returns-in-Run-clause-got g c report untouched =
    got_run c.args.settings.now _ c.read_inputs.result c.in-Run.is (c.read_inputs.ensures.read report untouched)

pub returns-in-Audit-clause-got : goal.returns-in-Audit-clause-got
returns-in-Audit-clause-got g c report untouched =
    got_audit c.args.settings.now _ c.read_inputs-in-Audit.result c.in-Audit.is (c.read_inputs-in-Audit.ensures.read report untouched)

pub returns-in-Ok-is_day-clause-got : goal.returns-in-Ok-is_day-clause-got
returns-in-Ok-is_day-clause-got g c report untouched = got_day c.args.settings.now _ c.in-Ok.inputs c.in-Drive.is (c.in-Ok.ensures.read report untouched)
    c.in-Ok-is_day.ensures

pub returns-in-Err-is_day-clause-got : goal.returns-in-Err-is_day-clause-got
returns-in-Err-is_day-clause-got g c report untouched =
    got_no_day c.args.settings.now _ c.in-Ok.inputs c.in-Err-is_day.fault c.in-Drive.is (c.in-Ok.ensures.read report untouched) c.in-Err-is_day.ensures

pub returns-in-Err-clause-got : goal.returns-in-Err-clause-got
returns-in-Err-clause-got g c report untouched = got_stop c.args.settings.now _ c.in-Err.status c.in-Drive.is (c.in-Err.ensures.read report untouched)
