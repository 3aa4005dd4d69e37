use Rattle.std.proofs.Common.{◌≢◌, rules}
use Rattle.report_audit.specs.declared.report.fault.AuditFault.TheVariants as audit
use Rattle.ridepool.proofs.ResumeExitLemmas.{head-untold, past-told, past-untold}
use Rattle.ridepool.specs.work.Resume.{kept_of}
use Rattle.ridepool.proofs.resume_call.day_in.Goals as goal

pub read_head-requires-clause-some : goal.read_head-requires-clause-some
read_head-requires-clause-some g c = c.args.inputs.now.said.in_range.0

pub read_head-requires-clause-few : goal.read_head-requires-clause-few
read_head-requires-clause-few g c = c.args.inputs.now.said.in_range.1

pub returns-in-Err : goal.returns-in-Err
returns-in-Err g c =
    head-untold c.args.inputs.now.said c.args.inputs.now.network _ c.args.inputs.now.fleet c.args.inputs.now.report.items _ c.vehicles.ensures.vehicles
    c.deref.ensures.value c.in-Err.fault c.fault_of_head.result c.fault_of_head.ensures c.in-Err.ensures.fault c.in-Err.ensures.none

pub read_past-requires-clause-nodes : goal.read_past-requires-clause-nodes
read_past-requires-clause-nodes g c κs within = c.requires.named

pub returns-in-Ok-read_past : goal.returns-in-Ok-read_past
returns-in-Ok-read_past g c =
    past-told c.args.inputs.now.said c.args.inputs.now.network _ c.args.inputs.now.fleet c.args.inputs.now.report.items _ c.vehicles.ensures.vehicles
    c.deref.ensures.value c.in-Ok.head.0 c.with_times-settings.result c.in-Ok.head.1.now c.with_times-settings.ensures c.in-Ok.ensures.read
    (kept_of c.in-Ok-read_past.past)
    c.in-Ok-read_past.ensures.past

pub returns-in-Err-read_past : goal.returns-in-Err-read_past
returns-in-Err-read_past g c =
    let other : c.in-Err-read_past.fault ≢ audit.OutOfMemory = search rules in
    past-untold c.args.inputs.now.said c.args.inputs.now.network _ c.args.inputs.now.fleet c.args.inputs.now.report.items _ c.vehicles.ensures.vehicles
    c.deref.ensures.value c.in-Ok.head.0 c.with_times-settings.result c.in-Ok.head.1.now c.with_times-settings.ensures c.in-Ok.ensures.read
    c.in-Err-read_past.fault other
    (c.in-Err-read_past.ensures.refused other) c.in-Ok.ensures.only
