use Rattle.std.proofs.Common.{refl}
use Rattle.ridepool.proofs.Common.{source_seen}
use Rattle.ridepool.proofs.ExitLemmas.{words_answer, input_answer, done_answer, written_answer, yes_answer, no_answer, got_is_day}
use Rattle.ridepool.proofs.run.ridepool.Goals as goal

pub returns-in-Err : goal.returns-in-Err
returns-in-Err g c =
    words_answer _ c.in-Err.fault c.in-Err.ensures.refused (record { network = refl; fleet = refl; script = refl; report = refl })
    (record { out = refl; notifiers = refl })

pub returns-in-Err-inputs_from : goal.returns-in-Err-inputs_from
returns-in-Err-inputs_from g c =
    input_answer _ c.in-Ok.settings c.in-Err-inputs_from.status (record { faultless = c.in-Ok.ensures.accepted.0; given = c.in-Ok.ensures.accepted.1 })
    (c.in-Err-inputs_from.ensures.got _ refl) refl (record { out = refl; notifiers = refl })

pub returns-in-Ok-audited : goal.returns-in-Ok-audited
returns-in-Ok-audited g c =
    yes_answer _ c.in-Ok.settings c.in-Ok-inputs_from.inputs (record { faultless = c.in-Ok.ensures.accepted.0; given = c.in-Ok.ensures.accepted.1 })
    c.in-Audit.is
    (c.in-Ok-inputs_from.ensures.got _ refl) refl c.in-Ok-audited.ensures.audited

pub returns-in-Err-audited : goal.returns-in-Err-audited
returns-in-Err-audited g c =
    no_answer _ c.in-Ok.settings c.in-Ok-inputs_from.inputs (record { faultless = c.in-Ok.ensures.accepted.0; given = c.in-Ok.ensures.accepted.1 })
    c.in-Audit.is
    (c.in-Ok-inputs_from.ensures.got _ refl) refl c.in-Err-audited.status c.in-Err-audited.ensures.audited

pub returns-in-Ok-written : goal.returns-in-Ok-written
returns-in-Ok-written g c =
    done_answer _ c.in-Ok.settings c.in-Ok-inputs_from.inputs (record { faultless = c.in-Ok.ensures.accepted.0; given = c.in-Ok.ensures.accepted.1 })
    (c.in-Ok-inputs_from.ensures.got _ refl) c.in_default.not-Audit refl c.in-Ok-written.ensures.report

pub returns-in-Err-written : goal.returns-in-Err-written
returns-in-Err-written g c =
    written_answer _ c.in-Ok.settings c.in-Ok-inputs_from.inputs (record { faultless = c.in-Ok.ensures.accepted.0; given = c.in-Ok.ensures.accepted.1 })
    (c.in-Ok-inputs_from.ensures.got _ refl) c.in_default.not-Audit refl c.in-Err-written.status c.in-Err-written.ensures.report

pub write_report-written-requires-clause-day : goal.write_report-written-requires-clause-day
write_report-written-requires-clause-day g c κs within =
    got_is_day c.in-Ok.settings _ c.in-Ok-inputs_from.inputs
    (c.in-Ok-inputs_from.ensures.got (source_seen g.A.Source.left g.A.Source.taken g.A.Source.faults c.args.report.now c.args.report.now) refl)
