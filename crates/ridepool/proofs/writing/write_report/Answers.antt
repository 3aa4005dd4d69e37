use Rattle.ridepool.proofs.Common.{inputs_got}
use Rattle.ridepool.proofs.WriteLemmas.{nothing_written}
use Rattle.ridepool.proofs.writing.write_report.Goals as goal

pub returns-in_default-clause-report : goal.returns-in_default-clause-report
returns-in_default-clause-report g c = nothing_written (inputs_got c.args.settings.now c.args.inputs.now) (g.K.Sink.written c.args.out.now) _
    (g.K.Sink.faults c.args.out.now)
