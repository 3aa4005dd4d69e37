-- What a call writes to a sink.
use Rattle.std.specs.Prelude.{◌≡◌, ℕ, ◌≤◌, List, Result, Err, MatchResult}
use Rattle.std.specs.Io.KnownBytes.{Appends}
use Rattle.pool_io.specs.Faults.{Rose}
use Rattle.pool_io.specs.Sink.{AppendsPart}
use Rattle.pool_io.specs.Views.{Change, SinkView}
use Rattle.dispatch_report.specs.declared.fault.ReportFault.{ReportFault}
use Rattle.dispatch_report.specs.declared.fault.ReportFault.TheVariants.{WriteFault}

-- a text was written whole, or, with a fault, a beginning of it that isn't the whole; a write's fault comes only where
-- the sink's count of faults rose, and that count never falls
pub record WritesText (sink : Change SinkView) (text : List ℕ) (result : Result (Unit {0}) ReportFault) : Type 0 where
  pub bytes : MatchResult result (λ _. Appends sink.before.written sink.after.written text) (λ _. AppendsPart sink.before.written sink.after.written text)
  pub fault : result ≡ Err WriteFault → Rose sink.before.faults sink.after.faults
  pub never_falls : sink.before.faults ≤ sink.after.faults
