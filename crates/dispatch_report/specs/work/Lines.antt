-- Lines go out in pieces: those that aren't written yet wait in a piece.
use Rattle.std.specs.Prelude.{◌≡◌, ℕ, ◌≤◌, List, ◌++◌, Option, Result, Err, MatchResult}
use Rattle.std.specs.Io.KnownBytes.{Appends}
use Rattle.pool_io.specs.Faults.{Rose}
use Rattle.pool_io.specs.Sink.{AppendsPart}
use Rattle.dispatch_report.specs.Lines.{lines_text}
use Rattle.pool_io.specs.Views.{Change, SinkView}
use Rattle.dispatch_report.specs.declared.fault.ReportFault.{ReportFault}
use Rattle.dispatch_report.specs.declared.fault.ReportFault.TheVariants.{WriteFault}

-- of some bytes the first were written, and the rest waits
abbrev pub AppendsFirst : Option (List ℕ) → Option (List ℕ) → List ℕ → List ℕ → Type 0
AppendsFirst old new bytes rest = (out : List ℕ) × Appends old new out × (out ++ rest ≡ bytes)

-- bytes were put behind those of a piece, of all these the first were written, and the rest is the piece; or, with a
-- fault, a beginning of all of them that isn't the whole was written
pub record WritesBytes (sink : Change SinkView) (piece rest added : List ℕ) (result : Result (Unit {0}) ReportFault) : Type 0 where
  pub bytes : MatchResult result (λ _. AppendsFirst sink.before.written sink.after.written (piece ++ added) rest) (λ _. AppendsPart sink.before.written sink.after.written (piece ++ added))
  pub fault : result ≡ Err WriteFault → Rose sink.before.faults sink.after.faults
  pub never_falls : sink.before.faults ≤ sink.after.faults

-- nothing was written, and what waits is as it was
pub record IsSame (sink : Change SinkView) (piece rest : List ℕ) : Type 0 where
  pub seen : sink.after ≡ sink.before
  pub waiting : rest ≡ piece

-- the same of lines, where nothing failed before; behind a fault nothing happens any more
pub record WritesLines (sink : Change SinkView) (piece rest : List ℕ) (before after : Result (Unit {0}) ReportFault) (lines : List (List ℕ)) : Type 0 where
  pub text : MatchResult before (λ _. WritesBytes sink piece rest (lines_text lines) after) (λ fault. IsSame sink piece rest × (after ≡ Err fault))
