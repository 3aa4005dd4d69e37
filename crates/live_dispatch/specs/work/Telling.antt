-- The notices of a close, by what it was answered.
use Rattle.std.specs.Prelude.{◌≡◌, ℕ, Bool, true, false, List, [], Option, None, Some, if◌then◌else◌}
use Rattle.std.specs.Io.KnownBytes.{Appends}
use Rattle.dispatch_report.specs.declared.fault.ReportFault.{ReportFault}
use Rattle.dispatch_report.specs.declared.fault.ReportFault.TheVariants.{WriteFault}
use Rattle.pool_io.specs.Faults.{Rose}
use Rattle.pool_io.specs.Sink.{AppendsPart}
use Rattle.request_book.specs.declared.values.reply.Reply.{Reply}
use Rattle.request_book.specs.declared.values.reply.Reply.TheVariants.{Closed}
use Rattle.request_book.specs.notices.Told.{HaveHeard, NotifierView}
use Rattle.request_book.specs.declared.notices.notice.Notice.{Notice}
use Rattle.live_dispatch.specs.Desk.{OutputsView}

-- the reply says that a batch is closed
abbrev pub is_closed : Reply → Bool
is_closed Closed = true
is_closed _ = false

-- the notices were told where the reply says that the batch is closed, and else none
abbrev pub TellsClose : List Notice → Reply → List NotifierView → List NotifierView → Type 0
TellsClose notices reply before after = HaveHeard (if is_closed reply then notices else []) before after

-- a text was written whole, and then these notices were told by the reply; or a fault broke it off, and nobody was told
-- anything
abbrev pub WroteLast : Option ReportFault → List ℕ → List Notice → Reply → OutputsView → OutputsView → Type 0
WroteLast None text notices reply before after =
    Appends before.sink.written after.sink.written text × TellsClose notices reply before.notifiers after.notifiers
WroteLast (Some fault) text notices reply before after =
    AppendsPart before.sink.written after.sink.written text × (fault ≡ WriteFault → Rose before.sink.faults after.sink.faults) × (after.notifiers ≡ before.notifiers)
