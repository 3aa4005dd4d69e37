-- The lines of a report that stand between blocks.
use Rattle.std.specs.Prelude.{◌≡◌, ℕ, ◌<◌, ◌^◌, List, codes}
use Rattle.dispatch_report.specs.Entry.{entry_line}
use Rattle.dispatch_report.specs.Words.{numbered}
use Rattle.dispatch_report.specs.Fits.{IsCommand, IsReply}
use Rattle.report_audit.specs.declared.lines.next.NextLine.{NextLine}
use Rattle.report_audit.specs.declared.lines.next.NextLine.TheVariants.{Round, Done, Entry as EntryOf}
use Rattle.request_book.specs.declared.values.journal.Entry.{Entry}

-- each number of an entry is within its type
pub record IsEntry (position : ℕ) (e : Entry) : Type 0 where
  pub placed : position < 2 ^ 64
  pub lane : e.lane < 2 ^ 8
  pub command : IsCommand e.command
  pub reply : IsReply e.reply

-- the line that begins a round, the one that ends a report, or the line of an entry of this lane
abbrev pub IsNextLine : NextLine → List ℕ → Type 0
IsNextLine (Round number) line = (number < 2 ^ 32) × (line ≡ numbered (codes "round ") number)
IsNextLine (Done entries) line = (entries < 2 ^ 64) × (line ≡ numbered (codes "done ") entries)
IsNextLine (EntryOf lane) line = (position : ℕ) × (e : Entry) × IsEntry position e × (e.lane ≡ lane) × (line ≡ entry_line position e)
