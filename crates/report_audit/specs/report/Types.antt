-- Which entries a report can tell.
use Rattle.std.specs.Prelude.{ℕ, List, [], ◌∷◌}
use Rattle.std.specs.List.{AllByRecursion}
use Rattle.report_audit.specs.block.Fits.{FitsTypes}
use Rattle.report_audit.specs.lines.Next.{IsEntry}
use Rattle.pool_io.specs.Faults.{one_more}
use Rattle.request_book.specs.declared.values.command.Command.{Command}
use Rattle.request_book.specs.declared.values.command.Command.TheVariants.{Close}
use Rattle.request_book.specs.declared.values.journal.Entry.{Entry}
use Rattle.request_book.specs.declared.values.journal.Journal.{Journal}
use Rattle.request_book.specs.declared.values.reply.Reply.{Reply}
use Rattle.request_book.specs.declared.values.reply.Reply.TheVariants.{Closed}

-- of a close that was answered `closed`, each number of the outcome's lines is within its type
abbrev pub HasFittingBlock : Command → Reply → Type 0
HasFittingBlock (Close batch outcome) Closed = FitsTypes batch outcome
HasFittingBlock _ _ = Unit {0}

-- each number of an entry's line, and of its block, is within its type
pub record IsTold (position : ℕ) (e : Entry) : Type 0 where
  pub line : IsEntry position e
  pub block : HasFittingBlock e.command e.reply

-- the same of entries, from a position on
abbrev pub AreTold : ℕ → List Entry → Type 0
AreTold position [] = Unit {0}
AreTold position (e ∷ es) = IsTold position e × AreTold (one_more position) es

-- the same of journals
abbrev pub JournalsAreTold : List Journal → Type 0
JournalsAreTold journals = AllByRecursion (λ j. AreTold j.first j.entries) journals
