-- The texts of the report.
use Rattle.std.specs.Prelude.{ℕ, Bool, List, [], ◌∷◌, ◌++◌, codes}
use Rattle.dispatch_report.specs.Block.{block_lines}
use Rattle.dispatch_report.specs.Entry.{entry_line}
use Rattle.dispatch_report.specs.Lines.{lines_text}
use Rattle.dispatch_report.specs.Words.{numbered}
use Rattle.pool_io.specs.Faults.{one_more}
use Rattle.request_book.specs.declared.values.command.Command.{Command}
use Rattle.request_book.specs.declared.values.command.Command.TheVariants.{Close}
use Rattle.request_book.specs.declared.values.journal.Entry.{Entry}
use Rattle.request_book.specs.declared.values.journal.Journal.{Journal}
use Rattle.request_book.specs.declared.values.reply.Reply.{Reply}
use Rattle.request_book.specs.declared.values.reply.Reply.TheVariants.{Closed}

-- the block that follows the line of a close that was answered `closed`
abbrev pub entry_block : Bool → Command → Reply → List (List ℕ)
entry_block proof (Close batch outcome) Closed = block_lines proof batch outcome
entry_block proof _ _ = []

-- the lines of entries from a position on
unfoldable pub entries_lines : Bool → ℕ → List Entry → List (List ℕ)
entries_lines proof position [] = []
entries_lines proof position (e ∷ es) = ((entry_line position e ∷ []) ++ entry_block proof e.command e.reply) ++ entries_lines proof (one_more position) es

-- the line that begins a round
abbrev pub round_line : ℕ → List ℕ
round_line number = lines_text (numbered (codes "round ") number ∷ [])

-- the text of an entry: its line, and behind a close that was answered `closed` the block of its batch
abbrev pub entry_text : Bool → ℕ → Entry → List ℕ
entry_text proof position e = lines_text ((entry_line position e ∷ []) ++ entry_block proof e.command e.reply)

-- the text of a round
unfoldable pub round_text : ℕ → Bool → Journal → List ℕ
round_text number proof journal = lines_text ((numbered (codes "round ") number ∷ []) ++ entries_lines proof journal.first journal.entries)

-- the last line of a report: how many entries there were
unfoldable pub end_text : ℕ → List ℕ
end_text entries = lines_text (numbered (codes "done ") entries ∷ [])
