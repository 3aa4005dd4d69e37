use Rattle.std.specs.Prelude.{ℕ, true, List, [], ◌∷◌, ◌++◌}
use Rattle.dispatch_report.specs.Lines.{lines_text}
use Rattle.dispatch_report.specs.Round.{entries_lines}
use Rattle.request_book.specs.declared.values.journal.Entry.{Entry}
use Rattle.request_book.specs.declared.values.journal.Journal.{Journal}

-- a journal with more entries
abbrev pub with_more : Journal → List Entry → Journal
with_more j more = record { first = j.first; base = j.base; entries = j.entries ++ more }

-- a journal with one more entry
abbrev pub with_entry : Journal → Entry → Journal
with_entry j e = with_more j (e ∷ [])

-- the text of entries from a position on
abbrev pub entries_text : ℕ → List Entry → List ℕ
entries_text position entries = lines_text (entries_lines true position entries)
