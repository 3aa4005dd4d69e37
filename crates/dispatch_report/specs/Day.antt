-- The last lines of a driven day's report.
use Rattle.std.specs.Prelude.{ℕ, List, [], ◌∷◌, ◌++◌, codes}
use Rattle.dispatch_report.specs.Lines.{lines_text}
use Rattle.dispatch_report.specs.Words.{numbered}
use Rattle.dispatch_report.specs.declared.day.DayCounts.{DayCounts}

-- who was picked up and dropped, the worst wait and the worst delay
abbrev pub day_line : DayCounts → List ℕ
day_line counts =
    (numbered (codes "day picked ") counts.picked ++ numbered (codes " dropped ") counts.dropped)
    ++ (numbered (codes " worst-wait ") counts.worst_wait ++ numbered (codes " worst-delay ") counts.worst_delay)

-- the counts of a day, and then how many entries there were
unfoldable pub day_end_text : DayCounts → ℕ → List ℕ
day_end_text counts entries = lines_text ((day_line counts ∷ []) ++ (numbered (codes "done ") entries ∷ []))
