-- The line on standard error that tells where a day stands that goes on.
use Rattle.std.specs.Prelude.{ℕ, List, ◌++◌, Option, None, Some, codes, decimal}
use Rattle.dispatch_report.specs.Words.{numbered}
use Rattle.ridepool.specs.declared.stand.Stand.{Stand}

-- a number, or the word for none
abbrev pub or_none : Option ℕ → List ℕ
or_none None = codes "none"
or_none (Some number) = decimal number

-- how many entries and bytes are kept, the round of the last row, and the batch that is open
abbrev pub stand_text : Stand → List ℕ
stand_text s =
    ((numbered (codes "resumed entries=") s.entries ++ numbered (codes " bytes=") s.bytes) ++ (codes " round=" ++ or_none s.round)) ++ (codes " open=" ++ or_none s.open)
