use Rattle.std.specs.Prelude.{ℕ, List, Option, codes}
use Rattle.std.specs.Option.{option_map_or}
use Rattle.dispatch_report.specs.Words.{spaced}

-- a space and a number, or `none`
abbrev pub spaced_or_none : Option ℕ → List ℕ
spaced_or_none number = option_map_or spaced number (codes " none")
