-- The parts of a closed batch's lines.
use Rattle.std.specs.Prelude.{ℕ, List, ◌++◌, None, Some, codes, option_map}
use Rattle.std.specs.List.{flat_map}
use Rattle.dispatch_report.specs.Block.{stop_text}
use Rattle.dispatch_report.specs.Words.{spaced}
use Rattle.request_book.specs.declared.values.outcome.LateVehicle.{LateVehicle}

-- a late vehicle's order with its delay, or `none`
abbrev pub late_order : LateVehicle → List ℕ
late_order late = elim (option_map (λ s. s.items) late.stops) [ None ↦ codes " none" | Some stops ↦ spaced late.delay ++ flat_map stop_text stops ]
