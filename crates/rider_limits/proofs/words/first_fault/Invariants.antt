use Rattle.std.proofs.Common.{◌≡◌, None, map}
use Rattle.std.specs.String.{string_bytes}
use Rattle.pool_base.specs.InOrder.{first_fault}
use Rattle.rider_limits.specs.work.Named.{fault_at}
use Rattle.rider_limits.proofs.words.first_fault.Given as goal

abbrev pub invariant-loop-index : goal.invariant-loop-index
invariant-loop-index l = first_fault (fault_at l.command (map string_bytes l.options)) l.index ≡ None
