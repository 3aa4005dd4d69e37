use Rattle.std.proofs.Common.{ℕ, ◌<◌, get_or}
use Rattle.report_audit.specs.work.points.Moves.{CanPrecede}
use Rattle.report_audit.proofs.points.moves.may_follow.Given as goal

abbrev pub invariant-loop-pair : goal.invariant-loop-pair
invariant-loop-pair l = (k : ℕ) (d : ℕ × ℕ) → k < l.pair-index → CanPrecede l.next (get_or l.pairs k d)
