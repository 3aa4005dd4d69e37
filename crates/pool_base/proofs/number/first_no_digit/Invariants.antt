use Rattle.std.proofs.Common.{ℕ, ◌<◌, slice_index}
use Rattle.pool_base.specs.Number.{IsDigit}
use Rattle.pool_base.proofs.number.first_no_digit.Given as goal

abbrev pub invariant-loop-place : goal.invariant-loop-place
invariant-loop-place l = (k : ℕ) → k < l.place → IsDigit (slice_index l.text k)
