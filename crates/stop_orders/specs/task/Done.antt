use Rattle.std.specs.Prelude.{◌≡◌, ◌==◌, ℕ, ◌+◌, ◌^◌, ◌<◌, Bool, true, false, bit_or}
use Rattle.std.specs.Int.{bit_at}
use Rattle.stop_orders.specs.declared.task.stop.Stop.{Stop}
use Rattle.stop_orders.specs.declared.task.stop.Stop.TheVariants.{Pick, Drop, Alight}

-- a set of done stops is a number: this is the bit of a stop
abbrev pub bit_of : Stop → ℕ
bit_of (Pick i) = i
bit_of (Drop i) = 6 + i
bit_of (Alight j) = 12 + j

-- whether the stop with this bit is in the set
unfoldable pub has : ℕ → ℕ → Bool
has done bit = bit_at done bit == 1

-- the set with one more bit
unfoldable pub with_bit : ℕ → ℕ → ℕ
with_bit done bit = bit_or done (2 ^ bit)

-- the set with one more stop
abbrev pub with_stop : ℕ → Stop → ℕ
with_stop done stop = with_bit done (bit_of stop)

-- the stop is of somebody whom there is, and may come next
abbrev pub IsNextStop : ℕ → ℕ → ℕ → Stop → Type 0
IsNextStop riders passengers done (Pick i) = (i < riders) × (has done i ≡ false) × (has done (6 + i) ≡ false)
IsNextStop riders passengers done (Drop i) = (i < riders) × (has done i ≡ true) × (has done (6 + i) ≡ false)
IsNextStop riders passengers done (Alight j) = (j < passengers) × (has done (12 + j) ≡ false)

-- all have been dropped
pub record IsAllDone (riders passengers done : ℕ) : Type 0 where
  pub riders_out : (i : ℕ) → i < riders → has done (6 + i) ≡ true
  pub passengers_out : (j : ℕ) → j < passengers → has done (12 + j) ≡ true
