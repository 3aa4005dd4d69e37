-- Outs in the order of pieces.
use Rattle.std.specs.Prelude.{ℕ, ◌<◌, List, length, slice_index_or}

-- the k-th out is right for piece k
abbrev pub AreRight : {O : Type 0} → (ℕ → O → Type 0) → List O → Type 0
AreRight {O} right outs = (k : ℕ) (d : O) → k < length outs → right k (slice_index_or outs k d)
