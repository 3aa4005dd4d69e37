use Rattle.std.proofs.Common.{◌≡◌, ℕ, ◌<◌, List, [], Bor, get_or, map}
use Rattle.pool_io.proofs.Common.{fields_of}
use Rattle.pool_io.proofs.records.is_header.Given as goal

abbrev pub invariant-loop-place : goal.invariant-loop-place
invariant-loop-place l =
    (k : ℕ) → k < l.place → get_or (fields_of l.row) k [] ≡ get_or (map (λ (word : Bor (List ℕ)). word.now) l.words) k []
