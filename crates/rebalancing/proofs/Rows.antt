use Rattle.std.proofs.lemmas.Bool.Decides.{nat_tests}
use Rattle.std.proofs.Common.{◌≡◌, ℕ, ◌+◌, ◌*◌, ◌<◌, List, length, get_or, ◌++◌, arith}
use Rattle.rebalancing.proofs.Common.{cases_lt, get_or_append_left, get_or-append_right}
use Rattle.std.proofs.lemmas.Nat.{mul-add-lt}
use Rattle.std.proofs.lemmas.List.{length-append}

-- a table of n rows of m cells, with one more row
pub rows_more : (ws row : List ℕ) (n m : ℕ) (f : ℕ → ℕ → ℕ) → length ws ≡ n * m → length row ≡ m
    → ((i j : ℕ) → i < n → j < m → get_or ws (i * m + j) 0 ≡ f i j) → ((j : ℕ) → j < m → get_or row j 0 ≡ f n j)
    → (length (ws ++ row) ≡ (n + 1) * m) × ((i j : ℕ) → i < n + 1 → j < m → get_or (ws ++ row) (i * m + j) 0 ≡ f i j)
rows_more ws row n m f ews erow before last = grind (arith, nat_tests, length-append, get_or_append_left, mul-add-lt, get_or-append_right, cases_lt)
