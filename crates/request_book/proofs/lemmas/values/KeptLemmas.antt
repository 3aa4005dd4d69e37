-- What a snapshot keeps, as proofs above cite it.
use Rattle.std.proofs.Common.{rules, ◌≡◌, ℕ, ◌+◌, ◌-◌, List, ◌++◌, map, length, get_or}
use Rattle.std.proofs.lemmas.List.{get_or-append_right, length-append}
use Rattle.request_book.specs.values.Batch.{Batch}
use Rattle.request_book.specs.values.Kept.{IsKept}
use Rattle.request_book.specs.lemmas.values.Kept.{IsOnce, riders_aboard}

behind : (front ids : List ℕ) (i : ℕ) → get_or (front ++ ids) (length front + i) 0 ≡ get_or ids i 0
behind front ids i = search (rules, get_or-append_right)

-- no rider of the batch is aboard, nor is anybody twice
pub once_apart : (b : Batch) → IsKept b → IsOnce (map (λ r. r.id) b.riders ++ riders_aboard b.vehicles)
once_apart b kept i j before within same = search (rules, length-append, behind)
