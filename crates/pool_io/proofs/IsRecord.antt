-- When two records are told to be equal.
use Rattle.std.proofs.Common.{rules, ◌≡◌, ℕ, List, true, false, refl}
use Rattle.pool_io.proofs.Common.{bytes_eq-Decides, slice_eq-Decides, is_record}

pub is_record-same : (fields others : List (List ℕ)) → fields ≡ others → is_record fields others ≡ true
is_record-same fields others same = (slice_eq-Decides bytes_eq-Decides fields others (is_record fields others) refl).1 same

pub is_record-other : (fields others : List (List ℕ)) → (fields ≡ others → ⊥) → is_record fields others ≡ false
is_record-other fields others differ = search (rules, slice_eq-Decides, bytes_eq-Decides)
