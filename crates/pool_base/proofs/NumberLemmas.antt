use Rattle.std.proofs.Common.{◌≡◌, ℕ, ◌+◌, ◌-◌, ◌*◌, ◌<◌, ◌≤◌, List, [], ◌∷◌, length, get_or, drop, arith}
use Rattle.std.proofs.lemmas.List.{at_drop_more}
use Rattle.pool_base.specs.lemmas.Number.{value_after}

-- further digits make no value smaller
pub value_after-ge : (n : ℕ) (cs : List ℕ) → n ≤ value_after n cs
value_after-ge n [] = omega arith
value_after-ge n (c ∷ cs) = omega (arith, value_after-ge (n * 10 + (c - 48)) cs)

-- a value that is too large after the next digit stays too large
pub value_after-most : (most v n i : ℕ) (ds : List ℕ) → i < length ds → value_after n (drop i ds) ≡ v → most ≤ n * 10 + (get_or ds i 0 - 48) → most ≤ v
value_after-most most v n i ds within is large =
    let next = at_drop_more (value_after n) ds i 0 within in
    omega (arith, next, is, value_after-ge (n * 10 + (get_or ds i 0 - 48)) (drop (i + 1) ds))
