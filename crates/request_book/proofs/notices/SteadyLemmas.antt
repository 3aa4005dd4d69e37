-- How many calls of a notifier in memory are sure to succeed.
use Rattle.std.proofs.Common.{◌≡◌, ℕ, ◌+◌, ◌-◌, ◌<◌, ◌≤◌, true, false, eqb, List, [], ◌∷◌, arith}
use Rattle.std.specs.List.{list_any}
use Rattle.std.proofs.lemmas.Bool.Decides.{nat_tests}
use Rattle.request_book.specs.notices.Steady.{calls_before}

pub at_most : (most : ℕ) (fs : List ℕ) (call : ℕ) → calls_before most fs call ≤ most
at_most most [] call = omega arith
at_most most (f ∷ fs) call = grind (arith, nat_tests, at_most most fs call)

-- this call is to fail
pub stopped : (most : ℕ) (fs : List ℕ) (call : ℕ) → list_any (λ f. eqb f call) fs ≡ true → calls_before most fs call ≡ 0
stopped most [] call e = absurd cc
stopped most (f ∷ fs) call e = grind (arith, nat_tests, stopped most fs call)

-- this call is not to fail
pub going : (most : ℕ) (fs : List ℕ) (call next : ℕ) → call ≤ next → next ≤ call + 1 → 0 < most → list_any (λ f. eqb f call) fs ≡ false
    → calls_before most fs call ≤ calls_before (most - 1) fs next + 1
going most [] call next from to some e = omega arith
going most (f ∷ fs) call next from to some e = grind (arith, nat_tests, going most fs call next from to some)
