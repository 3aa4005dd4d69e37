-- Marks on riders.
use Rattle.std.proofs.Common.{◌≡◌, ◌||◌, ℕ, ◌<◌, Bool, true, false, List, [], ◌∷◌, length, get_or, refl, eq-eqb, eqb-true, rules}
use Rattle.plan_rules.proofs.Common.{list_any, or_cases, or_left, or_right, both_ways}
use Rattle.plan_rules.proofs.lemmas.GraphLemmas.{has}

-- beside those that were marked, these are
pub record IsMarking (old new : List Bool) (xs : List ℕ) : Type 0 where
  pub sized : length new ≡ length old
  pub marked : (r : ℕ) → r < length old → get_or new r false ≡ (get_or old r false || has xs r)

-- a marked number of the list, and the test for one
pub any_marked : (marks : List Bool) (xs : List ℕ) (r : ℕ) → has xs r ≡ true → get_or marks r false ≡ true → list_any (λ q. get_or marks q false) xs ≡ true
any_marked marks [] r e marked = e
any_marked marks (x ∷ xs) r e marked = search (rules, or_left, eqb-true, has, or_right, or_cases, (any_marked marks xs r))

pub marked_one : (marks : List Bool) (xs : List ℕ) → list_any (λ q. get_or marks q false) xs ≡ true →
    (r : ℕ) × (has xs r ≡ true) × (get_or marks r false ≡ true)
marked_one marks [] e = absurd (both_ways false refl e)
marked_one marks (x ∷ xs) e = search (rules, or_left, has, eq-eqb, or_right, or_cases, (marked_one marks xs))
