use Rattle.std.proofs.Common.{◌≡◌, ℕ, ◌<◌, ◌≤◌, List, length, get_or, slice_get, Some, Ok, Err, Result, MatchResult, Contains, arith, ◌∙◌, inl, inr, ap}
use Rattle.std.specs.List.Sorted.{IsStrictlyIncreasing, IsBinarySearchResult}
use Rattle.std.specs.Ordering.{nat_cmp}
use Rattle.std.proofs.lemmas.List.{get_or_default}
use Rattle.std.proofs.lemmas.Bool.{cases_lt}
use Rattle.std.proofs.lemmas.List.Kept.{AllPairs-from_increasing}
use Rattle.std.proofs.lemmas.List.Sorted.{searched}
use Rattle.std.proofs.lemmas.Option.{slice_get-get_or}

-- numbers that rise don't fall
pub rising_between : (xs : List ℕ) → IsStrictlyIncreasing xs → (i j : ℕ) → i ≤ j → j < length xs → get_or xs i 0 ≤ get_or xs j 0
rising_between xs up i j le within = grind (arith, AllPairs-from_increasing xs up i j 0)

-- what a search of rising numbers finds, and what it means that it finds nothing
pub found_place : (xs : List ℕ) (x : ℕ) (r : Result ℕ ℕ) → IsBinarySearchResult (λ y. nat_cmp y x) xs r → IsStrictlyIncreasing xs →
    MatchResult r (λ i. slice_get xs i ≡ Some x) (λ _. Contains xs x → ⊥)
found_place xs x (Ok i) h up =
    let is = searched xs x (Ok i) h (rising_between xs up) in
    slice_get-get_or xs i 0 is.0 ∙ ap Some is.1
found_place xs x (Err i) h up =
    let is = searched xs x (Err i) h (rising_between xs up) in
    λ has.
    let at : get_or xs has.0 0 ≡ x = get_or_default xs has.0 0 x has.1 ∙ has.2 in
    elim (cases_lt has.0 i) as (λ _. ⊥) [
      | inl lt ↦ (let below : get_or xs has.0 0 < x = is.1 has.0 lt in absurd (omega (arith, below, at)))
      | inr ge ↦ (let above : x < get_or xs has.0 0 = is.2 has.0 ge has.1 in absurd (omega (arith, above, at)))
    ]
