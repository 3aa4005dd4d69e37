use Rattle.std.proofs.Common.{rules, ◌≡◌, ℕ, zero, suc, ◌+◌, ◌*◌, ◌<◌, ◌≤◌, ◌^◌, List, length, get_or, arith, inl, inr}
use Rattle.std.proofs.lemmas.Bool.{cases_lt}
use Rattle.pool_base.specs.TravelTime.{never, longest, cell_of, IsTable}
use Rattle.pool_base.specs.TimesFault.{IsDetourShorter, NoneTooLong, NoneOffZero}
use Rattle.pool_base.proofs.lemmas.TravelTimeLemmas.{cell_of-from_outside, cell_of-to_outside, cell_of-place, cell_place_within}

zero_from : (x : ℕ) → ((x ≡ 0 → ⊥) → ⊥) → x ≡ 0
zero_from zero h = omega arith
zero_from (suc k) h = absurd (h (λ e. omega (arith, e)))

module _ (n : ℕ) (cells : List ℕ) (square : length cells ≡ n * n) (fits : (k : ℕ) → k < length cells → get_or cells k 0 < 2 ^ 32) where
  cell_of-most : (a b : ℕ) → cell_of n cells a b ≤ never
  cell_of-most a b =
      elim (cases_lt a n) [
        | inl ha ↦
            elim (cases_lt b n) [
              | inl hb ↦
                  let place : a * n + b < length cells = rw square (cell_place_within n a b ha hb) in
                  omega (arith, fits (a * n + b) place, cell_of-place n cells a b square ha hb)
              | inr hb ↦ omega (arith, cell_of-to_outside n cells a b hb)
            ]
        | inr ha ↦ omega (arith, cell_of-from_outside n cells a b ha)
      ]

  cell_of-range : NoneTooLong n cells → (a b : ℕ) → cell_of n cells a b < never → cell_of n cells a b ≤ longest
  cell_of-range none a b below = search (rules, cell_of-to_outside, cell_of-from_outside)

  cell_of-triangle : ((a b c : ℕ) → a < n → b < n → c < n → IsDetourShorter n cells a b c → ⊥) → (a b c : ℕ) →
      cell_of n cells a c ≤ cell_of n cells a b + cell_of n cells b c
  cell_of-triangle none a b c = search (rules, cell_of-to_outside, cell_of-most, cell_of-from_outside)

  -- cells in which nothing is wrong are a table
  pub IsTable-from_none : NoneTooLong n cells → NoneOffZero n cells → ((a b c : ℕ) → a < n → b < n → c < n → IsDetourShorter n cells a b c → ⊥) →
      IsTable n cells
  IsTable-from_none short zeros detours = search (rules, zero_from, cell_of-triangle, cell_of-range, cell_of-most, cell_of-from_outside, cell_of-to_outside)
