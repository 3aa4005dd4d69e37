use Rattle.std.specs.Prelude.{ℕ, zero, suc, ◌*◌, max, length}
use Rattle.plan_rules.specs.Sums.{count_below}
use Rattle.plan_rules.specs.Graph.{Graph}
use Rattle.plan_rules.specs.Multipliers.{Usable, is_usable_by}

-- the product of f at the numbers below n
abbrev pub product_below : ℕ → (ℕ → ℕ) → ℕ
product_below zero f = 1
product_below (suc n) f = product_below n f * f n

-- how many choices of usable rows there are: the product over vehicles of how many each may use, if any
unfoldable pub choice_count : Graph → Usable → ℕ
choice_count g usable = product_below g.vehicles (λ v. max 1 (count_below (length g.rows) (is_usable_by g usable v)))
