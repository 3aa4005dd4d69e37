-- Riders who are in no chosen row.
use Rattle.std.proofs.Common.{◌≡◌, ◌==◌, ℕ, ◌+◌, ◌<◌, ◌≤◌, Bool, true, false, not, List, [], ◌∷◌, ◌++◌, length, get_or, nat_lt, Option, sym, ap, ◌∙◌, arith}
use Rattle.dispatch_engine.proofs.Common.{range_with_len, get_or_read, Graph, times_chosen, MarksServed}
use Rattle.dispatch_engine.proofs.lemmas.limits.Promises.{filter_range_takes, filter_range_skips}
use Rattle.std.specs.List.{filter}
use Rattle.std.proofs.lemmas.List.Sums.{length-filter, count_by-le-length}
use Rattle.std.proofs.lemmas.List.FromFn.{length-range_with_len}

-- who is counted in no row isn't counted above 0
pub none_counted : (n : ℕ) → (n == 0) ≡ not (nat_lt 0 n)
none_counted n = grind arith

-- numbers that are kept of those below n are no more than n
pub kept_few : (p : ℕ → Bool) (n : ℕ) → length (filter p (range_with_len 0 n)) ≤ n
kept_few p n = let e = length-range_with_len 0 n in let few = count_by-le-length p (range_with_len 0 n) in rw (length-filter p (range_with_len 0 n))
    (omega arith)

module _ (g : Graph) (chosen : List (Option ℕ)) (flags : List Bool) (marked : MarksServed g chosen g.vehicles flags) (r : ℕ) (x : Bool) (low : r < g.riders)
    (is : x ≡ get_or flags r x) where
  passes : (times_chosen g chosen r == 0) ≡ not x
  passes =
      let sized : g.riders ≤ length flags = marked.sized in
      none_counted (times_chosen g chosen r) ∙ ap not (sym (marked.marks r low)) ∙ ap not (sym (get_or_read flags r x (omega arith) is false))

  -- an unmarked rider is left out, a marked one isn't
  pub left_takes : x ≡ false → filter (λ q. times_chosen g chosen q == 0) (range_with_len 0 (r + 1)) ≡ filter (λ q. times_chosen g chosen q == 0)
      (range_with_len 0 r) ++ r ∷ []
  left_takes e = filter_range_takes (λ q. times_chosen g chosen q == 0) r (passes ∙ ap not e)

  pub left_skips : x ≡ true → filter (λ q. times_chosen g chosen q == 0) (range_with_len 0 (r + 1)) ≡ filter (λ q. times_chosen g chosen q == 0)
      (range_with_len 0 r)
  left_skips e = filter_range_skips (λ q. times_chosen g chosen q == 0) r (passes ∙ ap not e)
