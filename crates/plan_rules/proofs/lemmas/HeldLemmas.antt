-- Marks of the riders whom vehicles hold.
use Rattle.std.proofs.Common.{◌≡◌, ◌||◌, ℕ, ◌+◌, ◌<◌, Bool, true, false, IsTrue, List, get_or, nat_lt, Option, MatchOption, sym, subst, arith, rules}
use Rattle.plan_rules.proofs.Common.{
  list_any,
  cases_eq,
  both_ways,
  Graph,
  row_at,
  riders_at,
  has_rider,
  IsRowOf,
  HasNoRow,
  choice_at,
  times_served,
  IsGraphRow,
  HoldsRightly,
  MarksServed,
  nat_tests,
}
use Rattle.plan_rules.proofs.lemmas.SumLemmas.{flag}
use Rattle.plan_rules.proofs.lemmas.GraphLemmas.{rider_below}
use Rattle.plan_rules.proofs.lemmas.MarkLemmas.{any_marked, marked_one}

pub holds_more : (g : Graph) (n : ℕ) → ((v : ℕ) → v < n → HoldsRightly g v) → HoldsRightly g n → (v : ℕ) → v < n + 1 → HoldsRightly g v
holds_more g n before here v l = search (rules, cases_eq)

pub or_flag : (n : ℕ) (b : Bool) → (nat_lt 0 n || b) ≡ nat_lt 0 (n + flag b)
or_flag n b = grind (arith, nat_tests)

-- no rider of the row is in an earlier vehicle's, where none is marked
pub unmarked_apart : (g : Graph) (chosen : List (Option ℕ)) (n k : ℕ) (marks : List Bool) → MarksServed g chosen n marks →
    IsGraphRow g.vehicles g.riders (row_at g k) → list_any (λ q. get_or marks q false) (riders_at g k) ≡ false → (r : ℕ) → has_rider g k r ≡ true →
    times_served g chosen n r ≡ 0
unmarked_apart g chosen n k marks before row none r e = search (rules, nat_tests, rider_below, both_ways, any_marked)

-- where one is marked, an earlier vehicle's row has a rider of the row
pub marked_held : (g : Graph) (chosen : List (Option ℕ)) (n k : ℕ) (marks : List Bool) → MarksServed g chosen n marks →
    IsGraphRow g.vehicles g.riders (row_at g k) → list_any (λ q. get_or marks q false) (riders_at g k) ≡ true →
    ((r : ℕ) → has_rider g k r ≡ true → times_served g chosen n r ≡ 0) → ⊥
marked_held g chosen n k marks before row some apart = search (rules, marked_one, nat_tests, rider_below)

-- what a vehicle holds, seen from its choice
pub holds_at : (g : Graph) (n : ℕ) (c : Option ℕ) → choice_at g.held n ≡ c → MatchOption c (HasNoRow g n)
    (λ k. IsRowOf g n k × ((r : ℕ) → IsTrue (has_rider g k r) → times_served g g.held n r ≡ 0)) → HoldsRightly g n
holds_at g n c e h = subst (λ (o : Option ℕ). MatchOption o (HasNoRow g n) (λ k. IsRowOf g n k ×
    ((r : ℕ) → IsTrue (has_rider g k r) → times_served g g.held n r ≡ 0))) (sym e) h

pub held_at : (g : Graph) (n : ℕ) (c : Option ℕ) → choice_at g.held n ≡ c → HoldsRightly g n →
    MatchOption c (HasNoRow g n) (λ k. IsRowOf g n k × ((r : ℕ) → IsTrue (has_rider g k r) → times_served g g.held n r ≡ 0))
held_at g n c e h = subst (λ (o : Option ℕ). MatchOption o (HasNoRow g n) (λ k. IsRowOf g n k ×
    ((r : ℕ) → IsTrue (has_rider g k r) → times_served g g.held n r ≡ 0))) e h
