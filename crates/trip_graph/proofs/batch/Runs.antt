-- The vehicles of a run, and what stands between them.
use Rattle.std.proofs.Common.{◌≡◌, ℕ, suc, ◌+◌, ◌<◌, ◌≤◌, List, [], ◌∷◌, ◌++◌, length, get_or, drop, drop-cons, add-one, zero, subst, arith, rules}
use Rattle.trip_graph.proofs.Common.{drop_all, TripOf, AreEmpty, AreNext}

module _ (lists : List (List TripOf)) where
  empty_none : (from : ℕ) → AreEmpty lists from from
  empty_none from v lo hi = absurd (omega arith)

  empty_more : (from end : ℕ) → AreEmpty lists from end → get_or lists end [] ≡ [] → AreEmpty lists from (end + 1)
  empty_more from end none here v lo hi = search rules

  pub next_none : (from : ℕ) → AreNext lists from [] from
  unfolding AreNext
  next_none from = (omega arith, empty_none from)

  pub next_skip : (from : ℕ) (vs : List ℕ) (end : ℕ) → AreNext lists from vs end → get_or lists end [] ≡ [] → AreNext lists from vs (end + 1)
  unfolding AreNext
  next_skip from [] end next here = ((let le = next.0 in omega arith), empty_more from end next.1 here)
  next_skip from (v ∷ vs) end next here = (next.0, next.1, next_skip (v + 1) vs end next.2 here)

  pub next_take : (from : ℕ) (vs : List ℕ) (end : ℕ) → AreNext lists from vs end → AreNext lists from (vs ++ end ∷ []) (end + 1)
  unfolding AreNext
  next_take from [] end next = (next.0, next.1, (omega arith, empty_none (end + 1)))
  next_take from (v ∷ vs) end next = (next.0, next.1, next_take (v + 1) vs end next.2)

  pub next_end : (from : ℕ) (vs : List ℕ) (end : ℕ) → AreNext lists from vs end → from ≤ end
  unfolding AreNext
  next_end from [] end next = next.0
  next_end from (v ∷ vs) end next = let here = next.0 in let rest = next_end (v + 1) vs end next.2 in omega arith

  pub next_within : (from : ℕ) (vs : List ℕ) (end : ℕ) → AreNext lists from vs end → (k : ℕ) → k < length vs → get_or vs k 0 < end
  unfolding AreNext
  next_within from [] end next k lt = absurd (omega arith)
  next_within from (v ∷ vs) end next zero lt = let rest = next_end (v + 1) vs end next.2 in omega arith
  next_within from (v ∷ vs) end next (suc k) lt = next_within (v + 1) vs end next.2 k (omega arith)

  -- the next vehicle of a run
  pub record IsFirst (from v end : ℕ) (rest : List ℕ) : Type 0 where
    pub on : from ≤ v
    pub empty : AreEmpty lists from v
    pub next : AreNext lists (v + 1) rest end

  pub next_first : (from n : ℕ) (vs : List ℕ) (end : ℕ) → AreNext lists from (drop n vs) end → n < length vs →
      IsFirst from (get_or vs n 0) end (drop (n + 1) vs)
  unfolding AreNext
  next_first from n vs end next lt = search (rules, add-one, drop-cons)

  pub next_last : (from n : ℕ) (vs : List ℕ) (end : ℕ) → AreNext lists from (drop n vs) end → length vs ≤ n → AreEmpty lists from end
  unfolding AreNext
  next_last from n vs end next le = (subst (λ (l : List ℕ). AreNext lists from l end) (drop_all n vs le) next).1
