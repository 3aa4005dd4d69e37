-- There is one greedy plan.
use Rattle.std.proofs.Common.{◌≡◌, ℕ, zero, suc, ◌<◌, List, length, Option, Some, None, refl, sym, ap, ◌∙◌, subst, arith, rules}
use Rattle.assignment_search.proofs.Common.{Graph, choice_at, IsGoodGraph, IsTriedBefore, IsTaken, IsGreedy}
use Rattle.std.proofs.lemmas.List.{ext_get_or}
use Rattle.plan_rules.specs.lemmas.Rank.{rank_of, rank_value}

-- what is tried before has a lesser rank
tried_ranks : (g : Graph) (j k : ℕ) → IsGoodGraph g → j < length g.rows → k < length g.rows → IsTriedBefore g j k → rank_of g j < rank_of g k
unfolding rank_value
tried_ranks g j k good lj lk tried = search rules

-- what one greedy plan takes, so does another
taken_same : (n : ℕ) (g : Graph) (a b : List (Option ℕ)) → IsGoodGraph g → IsGreedy g a → IsGreedy g b → (k : ℕ) → rank_of g k < n → k < length g.rows →
    IsTaken g a k → IsTaken g b k
taken_same zero g a b good first second k low l taken = absurd (omega (arith, low))
taken_same (suc n) g a b good first second k low l taken = (second.taken k l).1
    (λ j lj tried has. (first.taken k l).0 taken j lj tried (taken_same n g b a good second first j (omega (arith, tried_ranks g j k good lj l tried, low)) lj
    has))

pub greedy_unique : (g : Graph) (a b : List (Option ℕ)) → IsGoodGraph g → IsGreedy g a → IsGreedy g b → a ≡ b
greedy_unique g a b good first second =
    ext_get_or None a b (first.sized ∙ sym second.sized) (λ v l. alike v (subst (λ (n : ℕ). v < n) first.sized l) (choice_at a v) (choice_at b v) refl refl)
  where
    crossed : (c d : List (Option ℕ)) → IsGreedy g c → IsGreedy g d → (v k : ℕ) → v < g.vehicles → choice_at c v ≡ Some k → choice_at d v ≡ Some k
    crossed c d left right v k l e =
        let row = left.own v k l e in
        let taken : IsTaken g c k = ap (choice_at c) row.own ∙ e in
        sym (ap (choice_at d) row.own) ∙ taken_same (suc (rank_of g k)) g c d good left right k (omega arith) row.within taken

    alike : (v : ℕ) → v < g.vehicles → (x y : Option ℕ) → choice_at a v ≡ x → choice_at b v ≡ y → choice_at a v ≡ choice_at b v
    alike v l None None ea eb = ea ∙ sym eb
    alike v l (Some k) y ea eb = ea ∙ sym (crossed a b first second v k l ea)
    alike v l None (Some k) ea eb = crossed b a second first v k l eb ∙ sym eb
