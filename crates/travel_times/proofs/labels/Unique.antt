-- The definition names one label: lists by rank that have the same hubs are the same.
use Rattle.std.proofs.Common.{rules, ◌≡◌, ℕ, zero, suc, ◌<◌, ◌⊎◌, List, [], ◌∷◌, length, get_or, Contains, refl, sym, ap, ◌∙◌, subst, inl, inr, arith}
use Rattle.travel_times.proofs.Common.{Arc, Hub, IsOfLowerRank, IsFirstWrong, IsLabel, IsFirstDifference}

-- of two nodes at most one is of lower rank
lower_apart : (arcs : List Arc) (a b : ℕ) → IsOfLowerRank arcs a b → IsOfLowerRank arcs b a → ⊥
lower_apart arcs a b one other = grind arith

-- hubs by rank
abbrev IsByRank : List Arc → List Hub → Type 0
IsByRank arcs label = (i j : ℕ) (d : Hub) → i < j → j < length label → IsOfLowerRank arcs (get_or label i d).node (get_or label j d).node

tail_by_rank : (arcs : List Arc) (x : Hub) (xs : List Hub) → IsByRank arcs (x ∷ xs) → IsByRank arcs xs
tail_by_rank arcs x xs by i j d lt h = by (suc i) (suc j) d (omega arith) (omega arith)

-- the first hub is of lower rank than each later one
head_lower : (arcs : List Arc) (x : Hub) (xs : List Hub) → IsByRank arcs (x ∷ xs) → (y : Hub) → Contains xs y → IsOfLowerRank arcs x.node y.node
head_lower arcs x xs by y (k, inside, is) = subst (λ (z : Hub). IsOfLowerRank arcs x.node z.node) is (by 0 (suc k) y (omega arith) (omega arith))

head_or_tail : (x : Hub) (xs : List Hub) (y : Hub) → Contains (x ∷ xs) y → (x ≡ y) ⊎ Contains xs y
head_or_tail x xs y (zero, inside, is) = inl is
head_or_tail x xs y (suc k, inside, is) = inr (k, omega arith, is)

has_head : (x : Hub) (xs : List Hub) → Contains (x ∷ xs) x
has_head x xs = (0, omega arith, refl)

later : (x : Hub) (xs : List Hub) (y : Hub) → Contains xs y → Contains (x ∷ xs) y
later x xs y (k, inside, is) = (suc k, omega arith, is)

not_in_nothing : (y : Hub) → Contains [] y → ⊥
not_in_nothing y (k, inside, is) = omega arith

-- what later hubs of one list are, those of the other are
tail_has : (arcs : List Arc) (x : Hub) (xs ys : List Hub) → IsByRank arcs (x ∷ xs) → ((z : Hub) → Contains (x ∷ xs) z → Contains (x ∷ ys) z) → (z : Hub) →
    Contains xs z → Contains ys z
tail_has arcs x xs ys by has z in' = elim (head_or_tail x ys z (has z (later x xs z in'))) [
  | inl e ↦ let l = head_lower arcs x xs by z in' in absurd (lower_apart arcs x.node x.node (rw (← e) at l) (rw (← e) at l))
  | inr found ↦ found
]

same_by_rank : (arcs : List Arc) (xs ys : List Hub) → IsByRank arcs xs → IsByRank arcs ys → ((z : Hub) → Contains xs z → Contains ys z) →
    ((z : Hub) → Contains ys z → Contains xs z) → xs ≡ ys
same_by_rank arcs [] [] by by' there back = refl
same_by_rank arcs [] (y ∷ ys) by by' there back = absurd (not_in_nothing y (back y (has_head y ys)))
same_by_rank arcs (x ∷ xs) [] by by' there back = absurd (not_in_nothing x (there x (has_head x xs)))
same_by_rank arcs (x ∷ xs) (y ∷ ys) by by' there back =
    let first : y ≡ x = elim (head_or_tail y ys x (there x (has_head x xs))) [
      | inl e ↦ e
      | inr in' ↦ elim (head_or_tail x xs y (back y (has_head y ys))) [
        | inl e ↦ sym e
        | inr in'' ↦ absurd
            (lower_apart arcs y.node x.node (head_lower arcs y ys by' x in') (head_lower arcs x xs by y in''))
      ]
    ] in
    let by'' : IsByRank arcs (x ∷ ys) = rw first at by' in
    let there' : (z : Hub) → Contains (x ∷ xs) z → Contains (x ∷ ys) z = rw first at there in
    let back' : (z : Hub) → Contains (x ∷ ys) z → Contains (x ∷ xs) z = rw first at back in
    ap (λ (t : List Hub). x ∷ t) (same_by_rank arcs xs ys (tail_by_rank arcs x xs by) (tail_by_rank arcs x ys by'') (tail_has arcs x xs ys by there')
    (tail_has arcs x ys xs by'' back'))
    ∙ ap (λ (h : Hub). h ∷ ys) (sym first)

pub one_label : (arcs : List Arc) (IsHub : ℕ → ℕ → Type 0) (one other : List Hub) → IsLabel arcs IsHub one → IsLabel arcs IsHub other → one ≡ other
one_label arcs IsHub one other a b = same_by_rank arcs one other a.by_rank b.by_rank (λ z has. (b.hubs z).1 ((a.hubs z).0 has))
    (λ z has. (a.hubs z).1 ((b.hubs z).0 has))

-- where lists first differ from the labels, they are first wrong
pub first_wrong : (arcs : List Arc) (n : ℕ) (IsHub : ℕ → ℕ → ℕ → Type 0) (labels others : List (List Hub)) (node : ℕ) → length labels ≡ n →
    ((a : ℕ) → a < n → IsLabel arcs (IsHub a) (get_or labels a [])) → IsFirstDifference labels others node
    → IsFirstWrong n (λ a. IsLabel arcs (IsHub a) (get_or others a [])) node
first_wrong arcs n IsHub labels others node each right differs = search (rules, one_label)
