use Rattle.std.proofs.Common.{◌≡◌, ℕ, ◌<◌, ◌≤◌, List, length, slice_index_or, refl, subst, ◌∙◌, arith, inl, inr, Contains}
use Rattle.stop_orders.proofs.Common.{get_or_default, cases_lt, ArePairs, IsBefore}
use Rattle.stop_orders.proofs.PairLemmas.{pairs_before}
use Rattle.stop_orders.proofs.pair_list.has_at.Goals as goal

not_before_itself : (p : ℕ × ℕ) → IsBefore p p → ⊥
not_before_itself p h = omega (arith, h.1 refl)

-- where the pair is, is the first place that doesn't come before it
stands_there : (pairs : List (ℕ × ℕ)) (q : ℕ × ℕ) (place : ℕ) → ArePairs pairs → ((k : ℕ) → k < place → IsBefore (slice_index_or pairs k (0, 0)) q)
    → ((k : ℕ) → place ≤ k → k < length pairs → IsBefore (slice_index_or pairs k (0, 0)) q → ⊥)
    → Contains pairs q → (place < length pairs) × (slice_index_or pairs place (0, 0) ≡ q)
stands_there pairs q place are before after found =
    let at : slice_index_or pairs found.0 (0, 0) ≡ q = get_or_default pairs found.0 (0, 0) q found.1 ∙ found.2 in
    elim (cases_lt found.0 place) [
      | inl early ↦ absurd (not_before_itself q (subst (λ p. IsBefore p q) at (before found.0 early)))
      | inr late ↦ elim (cases_lt place found.0) [
        | inl later ↦
            let first : IsBefore (slice_index_or pairs place (0, 0)) q = subst (λ p. IsBefore (slice_index_or pairs place (0, 0)) p) at
            (pairs_before pairs are place found.0 later found.1) in
            absurd (after place (omega arith) (omega (arith, found.1)) first)
        | inr same ↦
            let e : found.0 ≡ place = omega arith in
            (subst (λ n. n < length pairs) e found.1, subst (λ n. slice_index_or pairs n (0, 0) ≡ q) e at)
      ]
    ]

pub returns-then-place-pairs : goal.returns-then-place-pairs
returns-then-place-pairs c = (
  λ f. absurd cc,
  λ found.
      let there = stands_there c.args.pairs.now (c.args.a, c.args.b) c.args.place c.requires.pairs c.requires.first.before c.requires.first.after found in
      absurd (omega (arith, there.0, c.if-place-pairs.true)),
)

pub returns : goal.returns
returns c =
    let place = c.args.place in (
      λ is. (place, c.if-place-pairs.false, get_or_default c.args.pairs.now place (c.args.a, c.args.b) (0, 0) c.if-place-pairs.false ∙ c.is_pair.ensures.0 is),
      λ found. c.is_pair.ensures.1 (stands_there c.args.pairs.now (c.args.a, c.args.b) place c.requires.pairs c.requires.first.before c.requires.first.after
          found).1,
    )
