-- Lists in a strict order that have the same members are the same.
use Rattle.std.proofs.Common.{◌≡◌, ℕ, zero, suc, ◌+◌, ◌<◌, ◌≤◌, ◌⊎◌, List, ◌∷◌, length, get_or, Contains, refl, ap, ◌∙◌, inl, inr, add-one, arith}
use Rattle.std.proofs.lemmas.Bool.{cases_eq, cases_lt}
use Rattle.std.proofs.lemmas.List.{ext_get_or, get_or_default}

-- an order in which nothing stands before itself
pub record IsStrict {X : Type 0} (R : X → X → Type 0) : Type 0 where
  pub irreflexive : (x : X) → R x x → ⊥
  pub transitive : (x y z : X) → R x y → R y z → R x z

module _ {X : Type 0} (R : X → X → Type 0) where
  pub head_or_tail : (x : X) (xs : List X) (y : X) → Contains (x ∷ xs) y → (x ≡ y) ⊎ Contains xs y
  head_or_tail x xs y (zero, within, is) = inl is
  head_or_tail x xs y (suc k, within, is) = inr (k, omega arith, is)

  pub has_head : (x : X) (xs : List X) → Contains (x ∷ xs) x
  has_head x xs = (0, omega arith, refl)

  pub has_later : (x : X) (xs : List X) (y : X) → Contains xs y → Contains (x ∷ xs) y
  has_later x xs y (k, within, is) = (suc k, omega arith, is)

module _ {X : Type 0} (R : X → X → Type 0) (strict : IsStrict R) (e : X) where
  -- each stands before all later ones
  abbrev pub AreInOrder : List X → Type 0
  AreInOrder xs = (i j : ℕ) → i < j → j < length xs → R (get_or xs i e) (get_or xs j e)

  -- .. where each stands before the next
  pub in_order : (xs : List X) → ((k : ℕ) → k + 1 < length xs → R (get_or xs k e) (get_or xs (k + 1) e)) → AreInOrder xs
  in_order xs next i zero less within = absurd (omega arith)
  in_order xs next i (suc j) less within =
      let step : R (get_or xs j e) (get_or xs (suc j) e) = rw add-one at (next j (omega arith)) in
      elim (cases_lt i j) as (λ _. R (get_or xs i e) (get_or xs (suc j) e)) [
        | inl lt ↦ strict.transitive (get_or xs i e) (get_or xs j e) (get_or xs (suc j) e) (in_order xs next i j lt (omega arith)) step
        | inr ge ↦ let same : i ≡ j = omega arith in rw same step
      ]

  -- whatever stands before another does so by its place
  pub earlier : (xs : List X) → AreInOrder xs → (i j : ℕ) → i < length xs → R (get_or xs i e) (get_or xs j e) → i < j
  earlier xs up i j within before = elim (cases_lt i j) as (λ _. i < j) [
    | inl less ↦ less
    | inr ge ↦ absurd (elim (cases_eq i j) as (λ _. ⊥) [
      | inl same ↦ strict.irreflexive (get_or xs j e) (rw same at before)
      | inr other ↦ strict.irreflexive (get_or xs i e) (strict.transitive (get_or xs i e) (get_or xs j e) (get_or xs i e) before (up j i (omega arith) within))
    ])
  ]

  module _ (xs ys : List X) (up : AreInOrder xs) (vp : AreInOrder ys) (there : (z : X) → Contains xs z → Contains ys z) where
    -- what is of one list stands in the other
    stands : (k : ℕ) → k < length xs → (j : ℕ) × (j < length ys) × (get_or ys j e ≡ get_or xs k e)
    stands k within =
        let found = there (get_or xs k e) (k, within, get_or_default xs k (get_or xs k e) e within) in
        (found.0, found.1, get_or_default ys found.0 e (get_or xs k e) found.1 ∙ found.2)

    -- .. and no sooner than here
    no_sooner : (k : ℕ) → k < length xs → (j : ℕ) × (k ≤ j) × (j < length ys) × (get_or ys j e ≡ get_or xs k e)
    no_sooner zero within = let found = stands zero within in (found.0, omega arith, found.1, found.2)
    no_sooner (suc k) within =
        let last = no_sooner k (omega arith) in
        let found = stands (suc k) within in
        let later = earlier ys vp last.0 found.0 last.2 (rw (last.3, found.2) (up k (suc k) (omega arith) within)) in
        (found.0, omega arith, found.1, found.2)

    -- a list in order whose members another one has is no longer than that one
    pub no_longer : length xs ≤ length ys
    no_longer = elim (cases_lt (length ys) (length xs)) as (λ _. length xs ≤ length ys) [
      | inl less ↦ let last = no_sooner (length ys) less in omega arith
      | inr few ↦ few
    ]

  pub same_members : (xs ys : List X) → AreInOrder xs → AreInOrder ys → ((z : X) → Contains xs z → Contains ys z) → ((z : X) → Contains ys z → Contains xs z) →
      xs ≡ ys
  same_members xs ys up vp there back =
      let few = no_longer xs ys up vp there in
      let many = no_longer ys xs vp up back in
      ext_get_or e xs ys (omega arith)
      (λ k within.
      let here = no_sooner xs ys up vp there k within in
      let other = no_sooner ys xs vp up back k (omega arith) in
      elim (cases_lt k other.0) as (λ _. get_or xs k e ≡ get_or ys k e) [
        | inl less ↦ absurd (let sooner = earlier ys vp here.0 k here.2 (rw (here.3, ← other.3) (up k other.0 less other.2)) in omega arith)
        | inr same ↦ ap (λ n. get_or xs n e) (let at : k ≡ other.0 = omega arith in at) ∙ other.3
      ])

pub nat_strict : IsStrict (λ (x y : ℕ). x < y)
nat_strict = record { irreflexive = λ x h. omega arith; transitive = λ x y z h k. omega arith }

-- rising numbers with the same members are the same
pub same_rising : (xs ys : List ℕ) → ((k : ℕ) → k + 1 < length xs → get_or xs k 0 < get_or xs (k + 1) 0) →
    ((k : ℕ) → k + 1 < length ys → get_or ys k 0 < get_or ys (k + 1) 0)
    → ((x : ℕ) → Contains xs x → Contains ys x) → ((x : ℕ) → Contains ys x → Contains xs x) → xs ≡ ys
same_rising xs ys up vp there back =
    same_members (λ (x y : ℕ). x < y) nat_strict 0 xs ys (in_order (λ (x y : ℕ). x < y) nat_strict 0 xs up) (in_order (λ (x y : ℕ). x < y) nat_strict 0 ys vp)
    there back
