-- Bytes give one fleet.
use Rattle.std.proofs.Common.{◌≡◌, ℕ, zero, suc, ◌<◌, List, [], ◌∷◌, Contains, refl, sym, ap, subst, ◌∙◌, inl, inr, arith, ◌⊎◌}
use Rattle.ridepool.proofs.Common.{IsFleetIn, Vehicle, vehicles_in}
use Rattle.request_book.proofs.lemmas.values.KeyedLemmas.{rise_from_increasing}
unfoldable use Rattle.request_book.specs.values.Keyed.{AllAbove, KeysRise}
use Rattle.ridepool.proofs.CompleteLemmas.{same_value}

abbrev id_of : Vehicle → ℕ
id_of v = v.id

member-above : (k : ℕ) (xs : List Vehicle) → AllAbove id_of k xs → (v : Vehicle) → Contains xs v → k < v.id
unfolding AllAbove
member-above k [] all v (n, within, is) = absurd (omega (arith, within))
member-above k (x ∷ xs) all v (zero, within, is) = subst (λ (w : Vehicle). k < w.id) is all.0
member-above k (x ∷ xs) all v (suc n, within, is) = member-above k xs all.1 v (n, omega (arith, within), is)

member-cases : (x : Vehicle) (xs : List Vehicle) (v : Vehicle) → Contains (x ∷ xs) v → (x ≡ v) ⊎ Contains xs v
member-cases x xs v (zero, within, is) = inl is
member-cases x xs v (suc n, within, is) = inr (n, omega (arith, within), is)

member-there : (x : Vehicle) (xs : List Vehicle) (v : Vehicle) → Contains xs v → Contains (x ∷ xs) v
member-there x xs v (n, within, is) = (suc n, omega (arith, within), is)

abbrev Within : List Vehicle → List Vehicle → Type 0
Within xs ys = (v : Vehicle) → Contains xs v → Contains ys v

module _ (x y : Vehicle) (xs ys : List Vehicle) (up : KeysRise id_of (x ∷ xs)) (rise : KeysRise id_of (y ∷ ys)) (forth : Within (x ∷ xs) (y ∷ ys))
    (back : Within (y ∷ ys) (x ∷ xs)) where
  first-same : x ≡ y
  unfolding KeysRise
  first-same = elim (member-cases y ys x (forth x (0, omega arith, refl))) [
    | inl is ↦ sym is
    | inr later ↦ elim (member-cases x xs y (back y (0, omega arith, refl))) [
      | inl is ↦ is
      | inr behind ↦ absurd (omega (arith, member-above y.id ys rise.0 x later, member-above x.id xs up.0 y behind))
    ]
  ]

  rest-within : Within xs ys
  unfolding KeysRise
  rest-within v has = elim (member-cases y ys v (forth v (member-there x xs v has))) [
    | inl is ↦ absurd (let same = ap id_of (first-same ∙ is) in omega (arith, same, member-above x.id xs up.0 v has))
    | inr later ↦ later
  ]

one_list : (xs ys : List Vehicle) → KeysRise id_of xs → KeysRise id_of ys → Within xs ys → Within ys xs → xs ≡ ys
unfolding KeysRise
one_list [] [] up rise forth back = refl
one_list [] (y ∷ ys) up rise forth back = absurd (let none = back y (0, omega arith, refl) in omega (arith, none.1))
one_list (x ∷ xs) [] up rise forth back = absurd (let none = forth x (0, omega arith, refl) in omega (arith, none.1))
one_list (x ∷ xs) (y ∷ ys) up rise forth back =
    let first = first-same x y xs ys up rise forth back in
    let rest = one_list xs ys up.1 rise.1 (rest-within x y xs ys up rise forth back) (rest-within y x ys xs rise up back forth) in
    λ k. first k ∷ rest k

pub one_fleet : (nodes bytes : List ℕ) (a b : List Vehicle) → IsFleetIn nodes bytes a → IsFleetIn nodes bytes b → a ≡ b
one_fleet nodes bytes a b is has =
    let same : is.vehicles ≡ has.vehicles = same_value (vehicles_in nodes bytes) is.vehicles has.vehicles is.read has.read in
    one_list a b (rise_from_increasing id_of a is.rising) (rise_from_increasing id_of b has.rising)
    (λ v h. (has.members v).1 (subst (λ vs. Contains vs v) same ((is.members v).0 h)))
    (λ v h. (is.members v).1 (subst (λ vs. Contains vs v) (sym same) ((has.members v).0 h)))
