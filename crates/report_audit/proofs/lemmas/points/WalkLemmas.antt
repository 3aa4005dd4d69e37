-- Items that stand beside the numbers that pass, read one after the other.
use Rattle.std.proofs.Common.{
  rules,
  ◌≡◌,
  ◌↔◌,
  ℕ,
  suc,
  ◌+◌,
  ◌-◌,
  ◌<◌,
  ◌≤◌,
  Bool,
  true,
  false,
  List,
  [],
  ◌∷◌,
  length,
  get_or,
  drop,
  filter,
  refl,
  sym,
  ap,
  ◌∙◌,
  arith,
}
use Rattle.report_audit.proofs.Common.{AllZip, range_with_len, vehicle_read, vehicle_at, Settled, SettledVehicle}
use Rattle.std.proofs.lemmas.List.{drop_all, drop_more, length-drop}

-- the numbers from v on, below n, that pass
abbrev pub passing : (ℕ → Bool) → ℕ → ℕ → List ℕ
passing p n v = filter p (range_with_len v (n - v))

module _ (p : ℕ → Bool) (n v : ℕ) (low : v < n) where
  more : n - v ≡ suc (n - (v + 1))
  more = omega (arith, low)

  pub walk_skips : p v ≡ false → passing p n v ≡ passing p n (v + 1)
  walk_skips pass = rw more (rw pass refl)

  pub walk_takes : p v ≡ true → passing p n v ≡ v ∷ passing p n (v + 1)
  walk_takes pass = rw more (rw pass refl)

module _ {X : Type 0} (R : ℕ → X → Type 0) (p : ℕ → Bool) (n v : ℕ) (xs : List X) (place : ℕ) where
  -- the next number that passes stands beside the next item
  pub walk_next : v < n → p v ≡ true → (x : X) → place < length xs → x ≡ get_or xs place x
      → AllZip R (passing p n v) (drop place xs) ↔ (R v x × AllZip R (passing p n (v + 1)) (drop (place + 1) xs))
  walk_next low pass x within is =
      let next : drop place xs ≡ x ∷ drop (place + 1) xs = drop_more xs place x within ∙ ap (λ y. y ∷ drop (place + 1) xs) (sym is) in
      rw (walk_takes p n v low pass, next) (λ all. all, λ all. all)

  -- without an item there is none beside it
  pub walk_stuck : v < n → p v ≡ true → length xs ≤ place → AllZip R (passing p n v) (drop place xs) → ⊥
  walk_stuck low pass end all = rw (walk_takes p n v low pass, drop_all place xs end) at all

  -- behind the last number there is no item left
  pub walk_end : n ≤ v → AllZip R (passing p n v) (drop place xs) ↔ (length xs ≤ place)
  walk_end end =
      let none : n - v ≡ 0 = omega (arith, end) in
      rw none (λ all. by (drop place xs) all (length-drop place xs), λ past. rw (drop_all place xs past) tt)
    where
      by : (ys : List X) → AllZip R [] ys → length ys ≡ length xs - place → length xs ≤ place
      by [] all long = omega (arith, long)
      by (y ∷ ys) all long = absurd all

-- whether the vehicle that is read is late
pub late_read : (settled : Settled) (vehicles : List SettledVehicle) (v : ℕ) (x : SettledVehicle) (b : Bool) → vehicles ≡ settled.vehicles →
    v < length vehicles → (get_or vehicles v x).late ≡ b
    → (v < length settled.vehicles) × ((vehicle_at settled v).late ≡ b)
late_read settled vehicles v x b e low is = search (rules, vehicle_read)
