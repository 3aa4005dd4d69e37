use Rattle.std.proofs.lemmas.Bool.Decides.{nat_tests}
use Rattle.std.proofs.Common.{
  ◌≡◌,
  ℕ,
  zero,
  suc,
  ◌+◌,
  ◌*◌,
  ◌<◌,
  ◌≤◌,
  Bool,
  true,
  false,
  eqb,
  List,
  [],
  ◌∷◌,
  length,
  filter,
  refl,
  sym,
  ap,
  ◌∙◌,
  subst,
  arith,
  inl,
  inr,
  bit_or,
  rules,
}
use Rattle.stop_orders.proofs.Common.{
  cases_eq,
  bit_at-zero,
  bit_at_or,
  bit_at-pow_same,
  bit_at-pow_other,
  bit_at-lt,
  Stop,
  Pick,
  Drop,
  Alight,
  is_of_rider,
  is_of_passenger,
  IsOrder,
  has,
  with_bit,
  with_stop,
  IsNextStop,
  IsAllDone,
  left_of_rider,
  left_of_passenger,
  Completes,
  sum_below,
  left_count,
}
use Rattle.std.proofs.lemmas.Bool.{eq-eqb, ne_eqb}
use Rattle.stop_orders.proofs.lemmas.task.DeletionLemmas.{skips, takes}

-- nothing is in the empty set
pub has-none : (k : ℕ) → has 0 k ≡ false
unfolding has
has-none k = rw (bit_at-zero k) refl

-- a stop is in a set with it
pub has-with_same : (done k : ℕ) → has (with_bit done k) k ≡ true
unfolding has with_bit
has-with_same done k = search (rules, bit_at-lt, bit_or, bit_at_or, bit_at-pow_same, eq-eqb)

-- the others stay as they are
pub has-with_other : (done k l : ℕ) → (l ≡ k → ⊥) → has (with_bit done k) l ≡ has done l
unfolding has with_bit
has-with_other done k l ne = search (rules, bit_or, bit_at_or, bit_at-pow_other)

-- a test of a number against itself
same : (i : ℕ) → eqb i i ≡ true
same i = eq-eqb i i refl

-- who has a pickup in front was not picked up yet
pick_left : (picked dropped : Bool) (i : ℕ) (rest : List Stop) → Pick i ∷ rest ≡ left_of_rider picked dropped i →
    (picked ≡ false) × (dropped ≡ false) × (rest ≡ Drop i ∷ [])
pick_left picked true i rest e = absurd cc
pick_left true false i rest e = absurd cc
pick_left false false i rest e = (refl, refl, cc)

-- who has a drop-off in front was picked up
drop_left : (picked dropped : Bool) (i : ℕ) (rest : List Stop) → Drop i ∷ rest ≡ left_of_rider picked dropped i →
    (picked ≡ true) × (dropped ≡ false) × (rest ≡ [])
drop_left picked true i rest e = absurd cc
drop_left true false i rest e = (refl, refl, cc)
drop_left false false i rest e = absurd cc

alight_left : (out : Bool) (j : ℕ) (rest : List Stop) → Alight j ∷ rest ≡ left_of_passenger out j → (out ≡ false) × (rest ≡ [])
alight_left true j rest e = absurd cc
alight_left false j rest e = (refl, cc)

module _ (riders passengers done : ℕ) (few : riders ≤ 6) where
  -- what may stand in front of a rest, and what the rest then completes
  pub Completes-front : (s : Stop) (rest : List Stop) → Completes riders passengers done (s ∷ rest) →
      IsNextStop riders passengers done s × Completes riders passengers (with_stop done s) rest
  Completes-front (Pick i) rest c = grind (arith, nat_tests, pick_left, takes, (same i), has-with_same, has-with_other, skips, (ne_eqb i))
  Completes-front (Drop i) rest c = grind (arith, nat_tests, drop_left, takes, (same i), has-with_same, skips, (ne_eqb i), has-with_other)
  Completes-front (Alight j) rest c = grind (arith, nat_tests, alight_left, takes, (same j), has-with_other, has-with_same, skips, (ne_eqb j))

  -- a stop that may come next in front of a rest that completes what is done with it
  pub Completes-back : (s : Stop) (rest : List Stop) → IsNextStop riders passengers done s → Completes riders passengers (with_stop done s) rest →
      Completes riders passengers done (s ∷ rest)
  Completes-back (Pick i) rest next c = record {
    rides = λ k h. elim (cases_eq i k) [
      | inl e ↦ subst (λ n. filter (is_of_rider n) (Pick i ∷ rest) ≡ left_of_rider (has done n) (has done (6 + n)) n) e
          (takes (is_of_rider i) (Pick i) rest (same i) ∙ ap (λ xs. Pick i ∷ xs) (c.rides i next.0)
          ∙ rw (has-with_same done i, has-with_other done i (6 + i) (λ q. omega arith), next.1, next.2) refl)
      | inr ne ↦ skips (is_of_rider k) (Pick i) rest (ne_eqb i k ne) ∙ c.rides k h
          ∙ rw (has-with_other done i k (λ q. ne (sym q)), has-with_other done i (6 + k) (λ q. omega arith)) refl
    ];
    alights = λ j h. c.alights j h ∙ rw (has-with_other done i (12 + j) (λ q. omega arith)) refl;
    known = (next.0, c.known);
  }
  Completes-back (Drop i) rest next c = record {
    rides = λ k h. elim (cases_eq i k) [
      | inl e ↦ subst (λ n. filter (is_of_rider n) (Drop i ∷ rest) ≡ left_of_rider (has done n) (has done (6 + n)) n) e
          (takes (is_of_rider i) (Drop i) rest (same i) ∙ ap (λ xs. Drop i ∷ xs) (c.rides i next.0)
          ∙ rw (has-with_same done (6 + i), next.1, next.2) refl)
      | inr ne ↦ skips (is_of_rider k) (Drop i) rest (ne_eqb i k ne) ∙ c.rides k h
          ∙ rw (has-with_other done (6 + i) k (λ q. omega arith), has-with_other done (6 + i) (6 + k) (λ q. ne (omega arith))) refl
    ];
    alights = λ j h. c.alights j h ∙ rw (has-with_other done (6 + i) (12 + j) (λ q. omega arith)) refl;
    known = (next.0, c.known);
  }
  Completes-back (Alight j) rest next c = record {
    rides = λ k h. c.rides k h ∙ rw (has-with_other done (12 + j) k (λ q. omega arith), has-with_other done (12 + j) (6 + k) (λ q. omega arith)) refl;
    alights = λ k h. elim (cases_eq j k) [
      | inl e ↦ subst (λ n. filter (is_of_passenger n) (Alight j ∷ rest) ≡ left_of_passenger (has done (12 + n)) n) e
          (takes (is_of_passenger j) (Alight j) rest (same j) ∙ ap (λ xs. Alight j ∷ xs) (c.alights j next.0)
          ∙ rw (has-with_same done (12 + j), next.1) refl)
      | inr ne ↦ skips (is_of_passenger k) (Alight j) rest (ne_eqb j k ne) ∙ c.alights k h
          ∙ rw (has-with_other done (12 + j) (12 + k) (λ q. ne (omega arith))) refl
    ];
    known = (next.0, c.known);
  }

-- who has nothing left was dropped
rider_out : (picked dropped : Bool) (i : ℕ) → [] ≡ left_of_rider picked dropped i → dropped ≡ true
rider_out picked true i e = refl
rider_out true false i e = absurd cc
rider_out false false i e = absurd cc

-- nothing is left exactly where all were dropped
pub IsAllDone-from_nil : (riders passengers done : ℕ) → Completes riders passengers done [] → IsAllDone riders passengers done
IsAllDone-from_nil riders passengers done c = search rules

pub Completes-nil : (riders passengers done : ℕ) → IsAllDone riders passengers done → Completes riders passengers done []
Completes-nil riders passengers done a = search rules

-- where nothing is done, what completes it is an order
pub Completes-none : (riders passengers : ℕ) (stops : List Stop) → IsOrder riders passengers stops → Completes riders passengers 0 stops
Completes-none riders passengers stops o = record {
  rides = λ i h. o.rides i h ∙ sym (rw (has-none i, has-none (6 + i)) refl);
  alights = λ j h. o.alights j h ∙ sym (rw (has-none (12 + j)) refl);
  known = o.known;
}

pub IsOrder-from_none : (riders passengers : ℕ) (stops : List Stop) → Completes riders passengers 0 stops → IsOrder riders passengers stops
IsOrder-from_none riders passengers stops c = record {
  rides = λ i h. c.rides i h ∙ rw (has-none i, has-none (6 + i)) refl;
  alights = λ j h. c.alights j h ∙ rw (has-none (12 + j)) refl;
  known = c.known;
}

pub sum_below-le : (f g : ℕ → ℕ) (n : ℕ) → ((k : ℕ) → k < n → g k ≤ f k) → sum_below g n ≤ sum_below f n
sum_below-le f g zero h = omega arith
sum_below-le f g (suc n) h = search (rules, (sum_below-le f g n))

-- where one term falls by one and no other rises, the sum falls
sum_below-falls : (f g : ℕ → ℕ) (n i : ℕ) → i < n → ((k : ℕ) → k < n → (k ≡ i → ⊥) → g k ≤ f k) → g i + 1 ≤ f i → sum_below g n + 1 ≤ sum_below f n
sum_below-falls f g zero i b h fall = absurd (omega arith)
sum_below-falls f g (suc n) i b h fall = search (rules, cases_eq, sum_below-le, (sum_below-falls f g n i))

sum_below-most : (f : ℕ → ℕ) (most n : ℕ) → ((k : ℕ) → f k ≤ most) → sum_below f n ≤ n * most
sum_below-most f most zero h = omega arith
sum_below-most f most (suc n) h = search (rules, (sum_below-most f most n h))

-- a stop that is done is one less to do
pub left_count-falls : (riders passengers done : ℕ) → riders ≤ 6 → (s : Stop) → IsNextStop riders passengers done s →
    left_count riders passengers (with_stop done s) + 1 ≤ left_count riders passengers done
unfolding left_count
left_count-falls riders passengers done few (Pick i) next =
    let here : length (left_of_rider (has (with_bit done i) i) (has (with_bit done i) (6 + i)) i) + 1 ≤ length
    (left_of_rider (has done i) (has done (6 + i)) i) =
    rw (has-with_same done i, has-with_other done i (6 + i) (λ q. omega arith), next.1, next.2) (omega arith) in
    let fall = sum_below-falls (λ k. length (left_of_rider (has done k) (has done (6 + k)) k))
    (λ k. length (left_of_rider (has (with_bit done i) k) (has (with_bit done i) (6 + k)) k)) riders i next.0
    (λ k l ne. rw (has-with_other done i k ne, has-with_other done i (6 + k) (λ q. omega arith)) (omega arith)) here in
    let keep = sum_below-le (λ j. length (left_of_passenger (has done (12 + j)) j)) (λ j. length (left_of_passenger (has (with_bit done i) (12 + j)) j))
    passengers
    (λ j h. rw (has-with_other done i (12 + j) (λ q. omega arith)) (omega arith)) in
    omega (arith, fall, keep)
left_count-falls riders passengers done few (Drop i) next =
    let here : length (left_of_rider (has (with_bit done (6 + i)) i) (has (with_bit done (6 + i)) (6 + i)) i) + 1 ≤ length
    (left_of_rider (has done i) (has done (6 + i)) i) =
    rw (has-with_same done (6 + i), next.1, next.2) (omega arith) in
    let fall = sum_below-falls (λ k. length (left_of_rider (has done k) (has done (6 + k)) k))
    (λ k. length (left_of_rider (has (with_bit done (6 + i)) k) (has (with_bit done (6 + i)) (6 + k)) k)) riders i next.0
    (λ k l ne. rw (has-with_other done (6 + i) k (λ q. omega arith), has-with_other done (6 + i) (6 + k) (λ q. ne (omega arith))) (omega arith)) here in
    let keep = sum_below-le (λ j. length (left_of_passenger (has done (12 + j)) j)) (λ j. length (left_of_passenger (has (with_bit done (6 + i)) (12 + j)) j))
    passengers
    (λ j h. rw (has-with_other done (6 + i) (12 + j) (λ q. omega arith)) (omega arith)) in
    omega (arith, fall, keep)
left_count-falls riders passengers done few (Alight j) next =
    let here : length (left_of_passenger (has (with_bit done (12 + j)) (12 + j)) j) + 1 ≤ length (left_of_passenger (has done (12 + j)) j) =
    rw (has-with_same done (12 + j), next.1) (omega arith) in
    let fall = sum_below-falls (λ k. length (left_of_passenger (has done (12 + k)) k)) (λ k. length
    (left_of_passenger (has (with_bit done (12 + j)) (12 + k)) k)) passengers j next.0
    (λ k l ne. rw (has-with_other done (12 + j) (12 + k) (λ q. ne (omega arith))) (omega arith)) here in
    let keep = sum_below-le (λ k. length (left_of_rider (has done k) (has done (6 + k)) k))
    (λ k. length (left_of_rider (has (with_bit done (12 + j)) k) (has (with_bit done (12 + j)) (6 + k)) k)) riders
    (λ k h. rw (has-with_other done (12 + j) k (λ q. omega arith), has-with_other done (12 + j) (6 + k) (λ q. omega arith)) (omega arith)) in
    omega (arith, fall, keep)

-- a rest is no longer than what is left to do
pub length-Completes : (riders passengers done : ℕ) → riders ≤ 6 → (rest : List Stop) → Completes riders passengers done rest →
    length rest ≤ left_count riders passengers done
length-Completes riders passengers done few [] c = omega arith
length-Completes riders passengers done few (s ∷ rest) c =
    let front = Completes-front riders passengers done few s rest c in
    omega (arith, length-Completes riders passengers (with_stop done s) few rest front.1, left_count-falls riders passengers done few s front.0)

rider_stops-most : (picked dropped : Bool) (i : ℕ) → length (left_of_rider picked dropped i) ≤ 2
rider_stops-most picked true i = omega arith
rider_stops-most true false i = omega arith
rider_stops-most false false i = omega arith

passenger_stops-most : (out : Bool) (j : ℕ) → length (left_of_passenger out j) ≤ 1
passenger_stops-most true j = omega arith
passenger_stops-most false j = omega arith

-- twice the riders and the passengers are all stops
pub left_count-most : (riders passengers done : ℕ) → left_count riders passengers done ≤ riders * 2 + passengers
unfolding left_count
left_count-most riders passengers done =
    let both = sum_below-most (λ i. length (left_of_rider (has done i) (has done (6 + i)) i)) 2 riders
    (λ i. rider_stops-most (has done i) (has done (6 + i)) i) in
    let once = sum_below-most (λ j. length (left_of_passenger (has done (12 + j)) j)) 1 passengers (λ j. passenger_stops-most (has done (12 + j)) j) in
    omega (arith, both, once)

-- an order has at most twice as many stops as riders, and one for each passenger
pub length-IsOrder : (riders passengers : ℕ) (stops : List Stop) → riders ≤ 6 → IsOrder riders passengers stops → length stops ≤ riders * 2 + passengers
length-IsOrder riders passengers stops few o = grind (
  arith,
  nat_tests,
  (left_count-most riders passengers 0),
  (length-Completes riders passengers 0 few stops),
  (Completes-none riders passengers stops o),
)
