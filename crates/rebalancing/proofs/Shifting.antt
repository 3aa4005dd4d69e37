use Rattle.std.proofs.Common.{◌≡◌, ◌≢◌, ℕ, zero, suc, ◌+◌, ◌<◌, ◌≤◌, ◌⊎◌, List, length, slice_index, refl, sym, ap, ◌∙◌, inl, inr, ⊎_elim, arith, rules}
use Rattle.rebalancing.proofs.Common.{cases_eq, cases_lt, pair_worth, IsPriced, IsRooted, Falls, Rises, IsGrown, IsReached, IsCheapest}

module _ {n m : ℕ} {w : ℕ → ℕ → ℕ} {k : ℕ} {a b q r c parent place : List ℕ} {count : ℕ} (tree : IsRooted n m w k a b q r c parent place count) where
  root_apart : (t : ℕ) → 0 < t → t < count → slice_index r 0 ≡ slice_index r t → ⊥
  root_apart t pt ht e = search rules

  -- no vehicle is at two positions
  pub vehicles_differ : (s t : ℕ) → s < count → t < count → slice_index r s ≡ slice_index r t → s ≡ t
  vehicles_differ zero zero hs ht e = refl
  vehicles_differ zero (suc t) hs ht e = absurd (root_apart (suc t) (omega arith) ht e)
  vehicles_differ (suc s) zero hs ht e = absurd (root_apart (suc s) (omega arith) hs (sym e))
  vehicles_differ (suc s) (suc t) hs ht e = search rules

  -- fewer positions are as they were where their vehicles have the riders that they had
  pub IsRooted-kept : (others : List ℕ) (fewer : ℕ) → 0 < fewer → fewer ≤ count → ((t : ℕ) → t < fewer →
      slice_index others (slice_index r t) ≡ slice_index q (slice_index r t)) → IsRooted n m w k a b others r c parent place fewer
  IsRooted-kept others fewer some le same = search rules

module _ {n m : ℕ} {w : ℕ → ℕ → ℕ} {k : ℕ} {a b q p r c parent place : List ℕ} (priced : IsPriced n m w k (k + 1) m a b q p)
    (grown : IsGrown n m w k a b q r c parent place) where
  -- a vehicle that is neither the root nor has a rider of the tree isn't in the tree
  out_of_tree : (i : ℕ) → i ≢ k → (slice_index q i < m → slice_index place (slice_index q i) ≡ 0) → (t : ℕ) → t < length r → slice_index r t ≢ i
  out_of_tree i other out zero ht e = other (sym e ∙ grown.tree.root)
  out_of_tree i other out (suc t) ht e = search rules

  -- a vehicle is at some position of the tree, or at none
  pub vehicle_cases : (i : ℕ) → i < n → ((t : ℕ) × (t < length r) × (slice_index r t ≡ i)) ⊎ ((t : ℕ) → t < length r → slice_index r t ≢ i)
  vehicle_cases i hi =
      ⊎_elim
      (λ (e : i ≡ k). inl (0, grown.rooted, grown.tree.root ∙ sym e))
      (λ (other : i ≢ k). ⊎_elim
      (λ (matched : slice_index q i < m). ⊎_elim
      (λ (inside : 0 < slice_index place (slice_index q i)).
      let t = slice_index place (slice_index q i) in
      let ht : slice_index place (slice_index q i) < length r = grown.place_most (slice_index q i) matched in
      let rider : slice_index c (slice_index place (slice_index q i)) ≡ slice_index q i = grown.found (slice_index q i) matched inside in
      let partner : slice_index q (slice_index r t) ≡ slice_index q i = grown.tree.partner t inside ht ∙ rider in
      let own : slice_index p (slice_index q (slice_index r t)) ≡ slice_index r t = priced.forth (slice_index r t) (grown.tree.vehicle t ht)
      (rw partner matched) in
      let its : slice_index p (slice_index q i) ≡ i = priced.forth i hi matched in
      inl (t, ht, sym own ∙ ap (slice_index p) partner ∙ its))
      (λ (outside : slice_index place (slice_index q i) ≤ 0). inr (out_of_tree i other (λ _. omega arith)))
      (cases_lt 0 (slice_index place (slice_index q i))))
      (λ (free : m ≤ slice_index q i). inr (out_of_tree i other (λ h. absurd (omega arith))))
      (cases_lt (slice_index q i) m))
      (cases_eq i k)

  -- a rider outside the tree is at no position
  pub rider_outside : (j : ℕ) → slice_index place j ≡ 0 → (t : ℕ) → 0 < t → t < length r → slice_index c t ≢ j
  rider_outside j out t pt ht e = search rules

  pub rider_cases : (j : ℕ) → j < m → ((t : ℕ) × (0 < t) × (t < length r) × (slice_index c t ≡ j)) ⊎ ((t : ℕ) → 0 < t → t < length r → slice_index c t ≢ j)
  rider_cases j hj =
      ⊎_elim
      (λ (inside : 0 < slice_index place j). inl (slice_index place j, inside, grown.place_most j hj, grown.found j hj inside))
      (λ (outside : slice_index place j ≤ 0). inr (rider_outside j (omega arith)))
      (cases_lt 0 (slice_index place j))

  module _ {ta po a' b' : List ℕ} {cheapest lowered by : ℕ} (reached : IsReached m w a b r place ta po lowered) (cheap : IsCheapest k a r cheapest lowered)
      (enough : by ≤ slice_index a (slice_index r cheapest)) (near : (j : ℕ) → j < m → slice_index place j ≡ 0 → lowered + by ≤ slice_index ta j)
      (fall : Falls r by a a') (rise : Rises c by b b') where
    -- the prices after the shift still cover every pair
    shifted_covers : (i j : ℕ) → i < n → j < m → w i j ≤ slice_index a' i + slice_index b' j
    shifted_covers i j hi hj =
        let cover : w i j ≤ slice_index a i + slice_index b j = priced.prices.covers i j hi hj in
        ⊎_elim
        (λ (vehicle : (t : ℕ) × (t < length r) × (slice_index r t ≡ i)).
        let t = vehicle.0 in
        let fell : slice_index a' i + by ≡ slice_index a i = rw vehicle.2 at (fall.inside t vehicle.1) in
        ⊎_elim
        (λ (rider : (s : ℕ) × (0 < s) × (s < length r) × (slice_index c s ≡ j)).
        let rose : slice_index b' j ≡ slice_index b j + by = rw rider.3 at (rise.inside rider.0 rider.1 (rw grown.tree.c_length rider.2)) in
        omega arith)
        (λ (outside : slice_index place j ≤ 0).
        let out : slice_index place j ≡ 0 = omega arith in
        let same : slice_index b' j ≡ slice_index b j = rise.outside j (λ s ps hs. rider_outside j out s ps (rw grown.tree.c_length at hs)) in
        let bound : w i j + slice_index ta j ≤ slice_index a i + slice_index b j + lowered = rw vehicle.2 at (reached.no_earlier j t hj out vehicle.1) in
        omega (arith, near j hj out))
        (⊎_elim (λ (inside : 0 < slice_index place j). inl (slice_index place j, inside, grown.place_most j hj, grown.found j hj inside)) (λ h. inr h)
        (cases_lt 0 (slice_index place j))))
        (λ (outside : (t : ℕ) → t < length r → slice_index r t ≢ i).
        let same_price : slice_index a' i ≡ slice_index a i = fall.outside i outside in
        ⊎_elim
        (λ (rider : (s : ℕ) × (0 < s) × (s < length r) × (slice_index c s ≡ j)).
        let rose : slice_index b' j ≡ slice_index b j + by = rw rider.3 at (rise.inside rider.0 rider.1 (rw grown.tree.c_length rider.2)) in
        omega arith)
        (λ (out : (s : ℕ) → 0 < s → s < length r → slice_index c s ≢ j).
        let same : slice_index b' j ≡ slice_index b j = rise.outside j (λ s ps hs. out s ps (rw grown.tree.c_length at hs)) in
        omega arith)
        (rider_cases j hj))
        (vehicle_cases i hi)

    -- a matched pair is in the tree as a whole, or not at all
    shifted_tight : (i : ℕ) → i < n → slice_index q i < m → slice_index a' i + slice_index b' (slice_index q i) ≡ w i (slice_index q i)
    shifted_tight i hi matched =
        let tight : slice_index a i + slice_index b (slice_index q i) ≡ w i (slice_index q i) = priced.tight i hi matched in
        ⊎_elim
        (λ (vehicle : (t : ℕ) × (t < length r) × (slice_index r t ≡ i)).
        let t = vehicle.0 in
        let ht : vehicle.0 < length r = vehicle.1 in
        let fell : slice_index a' i + by ≡ slice_index a i = rw vehicle.2 at (fall.inside t vehicle.1) in
        ⊎_elim
        (λ (pt : 0 < vehicle.0).
        let rider : slice_index q i ≡ slice_index c t = ap (slice_index q) (sym vehicle.2) ∙ grown.tree.partner t pt ht in
        let rose : slice_index b' (slice_index c t) ≡ slice_index b (slice_index c t) + by = rise.inside t pt (rw grown.tree.c_length ht) in
        let rose_there : slice_index b' (slice_index q i) ≡ slice_index b (slice_index q i) + by = rw rider rose in
        omega arith)
        (λ (zt : vehicle.0 ≤ 0).
        let z : vehicle.0 ≡ 0 = omega arith in
        let is : i ≡ k = sym vehicle.2 ∙ ap (slice_index r) z ∙ grown.tree.root in
        let free : m ≤ slice_index q i = rw is grown.tree.root_free in
        absurd (omega arith))
        (cases_lt 0 vehicle.0))
        (λ (outside : (t : ℕ) → t < length r → slice_index r t ≢ i).
        let rider_out : (s : ℕ) → 0 < s → s < length r → slice_index c s ≢ slice_index q i = λ s ps hs e.
        let partner : slice_index q (slice_index r s) ≡ slice_index q i = grown.tree.partner s ps hs ∙ e in
        outside s hs (sym (priced.forth (slice_index r s) (grown.tree.vehicle s hs) (rw partner matched)) ∙ ap (slice_index p) partner ∙
        priced.forth i hi matched) in
        let same : slice_index b' (slice_index q i) ≡ slice_index b (slice_index q i) = rise.outside (slice_index q i)
        (λ s ps hs. rider_out s ps (rw grown.tree.c_length at hs)) in
        omega (arith, fall.outside i outside))
        (vehicle_cases i hi)

    -- what is unmatched isn't in the tree, but for the root
    unmatched_outside : (i : ℕ) → i < n → i ≢ k → m ≤ slice_index q i → slice_index a' i ≡ slice_index a i
    unmatched_outside i hi other free = fall.outside i (out_of_tree i other (λ h. absurd (omega arith)))

    pub IsPriced-shifted : IsPriced n m w k (k + 1) m a' b' q p
    IsPriced-shifted = record {
      prices = record {
        a_length = fall.same_length ∙ priced.prices.a_length;
        b_length = rise.same_length ∙ priced.prices.b_length;
        a_most = λ i hi.
            let was : slice_index a i ≤ pair_worth = priced.prices.a_most i hi in
            ⊎_elim
            (λ (vehicle : (t : ℕ) × (t < length r) × (slice_index r t ≡ i)). let fell : slice_index a' i + by ≡ slice_index a i =
            rw vehicle.2 at (fall.inside vehicle.0 vehicle.1) in omega arith)
            (λ outside. let same : slice_index a' i ≡ slice_index a i = fall.outside i outside in omega arith)
            (vehicle_cases i hi);
        light = priced.prices.light;
        covers = shifted_covers;
        waiting_price = λ i hi le. unmatched_outside i hi (λ e. absurd (omega arith)) (priced.waiting i hi le) ∙ priced.prices.waiting_price i hi le;
      };
      q_length = priced.q_length;
      p_length = priced.p_length;
      q_most = priced.q_most;
      p_most = priced.p_most;
      tight = shifted_tight;
      forth = priced.forth;
      apart = priced.apart;
      back = priced.back;
      free_rider = λ j hj ne free.
          let out : (s : ℕ) → 0 < s → s < length c → slice_index c s ≢ j = λ s ps hs e.
          let hr : s < length r = rw grown.tree.c_length at hs in
          let partner : slice_index q (slice_index r s) ≡ j = grown.tree.partner s ps hr ∙ e in
          let own : slice_index p j ≡ slice_index r s = ap (slice_index p) (sym partner) ∙ priced.forth (slice_index r s) (grown.tree.vehicle s hr)
          (rw partner hj) in
          absurd (omega (arith, grown.tree.vehicle s hr)) in
          rise.outside j out ∙ priced.free_rider j hj ne free;
      free_vehicle = λ i hi lt free. unmatched_outside i hi (λ e. absurd (omega arith)) free ∙ priced.free_vehicle i hi lt free;
      waiting = priced.waiting;
    }

    pub IsGrown-shifted : IsGrown n m w k a' b' q r c parent place
    IsGrown-shifted = search rules

    pub IsReached-shifted : IsReached m w a' b' r place ta po (lowered + by)
    IsReached-shifted = record {
      tight_length = reached.tight_length;
      of_length = reached.of_length;
      not_past = near;
      of_within = reached.of_within;
      no_earlier = λ j t hj out ht.
          let same : slice_index b' j ≡ slice_index b j = rise.outside j (λ s ps hs. rider_outside j out s ps (rw grown.tree.c_length at hs)) in
          omega (arith, fall.inside t ht, reached.no_earlier j t hj out ht);
      exactly = λ j hj out.
          let ht : slice_index po j < length r = reached.of_within j hj out in
          let same : slice_index b' j ≡ slice_index b j = rise.outside j (λ s ps hs. rider_outside j out s ps (rw grown.tree.c_length at hs)) in
          omega (arith, fall.inside (slice_index po j) ht, reached.exactly j hj out);
    }

    pub IsCheapest-shifted : IsCheapest k a' r cheapest (lowered + by)
    IsCheapest-shifted = search rules
