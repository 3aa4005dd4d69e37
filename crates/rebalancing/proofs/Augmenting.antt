use Rattle.std.proofs.Common.{◌≡◌, ◌≢◌, ℕ, ◌+◌, ◌<◌, ◌≤◌, List, length, slice_index, set, sym, ap, ◌∙◌, ⊎_elim, arith, rules}
use Rattle.rebalancing.proofs.Common.{cases_eq, IsPriced, IsGrown, IsReached, IsOpen}
use Rattle.std.proofs.lemmas.List.{length-set, get_or-set_same, get_or-set_other}
use Rattle.rebalancing.proofs.Shifting.{vehicles_differ, IsRooted-kept}

module _ {n m : ℕ} {w : ℕ → ℕ → ℕ} {k : ℕ} {a b q p r c parent place : List ℕ} {rider position v : ℕ}
    (between : IsOpen n m w k a b q p r c parent place rider position) (ev : slice_index r position ≡ v) where
  v_within : v < n
  v_within = rw (← ev) (between.tree.vehicle position (omega arith))

  -- the partners after vehicle v has taken the rider
  q_at : slice_index (set q v rider) v ≡ rider
  q_at = get_or-set_same q v rider 0 (let e : length q ≡ n = between.priced.q_length in let h : v < n = v_within in omega arith)

  q_other : (i : ℕ) → i ≢ v → slice_index (set q v rider) i ≡ slice_index q i
  q_other i ne = get_or-set_other q v i rider 0 ne

  p_at : slice_index (set p rider v) rider ≡ v
  p_at = get_or-set_same p rider v 0 (let e : length p ≡ m = between.priced.p_length in let h : rider < m = between.rider_within in omega arith)

  p_other : (j : ℕ) → j ≢ rider → slice_index (set p rider v) j ≡ slice_index p j
  p_other j ne = get_or-set_other p rider j v 0 ne

  -- vehicle v takes the rider; the one that it had, if any, is loose then
  joined : (loose done : ℕ) → rider ≢ loose → ((i : ℕ) → i < n → slice_index q i < m → slice_index q i ≡ loose → i ≡ v) →
      ((j : ℕ) → j < m → slice_index q v ≡ j → j ≡ loose)
      → ((i : ℕ) → i < done → i ≢ v → i < k) → ((i : ℕ) → i < n → k + 1 ≤ i → i ≢ v) → IsPriced n m w done (k + 1) loose a b (set q v rider) (set p rider v)
  joined loose done other its gone before later = record {
    prices = between.priced.prices;
    q_length = length-set q v rider ∙ between.priced.q_length;
    p_length = length-set p rider v ∙ between.priced.p_length;
    q_most = λ i hi. ⊎_elim (λ (e : i ≡ v). rw (e, q_at) (let h : rider < m = between.rider_within in omega arith))
        (λ (ne : i ≢ v). rw (q_other i ne) (between.priced.q_most i hi)) (cases_eq i v);
    p_most = λ j hj. ⊎_elim (λ (e : j ≡ rider). rw (e, p_at) (let h : v < n = v_within in omega arith))
        (λ (ne : j ≢ rider). rw (p_other j ne) (between.priced.p_most j hj)) (cases_eq j rider);
    tight = λ i hi h. ⊎_elim
        (λ (e : i ≡ v). rw (e, q_at) (rw ev at between.last_edge))
        (λ (ne : i ≢ v). let same : slice_index (set q v rider) i ≡ slice_index q i = q_other i ne in rw same (between.priced.tight i hi (rw same at h)))
        (cases_eq i v);
    forth = λ i hi h. ⊎_elim
        (λ (e : i ≡ v). rw (e, q_at) p_at)
        (λ (ne : i ≢ v).
        let same : slice_index (set q v rider) i ≡ slice_index q i = q_other i ne in
        let was : slice_index q i < m = rw same at h in
        rw same (p_other (slice_index q i) (between.priced.apart i hi was) ∙ between.priced.forth i hi was))
        (cases_eq i v);
    apart = λ i hi h f. ⊎_elim
        (λ (e : i ≡ v). let is : slice_index (set q v rider) i ≡ rider = rw e q_at in other (sym is ∙ f))
        (λ (ne : i ≢ v). let same : slice_index (set q v rider) i ≡ slice_index q i = q_other i ne in ne (its i hi (rw same at h) (sym same ∙ f)))
        (cases_eq i v);
    back = λ j hj away h. ⊎_elim
        (λ (e : j ≡ rider). rw (e, p_at) q_at)
        (λ (ne : j ≢ rider).
        let same : slice_index (set p rider v) j ≡ slice_index p j = p_other j ne in
        let back : slice_index q (slice_index p j) ≡ j = between.priced.back j hj ne (rw same at h) in
        rw same (q_other (slice_index p j) (λ e. away (gone j hj (sym (ap (slice_index q) e) ∙ back))) ∙ back))
        (cases_eq j rider);
    free_rider = λ j hj away free. ⊎_elim
        (λ (e : j ≡ rider). let is : slice_index (set p rider v) j ≡ v = rw e p_at in let h : v < n = v_within in absurd (omega arith))
        (λ (ne : j ≢ rider). between.priced.free_rider j hj ne (rw (p_other j ne) at free))
        (cases_eq j rider);
    free_vehicle = λ i hi lt free. ⊎_elim
        (λ (e : i ≡ v). let is : slice_index (set q v rider) i ≡ rider = rw e q_at in let h : rider < m = between.rider_within in absurd (omega arith))
        (λ (ne : i ≢ v). between.priced.free_vehicle i hi (before i lt ne) (rw (q_other i ne) at free))
        (cases_eq i v);
    waiting = λ i hi le. rw (q_other i (later i hi le)) (between.priced.waiting i hi le);
  }

  -- the root takes the rider, and the walk is at its end
  pub IsPriced-closed : position ≡ 0 → IsPriced n m w (k + 1) (k + 1) m a b (set q v rider) (set p rider v)
  IsPriced-closed first = search rules

  -- another vehicle takes the rider, and its own rider is to be taken by its parent
  pub IsOpen-step : {u : ℕ} → slice_index c position ≡ u → 0 < position → IsOpen n m w k a b (set q v rider) (set p rider v) r c parent place u
      (slice_index parent position)
  IsOpen-step {u} eu pp =
      let within : u < m = rw (← eu) (between.tree.rider position pp (omega arith)) in
      let own : slice_index q v ≡ u = rw (ev, eu) at (between.tree.partner position pp (omega arith)) in
      let matched : slice_index q v < m = omega arith in
      let back : slice_index p (slice_index q v) ≡ v = between.priced.forth v v_within matched in
      let earlier : slice_index parent position < position = between.tree.earlier position pp (omega arith) in
      let inside : position < length r = between.position_within in
      record {
        priced = joined u k (λ e. between.priced.apart v v_within matched (own ∙ sym e)) (λ i hi h f. sym (between.priced.forth i hi h) ∙
            ap (slice_index p) (f ∙ sym own) ∙ back) (λ j hj e. sym e ∙ own) (λ i lt ne. lt)
            (λ i hi le e. let at : slice_index q i ≡ u = ap (slice_index q) e ∙ own in let free : m ≤ slice_index q i =
            between.priced.waiting i hi le in omega arith);
        tree = IsRooted-kept between.tree (set q v rider) (slice_index parent position + 1) (omega arith) (omega arith)
            (λ t lt. q_other (slice_index r t) (λ e. let same : t ≡ position = vehicles_differ between.tree t position (omega arith) (omega arith)
            (e ∙ sym ev) in omega arith));
        rider_within = within;
        position_within = omega arith;
        last_edge = rw eu at (between.tree.edge position pp (omega arith));
      }

module _ {n m : ℕ} {w : ℕ → ℕ → ℕ} {k : ℕ} {a b q p r c parent place : List ℕ} (priced : IsPriced n m w k (k + 1) m a b q p)
    (grown : IsGrown n m w k a b q r c parent place) where
  -- a rider that is free and tight can be taken by the vehicle that reached it
  pub IsOpen-free : {ta po : List ℕ} {lowered rider : ℕ} → IsReached m w a b r place ta po lowered → rider < m → slice_index place rider ≡ 0 →
      slice_index ta rider ≡ lowered → n ≤ slice_index p rider → IsOpen n m w k a b q p r c parent place rider (slice_index po rider)
  IsOpen-free {ta} {po} {lowered} {rider} reached hr out tight free = search rules

  -- the root stays unmatched at price 0
  pub IsPriced-root_left : slice_index a k ≡ 0 → IsPriced n m w (k + 1) (k + 1) m a b q p
  IsPriced-root_left zero_price = search rules

  module _ {position v u : ℕ} (ev : slice_index r position ≡ v) (eu : slice_index c position ≡ u) (pp : 0 < position) (hp : position < length r)
      (zero_price : slice_index a v ≡ 0) where
    rv_within : v < n
    rv_within = rw (← ev) (grown.tree.vehicle position hp)

    rv_rider : slice_index q v ≡ u
    rv_rider = rw (ev, eu) at (grown.tree.partner position pp hp)

    left_at : slice_index (set q v m) v ≡ m
    left_at = get_or-set_same q v m 0 (let e : length q ≡ n = priced.q_length in let h : v < n = rv_within in omega arith)

    left_other : (i : ℕ) → i ≢ v → slice_index (set q v m) i ≡ slice_index q i
    left_other i ne = get_or-set_other q v i m 0 ne

    -- a vehicle that is matched after the release is another, and was matched so before
    still : (i : ℕ) → slice_index (set q v m) i < m → i ≢ v
    still i h e = let is : slice_index (set q v m) i ≡ m = rw e left_at in omega arith

    pub IsOpen-released : IsOpen n m w k a b (set q v m) p r c parent place u (slice_index parent position)
    IsOpen-released = search (rules, slice_index, length-set, left_at, left_other, cases_eq, still, rv_rider, rv_within, IsRooted-kept, vehicles_differ)
