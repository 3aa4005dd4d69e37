use Rattle.std.proofs.Common.{
  ◌≡◌,
  ◌≢◌,
  ℕ,
  ◌+◌,
  ◌*◌,
  ◌<◌,
  ◌≤◌,
  ◌⊎◌,
  List,
  [],
  ◌∷◌,
  ◌++◌,
  length,
  slice_index,
  set,
  replicate,
  refl,
  sym,
  ap,
  ◌∙◌,
  inl,
  inr,
  ⊎_elim,
  arith,
  rules,
}
use Rattle.rebalancing.proofs.Common.{
  cases_eq,
  cases_lt,
  get_or_append_left,
  get_or_push,
  length_push,
  get_or-replicate,
  length-replicate,
  pair_worth,
  IsPriced,
  Relaxes,
  IsGrown,
  IsReached,
  IsCheapest,
}
use Rattle.std.proofs.lemmas.List.{length-set, get_or-set_same, get_or-set_other}

-- no rider's price is above a pair's worth
pub b_most : {n m : ℕ} {w : ℕ → ℕ → ℕ} {done next : ℕ} {a b q p : List ℕ} → IsPriced n m w done next m a b q p → (j : ℕ) → j < m → slice_index b j ≤ pair_worth
b_most {n} {m} {w} {done} {next} {a} {b} {q} {p} priced j hj = search rules

module _ {n m : ℕ} {w : ℕ → ℕ → ℕ} {k : ℕ} {a b q p : List ℕ} (priced : IsPriced n m w k k m a b q p) (hk : k < n) where
  -- a tree of the root alone
  pub IsGrown-root : IsGrown n m w k a b q (k ∷ []) (m ∷ []) (0 ∷ []) (replicate m 0)
  IsGrown-root = search (rules, length-replicate, get_or-replicate, slice_index)

  -- every rider is tight with the root first
  pub IsReached-root : {row place ta po ta' po' : List ℕ} {huge : ℕ} → length row ≡ m → length ta ≡ m → length po ≡ m →
      ((j : ℕ) → j < m → slice_index row j ≡ w k j) → ((j : ℕ) → j < m → slice_index ta j ≡ huge) → 2 * pair_worth < huge
      → Relaxes row b place (slice_index a k) 0 ta po ta' po' → IsReached m w a b (k ∷ []) place ta' po' 0
  IsReached-root {row} {place} {ta} {po} {ta'} {po'} {huge} row_length ta_length po_length weights far large relaxes = search rules

  pub IsCheapest-root : IsCheapest k a (k ∷ []) 0 0
  IsCheapest-root = search rules

module _ {n m : ℕ} {w : ℕ → ℕ → ℕ} {k : ℕ} {a b q p r c parent place ta po : List ℕ} {lowered cheapest j v : ℕ}
    (priced : IsPriced n m w k (k + 1) m a b q p) (grown : IsGrown n m w k a b q r c parent place) (reached : IsReached m w a b r place ta po lowered)
    (cheap : IsCheapest k a r cheapest lowered)
    (hj : j < m) (out : slice_index place j ≡ 0) (tight : slice_index ta j ≡ lowered) (matched : slice_index p j < n) (ev : slice_index p j ≡ v) where
  v_within : v < n
  v_within = rw (← ev) matched

  r_old : (t : ℕ) → t < length r → slice_index (r ++ v ∷ []) t ≡ slice_index r t
  r_old t h = get_or_append_left r (v ∷ []) 0 t h

  r_new : slice_index (r ++ v ∷ []) (length r) ≡ v
  r_new = get_or_push r v 0 (length r) refl

  c_old : (t : ℕ) → t < length r → slice_index (c ++ j ∷ []) t ≡ slice_index c t
  c_old t h = get_or_append_left c (j ∷ []) 0 t (rw grown.tree.c_length h)

  c_new : slice_index (c ++ j ∷ []) (length r) ≡ j
  c_new = get_or_push c j 0 (length r) grown.tree.c_length

  parent_old : (t : ℕ) → t < length r → slice_index (parent ++ slice_index po j ∷ []) t ≡ slice_index parent t
  parent_old t h = get_or_append_left parent (slice_index po j ∷ []) 0 t (rw grown.tree.parent_length h)

  parent_new : slice_index (parent ++ slice_index po j ∷ []) (length r) ≡ slice_index po j
  parent_new = get_or_push parent (slice_index po j) 0 (length r) grown.tree.parent_length

  -- the positions of the larger tree are the old ones and one more
  positions : (t : ℕ) → t < length (r ++ v ∷ []) → (t < length r) ⊎ (t ≡ length r)
  positions t h = ⊎_elim (λ (lt : t < length r). inl lt) (λ (le : length r ≤ t). inr (omega (arith, length_push r v))) (cases_lt t (length r))

  place_new : slice_index (set place j (length r)) j ≡ length r
  place_new = get_or-set_same place j (length r) 0 (rw grown.place_length hj)

  place_other : (i : ℕ) → i ≢ j → slice_index (set place j (length r)) i ≡ slice_index place i
  place_other i ne = get_or-set_other place j i (length r) 0 ne

  -- a rider outside the larger tree is outside the old one
  outside : (i : ℕ) → slice_index (set place j (length r)) i ≡ 0 → slice_index place i ≡ 0
  outside i h = ⊎_elim (λ (e : i ≡ j). rw e out) (λ (ne : i ≢ j). sym (place_other i ne) ∙ h) (cases_eq i j)

  pub IsGrown-more : IsGrown n m w k a b q (r ++ v ∷ []) (c ++ j ∷ []) (parent ++ slice_index po j ∷ []) (set place j (length r))
  IsGrown-more = record {
    tree = record {
      root = r_old 0 grown.rooted ∙ grown.tree.root;
      root_free = grown.tree.root_free;
      c_length = let e : length c ≡ length r = grown.tree.c_length in omega (arith, length_push r v, length_push c j);
      parent_length = let e : length parent ≡ length r = grown.tree.parent_length in omega (arith, length_push r v, length_push parent (slice_index po j));
      vehicle = λ t ht. ⊎_elim (λ (lt : t < length r). rw (r_old t lt) (grown.tree.vehicle t lt)) (λ (e : t ≡ length r). rw (e, r_new) v_within)
          (positions t ht);
      rider = λ t pt ht. ⊎_elim (λ (lt : t < length r). rw (c_old t lt) (grown.tree.rider t pt lt)) (λ (e : t ≡ length r). rw (e, c_new) hj) (positions t ht);
      partner = λ t pt ht. ⊎_elim (λ (lt : t < length r). rw (r_old t lt, c_old t lt) (grown.tree.partner t pt lt))
          (λ (e : t ≡ length r). rw (e, r_new, c_new) (rw ev at (priced.back j hj (λ e. omega arith) matched))) (positions t ht);
      earlier = λ t pt ht. ⊎_elim (λ (lt : t < length r). rw (parent_old t lt) (grown.tree.earlier t pt lt))
          (λ (e : t ≡ length r). rw (e, parent_new) (reached.of_within j hj out)) (positions t ht);
      edge = λ t pt ht. ⊎_elim
          (λ (lt : t < length r).
          let before : slice_index parent t < length r = let h : slice_index parent t < t = grown.tree.earlier t pt lt in omega arith in
          rw (parent_old t lt, r_old (slice_index parent t) before, c_old t lt) (grown.tree.edge t pt lt))
          (λ (e : t ≡ length r).
          let before : slice_index po j < length r = reached.of_within j hj out in
          rw (e, parent_new, r_old (slice_index po j) before, c_new) (omega (arith, reached.exactly j hj out)))
          (positions t ht);
      placed = λ t pt ht. ⊎_elim
          (λ (lt : t < length r).
          let at : slice_index place (slice_index c t) ≡ t = grown.tree.placed t pt lt in
          let other : slice_index c t ≢ j = λ e. let same : slice_index place (slice_index c t) ≡ slice_index place j =
          ap (slice_index place) e in omega arith in
          rw (c_old t lt) (place_other (slice_index c t) other ∙ at))
          (λ (e : t ≡ length r). rw (e, c_new) place_new)
          (positions t ht);
    };
    rooted = omega (arith, length_push r v);
    place_length = length-set place j (length r) ∙ grown.place_length;
    place_most = λ i hi. ⊎_elim
        (λ (e : i ≡ j). rw (e, place_new) (omega (arith, length_push r v)))
        (λ (ne : i ≢ j). let is : slice_index (set place j (length r)) i ≡ slice_index place i = place_other i ne in let h : slice_index place i < length r =
        grown.place_most i hi in omega (arith, length_push r v))
        (cases_eq i j);
    found = λ i hi pp. ⊎_elim
        (λ (e : i ≡ j). rw (e, place_new) c_new)
        (λ (ne : i ≢ j).
        let is : slice_index (set place j (length r)) i ≡ slice_index place i = place_other i ne in
        rw (is, c_old (slice_index place i) (grown.place_most i hi)) (grown.found i hi (rw is at pp)))
        (cases_eq i j);
  }

  pub IsReached-more : {row ta' po' : List ℕ} → length row ≡ m → ((i : ℕ) → i < m → slice_index row i ≡ w v i) →
      Relaxes row b (set place j (length r)) (slice_index a v + lowered) (length r) ta po ta' po'
      → IsReached m w a b (r ++ v ∷ []) (set place j (length r)) ta' po' lowered
  IsReached-more {row} {ta'} {po'} row_length weights relaxes =
      let near : (i : ℕ) → i < m → slice_index (set place j (length r)) i ≡ 0 → w v i + slice_index ta' i ≤ slice_index a v + lowered + slice_index b i =
      λ i hi away. rw (weights i hi) at (relaxes.bounded i (rw row_length hi) away) in
      record {
        tight_length = relaxes.tight_length ∙ reached.tight_length;
        of_length = relaxes.parent_length ∙ reached.of_length;
        not_past = λ i hi away. ⊎_elim
            (λ (new : (slice_index row i + slice_index ta' i ≡ slice_index a v + lowered + slice_index b i) × (slice_index po' i ≡ length r)).
            omega (arith, new.0, priced.prices.covers v i v_within hi, weights i hi))
            (λ old. rw old.0 (reached.not_past i hi (outside i away)))
            (relaxes.from i (rw row_length hi) away);
        of_within = λ i hi away. ⊎_elim
            (λ new. rw new.1 (omega (arith, length_push r v)))
            (λ old. rw old.1 (let h : slice_index po i < length r = reached.of_within i hi (outside i away) in omega (arith, length_push r v)))
            (relaxes.from i (rw row_length hi) away);
        no_earlier = λ i t hi away ht. ⊎_elim
            (λ (lt : t < length r). rw (r_old t lt) (omega (arith, relaxes.no_later i (rw row_length hi) away, reached.no_earlier i t hi (outside i away) lt)))
            (λ (e : t ≡ length r). let here : w v i + slice_index ta' i ≤ slice_index a v + lowered + slice_index b i =
            near i hi away in rw (e, r_new) (omega arith))
            (positions t ht);
        exactly = λ i hi away. ⊎_elim
            (λ (new : (slice_index row i + slice_index ta' i ≡ slice_index a v + lowered + slice_index b i) × (slice_index po' i ≡ length r)).
            rw (new.1, r_new) (omega (arith, new.0, weights i hi)))
            (λ (old : (slice_index ta' i ≡ slice_index ta i) × (slice_index po' i ≡ slice_index po i)).
            let h : slice_index po i < length r = reached.of_within i hi (outside i away) in
            rw (old.0, old.1, r_old (slice_index po i) h) (reached.exactly i hi (outside i away)))
            (relaxes.from i (rw row_length hi) away);
      }

  -- the new vehicle is the cheapest, or the old one stays so
  pub IsCheapest-new : slice_index a v < slice_index a (slice_index r cheapest) → IsCheapest k a (r ++ v ∷ []) (length r) lowered
  IsCheapest-new less = search (rules, length_push, r_new, slice_index, r_old, positions)

  pub IsCheapest-old : slice_index a (slice_index r cheapest) ≤ slice_index a v → IsCheapest k a (r ++ v ∷ []) cheapest lowered
  IsCheapest-old le = search (rules, length_push, r_old, r_new, positions)

  -- the prices and the fall fit
  pub offset_fits : (i : ℕ) → i < m → slice_index a v + lowered + slice_index b i < 2000000000000
  offset_fits i hi = search rules
