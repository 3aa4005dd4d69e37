-- Moves, read as pairs of places, and matchings that grow.
use Rattle.std.proofs.Common.{
  ◌≡◌,
  ◌↔◌,
  ℕ,
  suc,
  ◌+◌,
  ◌-◌,
  ◌<◌,
  ◌≤◌,
  List,
  [],
  ◌∷◌,
  ◌++◌,
  length,
  get_or,
  map,
  sum_by,
  fold,
  All,
  AllPairs,
  refl,
  sym,
  ap,
  ◌∙◌,
  subst,
  arith,
  rules,
}
use Rattle.report_audit.proofs.Common.{
  get_or_default,
  get_or_push,
  get_or_append_left,
  length_push,
  length-map,
  get_or-map,
  All-push,
  IsBestMatching,
  pair_seconds,
  MoveLine,
  Settled,
  vehicle_at,
  AreMoves,
  move_line,
  starts_of,
  origins_of,
  pairs_within,
  HaveOwnPlaces,
  CanPrecede,
  IsPairWithin,
  TellsMoves,
  no_move,
  no_rider,
  rider_at,
  vehicle_read,
  SettledRider,
  SettledVehicle,
}
use Rattle.std.proofs.lemmas.List.{ext_get_or}
use Rattle.std.proofs.lemmas.List.Quantifiers.{all_pairs_push}
use borrow.Author.Count.{below_more}
use Rattle.pool_base.specs.TravelTime.{never}

-- rising numbers below a number are no more than it
pub rising_short : (n m : ℕ) (ps : List (ℕ × ℕ)) → AllPairs (λ (p q : ℕ × ℕ). p.0 < q.0) ps → All (λ (p : ℕ × ℕ). (m ≤ p.0) × (p.0 < n)) ps → length ps ≤ n - m
rising_short n m [] up all = omega arith
rising_short n m (p ∷ ps) up all =
    let first = all 0 p (omega arith) in
    let rest = rising_short n (p.0 + 1) ps (λ i j d less within. up (suc i) (suc j) d (omega arith) (omega arith))
    (λ k d within. let low : p.0 < (get_or ps k d).0 = up 0 (suc k) d (omega arith) (omega arith) in let high =
    all (suc k) d (omega arith) in (omega (arith, low), high.1)) in
    omega (arith, rest, first.0, first.1)

sum_mapped : {X Y : Type 0} (f : Y → ℕ) (g : X → Y) (n : ℕ) (xs : List X) → fold (λ a y. a + f y) n (map g xs) ≡ fold (λ a x. a + f (g x)) n xs
sum_mapped f g n [] = refl
sum_mapped f g n (x ∷ xs) = sum_mapped f g (n + f (g x)) xs

module _ (points : ℕ) (tau : ℕ → ℕ → ℕ) (settled : Settled) (idle left : List ℕ) (moves : List MoveLine) (own : HaveOwnPlaces points settled idle left) where
  abbrev Tells : ℕ → List (ℕ × ℕ) → Type 0
  Tells count pairs = TellsMoves tau settled idle left moves count pairs

  -- a move tells of one pair
  same_pair : (p q : ℕ × ℕ) → IsPairWithin (length idle) (length left) p → IsPairWithin (length idle) (length left) q →
      move_line tau settled idle left p ≡ move_line tau settled idle left q → p ≡ q
  same_pair p q a b e = search rules

  -- the seconds of a pair, read from the lists of vehicles and riders
  pub seconds_read : (vehicles : List SettledVehicle) (riders : List SettledRider) (one : SettledVehicle) (other : SettledRider) → vehicles ≡ settled.vehicles →
      riders ≡ settled.riders → (pair : ℕ × ℕ)
      → IsPairWithin (length idle) (length left) pair → tau (get_or vehicles (get_or idle pair.0 0) one).start
      (get_or riders (get_or left pair.1 0) other).leg.origin ≡ pair_seconds tau (starts_of settled idle) (origins_of settled left) pair
  seconds_read vehicles riders one other e f pair within = rw (
    vehicle_read settled vehicles (get_or idle pair.0 0) one e (own.vehicles pair.0 0 within.0),
    ap (λ (list : List SettledRider). get_or list (get_or left pair.1 0) other) f ∙ get_or_default settled.riders (get_or left pair.1 0) other no_rider
        (own.riders pair.1 0 within.1),
    get_or-map (λ (v : ℕ). (vehicle_at settled v).start) idle pair.0 0 0 within.0,
    get_or-map (λ (r : ℕ). (rider_at settled r).leg.origin) left pair.1 0 0 within.1,
  ) refl

  within_at : (count : ℕ) (pairs : List (ℕ × ℕ)) → Tells count pairs → (k : ℕ) → k < count → IsPairWithin (length idle) (length left) (get_or pairs k (0, 0))
  within_at count pairs tells k h = pairs_within tau settled idle left pairs tells.matching k (0, 0) (let n = tells.sized in omega (arith, n, h))

  read_at : (n m : ℕ) (pairs others : List (ℕ × ℕ)) → Tells n pairs → Tells m others → (k : ℕ) → k < n → k < m → get_or pairs k (0, 0) ≡ get_or others k (0, 0)
  read_at n m pairs others tells also k a b = same_pair _ _ (within_at n pairs tells k a) (within_at m others also k b) (sym (tells.told k a) ∙ also.told k b)

  -- one more move is read
  pub tells_next : (k : ℕ) (step : MoveLine) → k < length moves → step ≡ get_or moves k step → (pairs : List (ℕ × ℕ)) (pair : ℕ × ℕ) → Tells k pairs →
      IsPairWithin (length idle) (length left) pair
      → step ≡ move_line tau settled idle left pair → step.seconds < never → All (CanPrecede pair) pairs → Tells (k + 1) (pairs ++ pair ∷ [])
  tells_next k step h is pairs pair tells within told reachable follows = search (
    rules,
    length-map,
    All-push,
    all_pairs_push,
    length_push,
    below_more,
    get_or_append_left,
    get_or_default,
    get_or_push,
  )

  -- what moves that tell a matching have at the next place
  module _ (k : ℕ) (step : MoveLine) (low : k < length moves) (is : step ≡ get_or moves k step) (all : List (ℕ × ℕ)) (tells : Tells (length moves) all) where
    pub told_here : IsPairWithin (length idle) (length left) (get_or all k (0, 0)) × (step ≡ move_line tau settled idle left (get_or all k (0, 0)))
    told_here = (within_at (length moves) all tells k low, is ∙ get_or_default moves k step no_move low ∙ tells.told k low)

    pub is_reached : step.seconds < never
    is_reached = subst (λ (s : MoveLine). s.seconds < never) (sym told_here.1) (tells.matching.reachable k (0, 0)
        (let n = tells.sized in omega (arith, n, low)))

    pub follows_on : (pairs : List (ℕ × ℕ)) (pair : ℕ × ℕ) → Tells k pairs → IsPairWithin (length idle) (length left) pair →
        step ≡ move_line tau settled idle left pair → All (CanPrecede pair) pairs
    follows_on pairs pair so_far within told i d l =
        let before : i < k = (let n = so_far.sized in omega (arith, n, l)) in
        let long = tells.sized in
        let here : pair ≡ get_or all k (0, 0) = same_pair pair (get_or all k (0, 0)) within told_here.0 (sym told ∙ told_here.1) in
        let there : get_or pairs i d ≡ get_or all i (0, 0) = get_or_default pairs i d (0, 0) l ∙
        read_at k (length moves) pairs all so_far tells i before (omega (arith, before, low)) in
        let less = tells.rising i k (0, 0) before (omega (arith, long, low)) in
        let other = tells.matching.once_to i k (0, 0) before (omega (arith, long, low)) in
        rw (here, there) (less, other)

  -- best moves tell of their pairs
  pub moves_tell : (are : AreMoves tau settled idle left moves) → Tells (length moves) are.pairs
  moves_tell are = search (rules, length-map, get_or-map)

  module _ (pairs : List (ℕ × ℕ)) (tells : Tells (length moves) pairs) where
    all_told : moves ≡ map (move_line tau settled idle left) pairs
    all_told =
        let sized = tells.sized in
        ext_get_or no_move moves (map (move_line tau settled idle left) pairs) (sym (length-map pairs (move_line tau settled idle left) ∙ sized))
        (λ k h. tells.told k h ∙ sym (get_or-map (move_line tau settled idle left) pairs k (0, 0) no_move (omega (arith, sized, h))))

    -- moves that tell these pairs are best where these are as good as a best matching
    pub moves_best : (best : List (ℕ × ℕ)) → IsBestMatching tau (starts_of settled idle) (origins_of settled left) best
        → AreMoves tau settled idle left moves ↔
        ((length pairs ≡ length best) × (sum_by (λ (m : MoveLine). m.seconds) moves ≡ sum_by
        (pair_seconds tau (starts_of settled idle) (origins_of settled left)) best))
    moves_best best is =
        let seconds : sum_by (λ (m : MoveLine). m.seconds) moves ≡ sum_by (pair_seconds tau (starts_of settled idle) (origins_of settled left)) pairs =
        ap (sum_by (λ (m : MoveLine). m.seconds)) all_told ∙ sum_mapped (λ (m : MoveLine). m.seconds) (move_line tau settled idle left) 0 pairs in (
          λ are.
              let also = moves_tell are in let long = also.sized in let sized = tells.sized in
              let same : are.pairs ≡ pairs = ext_get_or (0, 0) are.pairs pairs (long ∙ sym sized)
              (λ k h. read_at (length moves) (length moves) are.pairs pairs also tells k (omega (arith, long, h)) (omega (arith, long, h))) in
              let good = are.best in
              let most = good.most_pairs best is.matching in let other = is.most_pairs are.pairs good.matching in
              let long_best : length are.pairs ≡ length best = omega (arith, most, other) in
              let one = good.least_total best is.matching (sym long_best) in let two = is.least_total are.pairs good.matching long_best in
              let total : sum_by (pair_seconds tau (starts_of settled idle) (origins_of settled left)) are.pairs ≡ sum_by
              (pair_seconds tau (starts_of settled idle) (origins_of settled left)) best = omega (arith, one, two) in
              (rw (← same) long_best, seconds ∙ rw (← same) total),
          λ alike. record { pairs = pairs; best = as_good alike.0 (sym seconds ∙ alike.1); rising = tells.rising; told = all_told },
        )
      where
        as_good : length pairs ≡ length best → sum_by (pair_seconds tau (starts_of settled idle) (origins_of settled left)) pairs ≡ sum_by
            (pair_seconds tau (starts_of settled idle) (origins_of settled left)) best
            → IsBestMatching tau (starts_of settled idle) (origins_of settled left) pairs
        as_good long total = let matching = tells.matching in search rules

    pub few_told : length idle ≤ 500 → length moves ≤ 500
    few_told few =
        let starts = length-map idle (λ (v : ℕ). (vehicle_at settled v).start) in let sized = tells.sized in
        let short = rising_short (length (starts_of settled idle)) 0 pairs tells.rising (λ k d h. (omega arith, (tells.matching.within k d h).0)) in
        omega (arith, short, starts, sized, few)
