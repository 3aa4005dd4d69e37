use Rattle.std.proofs.Common.{◌≡◌, ℕ, ◌+◌, ◌<◌, ◌≤◌, ◌⊎◌, inl, inr, List, [], ◌∷◌, ◌++◌, length, take, refl, sym, ap, ◌∙◌, subst, arith, ⊎_elim, get_or, rules}
use Rattle.trip_graph.proofs.Common.{
  length-map,
  map_push,
  get_or-map,
  get_or_default,
  get_or_append_left,
  get_or_push,
  length_push,
  get_or_past,
  cases_lt,
  cases_order,
  All-push,
  All-nil,
  Contains-append_left,
  Contains-push,
  IsLower,
  ComesBefore,
  IsRising,
  trips_of,
  IsLevelRow,
  IsLevel,
  IsLevelUpTo,
  IsTripRule,
  TripOf,
}
use Rattle.std.specs.List.{Contains, remove}
use Rattle.std.proofs.lemmas.List.{append-nil, take_at, length-take-le}
use Rattle.trip_graph.proofs.lemmas.vehicle.TripOrder.{
  lower_irrefl,
  lower_trans,
  lower_asym,
  lower_append,
  lower_front,
  lower_back,
  lower_last,
  lower_longer,
  lower_raise,
  squeeze,
  front_and_last,
}

-- the trips of the size below, in order, with each that can be served
pub record AreBelow (Serves : List ℕ → Type 0) (size : ℕ) (ts : List (List ℕ)) : Type 0 where
  pub sizes : (i : ℕ) → i < length ts → length (get_or ts i []) ≡ size
  pub rising : IsRising ts
  pub whole : (t : List ℕ) → length t ≡ size → Serves t → Contains ts t

-- the riders of the row at a place
pub trip_at : (rows : List TripOf) (i : ℕ) (d : TripOf) → i < length rows → get_or (trips_of rows) i [] ≡ (get_or rows i d).riders.items
trip_at rows i d h = get_or-map (λ (r : TripOf). r.riders.items) rows i d [] h

pub same_size : (a b : List ℕ) → length a ≡ length b → ComesBefore a b → IsLower a b
same_size a b e (inl h) = absurd (omega arith)
same_size a b e (inr h) = h.1

lower_nil : (t : List ℕ) → IsLower t [] → ⊥
lower_nil [] h = h
lower_nil (x ∷ xs) h = h

pub lower_last_back : (q : List ℕ) (x z : ℕ) → IsLower (q ++ x ∷ []) (q ++ z ∷ []) → x < z
lower_last_back [] x z (inl h) = h
lower_last_back [] x z (inr h) = absurd h.1
lower_last_back (y ∷ ys) x z (inl h) = absurd (omega arith)
lower_last_back (y ∷ ys) x z (inr h) = lower_last_back ys x z h.1

remove_last : (p : List ℕ) (b : ℕ) → remove (p ++ b ∷ []) (length p) ≡ p
remove_last [] b = refl
remove_last (x ∷ xs) b = ap (λ (v : List ℕ). x ∷ v) (remove_last xs b)

remove_second_last : (q : List ℕ) (a e : ℕ) → remove ((q ++ a ∷ []) ++ e ∷ []) (length q) ≡ q ++ e ∷ []
remove_second_last [] a e = refl
remove_second_last (x ∷ xs) a e = ap (λ (v : List ℕ). x ∷ v) (remove_second_last xs a e)

-- a list of so many and one more begins with them
front_of : (t q : List ℕ) (x m : ℕ) → t ≡ q ++ x ∷ [] → length q ≡ m → take m t ≡ q
front_of t q x m is e = ap (λ (v : List ℕ). take m v) is ∙ take_at q (x ∷ []) m e

rising_push : (ts : List (List ℕ)) (t : List ℕ) → IsRising ts → ((i : ℕ) → i < length ts → ComesBefore (get_or ts i []) t) → IsRising (ts ++ t ∷ [])
rising_push ts t up low i j h k = search (rules, length_push, cases_lt, get_or_append_left, get_or_push)

module _ (Serves : List ℕ → Type 0) (size : ℕ) (ts : List (List ℕ)) (b : AreBelow Serves size ts) where
  pub lower_from_order : (i j : ℕ) → i < j → j < length ts → IsLower (get_or ts i []) (get_or ts j [])
  lower_from_order i j h k = search rules

  order_from_lower : (i j : ℕ) → i < length ts → j < length ts → IsLower (get_or ts i []) (get_or ts j []) → i < j
  order_from_lower i j h k low = search (rules, cases_order, lower_irrefl, lower_asym, lower_from_order)

  -- where a trip of this size stands
  place_of : (t : List ℕ) → length t ≡ size → Serves t → (i : ℕ) × (i < length ts) × (get_or ts i [] ≡ t)
  place_of t e s = let c = b.whole t e s in (c.0, c.1, get_or_default ts c.0 [] t c.1 ∙ c.2)

module _ (riders : ℕ) (Serves : List ℕ → Type 0) (Costs : List ℕ → ℕ → Type 0) (rule : IsTripRule riders Serves) where
  lower_top : (t : List ℕ) → Serves t → 0 < length t → IsLower t (riders ∷ [])
  lower_top [] s h = absurd (omega arith)
  lower_top (x ∷ xs) s h = inl (rule.within (x ∷ xs) s 0 h)

  -- the limit moves past no trip that can be served
  moved : (size : ℕ) (limit limit' : List ℕ) (rows : List TripOf)
      → ((t : List ℕ) → length t ≡ size → Serves t → IsLower t limit → IsLower t limit')
      → ((t : List ℕ) → length t ≡ size → Serves t → IsLower t limit' → IsLower t limit)
      → IsLevelUpTo Serves Costs size limit rows → IsLevelUpTo Serves Costs size limit' rows
  moved size limit limit' rows up down h = search rules

  -- the trip at the limit can be served: it goes to the end
  pub taken : (p : List ℕ) (b : ℕ) (rows : List TripOf) (row : TripOf)
      → row.riders.items ≡ p ++ b ∷ [] → IsLevelRow Serves Costs row
      → IsLevelUpTo Serves Costs (length p + 1) (p ++ b ∷ []) rows
      → IsLevelUpTo Serves Costs (length p + 1) (p ++ (b + 1) ∷ []) (rows ++ row ∷ [])
  taken p b rows row is good h =
      let f : TripOf → List ℕ = λ r. r.riders.items in
      let longer : length (p ++ b ∷ []) ≡ length p + 1 = length_push p b in
      record {
        right = All-push (IsLevelRow Serves Costs) rows row h.right good;
        sized = All-push (λ r. length r.riders.items ≡ length p + 1) rows row h.sized (ap length is ∙ longer);
        lower = All-push (λ r. IsLower r.riders.items (p ++ (b + 1) ∷ [])) rows row
            (λ k d lt. lower_raise p _ b (b + 1) (h.sized k d lt) (omega arith) (h.lower k d lt))
            (rw is (lower_last p b (b + 1) (omega arith)));
        rising = rw (map_push f rows row) (rising_push (trips_of rows) row.riders.items h.rising (λ i lt.
            let within : i < length rows = (let e = length-map rows f in omega arith) in
            rw (get_or-map f rows i row [] within) (subst (λ (v : List ℕ). ComesBefore (get_or rows i row).riders.items v) (sym is)
            (inr (h.sized i row within ∙ sym longer, h.lower i row within)))));
        whole = λ t e s low. rw (map_push f rows row) (elim (lower_back p t (b + 1) e low) as (λ _. Contains (trips_of rows ++ row.riders.items ∷ []) t) [
          | inl w ↦ Contains-append_left (trips_of rows) (row.riders.items ∷ []) t (h.whole t e s (lower_longer t p (b ∷ []) w))
          | inr w ↦ elim (cases_lt w.0 b) as (λ _. Contains (trips_of rows ++ row.riders.items ∷ []) t) [
            | inl lt ↦ Contains-append_left (trips_of rows) (row.riders.items ∷ []) t (h.whole t e s
                (subst (λ (v : List ℕ). IsLower v (p ++ b ∷ [])) (sym w.1) (lower_last p w.0 b lt)))
            | inr ge ↦
                let last : w.0 ≡ b = (let lt = w.2 in omega arith) in
                let same : t ≡ row.riders.items = w.1 ∙ ap (λ (v : ℕ). p ++ v ∷ []) last ∙ sym is in
                subst (λ (v : List ℕ). Contains (trips_of rows ++ row.riders.items ∷ []) v) (sym same) (Contains-push (trips_of rows) row.riders.items)
          ]
        ]);
      }

  -- the trip at the limit can't be served: the list stays
  pub passed : (p : List ℕ) (b : ℕ) (rows : List TripOf) → (Serves (p ++ b ∷ []) → ⊥)
      → IsLevelUpTo Serves Costs (length p + 1) (p ++ b ∷ []) rows
      → IsLevelUpTo Serves Costs (length p + 1) (p ++ (b + 1) ∷ []) rows
  passed p b rows never h = search (rules, moved, lower_raise, lower_back, lower_longer, cases_lt, lower_last)

  -- no trip of one rider is lower than 0
  pub first_begun : IsLevelUpTo Serves Costs 1 (0 ∷ []) []
  first_begun =
      record {
        right = All-nil (IsLevelRow Serves Costs);
        sized = All-nil (λ r. length r.riders.items ≡ 1);
        lower = All-nil (λ r. IsLower r.riders.items (0 ∷ []));
        rising = λ i j h k. absurd (omega arith);
        whole = λ t e s low. absurd (⊎_elim (λ w. lower_nil t w) (λ w. let lt = w.2 in omega arith) (lower_back [] t 0 e low));
      }

  -- where the limit is above every rider, the level is whole
  pub ended : (size : ℕ) (rows : List TripOf) → 0 < size → IsLevelUpTo Serves Costs size (riders ∷ []) rows → IsLevel Serves Costs size rows
  ended size rows pos h = search (rules, lower_top)

  module _ (m : ℕ) (ts : List (List ℕ)) (b : AreBelow Serves (m + 1) ts) where
    pub limit_within : (i : ℕ) → i < length ts → get_or ts i (riders ∷ []) ≡ get_or ts i []
    limit_within i h = get_or_default ts i (riders ∷ []) [] h

    -- the front of a trip that can be served stands in the list
    front_place : (t : List ℕ) → length t ≡ m + 2 → Serves t → (k : ℕ) × (e : ℕ) × (k < length ts) × (t ≡ get_or ts k [] ++ e ∷ [])
    front_place t e s =
        let is = front_and_last t (m + 1) (omega arith) in
        let short : length (take (m + 1) t) ≡ m + 1 = length-take-le (m + 1) t (omega arith) in
        let whole : Serves (take (m + 1) t ++ get_or t (m + 1) 0 ∷ []) = subst Serves is s in
        let front = rule.without (take (m + 1) t ++ get_or t (m + 1) 0 ∷ []) (length (take (m + 1) t)) whole
        (omega (arith, length_push (take (m + 1) t) (get_or t (m + 1) 0))) in
        let at = place_of Serves (m + 1) ts b (take (m + 1) t) short (subst Serves (remove_last (take (m + 1) t) (get_or t (m + 1) 0)) front) in
        (at.0, get_or t (m + 1) 0, at.1, is ∙ ap (λ (v : List ℕ). v ++ get_or t (m + 1) 0 ∷ []) (sym at.2))

    sibling_serves : (q : List ℕ) (a e : ℕ) → Serves ((q ++ a ∷ []) ++ e ∷ []) → Serves (q ++ e ∷ [])
    sibling_serves q a e s =
        let n = length_push (q ++ a ∷ []) e in let n' = length_push q a in
        subst Serves (remove_second_last q a e) (rule.without ((q ++ a ∷ []) ++ e ∷ []) (length q) s (omega arith))

    -- before the first row nothing is found
    pub begun : IsLevelUpTo Serves Costs (m + 2) (get_or ts 0 (riders ∷ [])) []
    begun =
        record {
          right = All-nil (IsLevelRow Serves Costs);
          sized = All-nil (λ r. length r.riders.items ≡ m + 2);
          lower = All-nil (λ r. IsLower r.riders.items (get_or ts 0 (riders ∷ [])));
          rising = λ i j h k. absurd (omega arith);
          whole = λ t e s low. absurd (
              let f = front_place t e s in
              let pos : 0 < length ts = (let lt = f.2 in omega arith) in
              let low' : IsLower (get_or ts f.0 [] ++ f.1 ∷ []) (get_or ts 0 []) = rw (sym f.3, sym (limit_within 0 pos)) low in
              let short : length (get_or ts 0 []) ≤ length (get_or ts f.0 []) = omega (arith, b.sizes 0 pos, b.sizes f.0 f.2) in
              let k = order_from_lower Serves (m + 1) ts b f.0 0 f.2 pos (lower_front _ _ (f.1 ∷ []) short low') in
              omega arith);
        }

    -- a row has no trip with a rider up to its own last
    pub opened : (q : List ℕ) (a : ℕ) (rows : List TripOf) → length q ≡ m
        → IsLevelUpTo Serves Costs (m + 2) (q ++ a ∷ []) rows
        → IsLevelUpTo Serves Costs (m + 2) ((q ++ a ∷ []) ++ (a + 1) ∷ []) rows
    opened q a rows e h = search (rules, length_push, moved, lower_longer, lower_back)

    -- from one sibling to the next there is no trip that can be served
    pub advanced : (q : List ℕ) (a j x z : ℕ) (rows : List TripOf) → length q ≡ m → j + 1 < length ts
        → get_or ts j [] ≡ q ++ x ∷ [] → get_or ts (j + 1) [] ≡ q ++ z ∷ []
        → IsLevelUpTo Serves Costs (m + 2) ((q ++ a ∷ []) ++ (x + 1) ∷ []) rows
        → IsLevelUpTo Serves Costs (m + 2) ((q ++ a ∷ []) ++ z ∷ []) rows
    advanced q a j x z rows e h here next level =
        let n = length_push q a in
        let up : IsLower (q ++ x ∷ []) (q ++ z ∷ []) = rw (sym here, sym next) (lower_from_order Serves (m + 1) ts b j (j + 1) (omega arith) h) in
        let rises = lower_last_back q x z up in
        moved (m + 2) ((q ++ a ∷ []) ++ (x + 1) ∷ []) ((q ++ a ∷ []) ++ z ∷ []) rows
        (λ t l s low. lower_raise (q ++ a ∷ []) t (x + 1) z (omega arith) (omega arith) low)
        (λ t l s low. elim (lower_back (q ++ a ∷ []) t z (omega arith) low) as (λ _. IsLower t ((q ++ a ∷ []) ++ (x + 1) ∷ [])) [
          | inl w ↦ lower_longer t (q ++ a ∷ []) ((x + 1) ∷ []) w
          | inr w ↦ elim (cases_lt w.0 (x + 1)) as (λ _. IsLower t ((q ++ a ∷ []) ++ (x + 1) ∷ [])) [
            | inl lt ↦ subst (λ (v : List ℕ). IsLower v ((q ++ a ∷ []) ++ (x + 1) ∷ [])) (sym w.1) (lower_last (q ++ a ∷ []) w.0 (x + 1) lt)
            | inr ge ↦ absurd (
                let sibling = sibling_serves q a w.0 (subst Serves w.1 s) in
                let at = place_of Serves (m + 1) ts b (q ++ w.0 ∷ []) (omega (arith, length_push q w.0)) sibling in
                let above : x < w.0 = omega arith in
                let after = order_from_lower Serves (m + 1) ts b j at.0 (omega arith) at.1 (rw (here, at.2) (lower_last q x w.0 above)) in
                let before = order_from_lower Serves (m + 1) ts b at.0 (j + 1) at.1 h (rw (at.2, next) (lower_last q w.0 z w.2)) in
                omega arith)
          ]
        ])
        level

    -- after the last sibling no trip has a greater last rider
    after_last : (q : List ℕ) (a j x d : ℕ) → length q ≡ m → j < length ts → get_or ts j [] ≡ q ++ x ∷ []
        → (j + 1 < length ts → take m (get_or ts (j + 1) []) ≡ q → ⊥) → x < d → Serves ((q ++ a ∷ []) ++ d ∷ []) → ⊥
    after_last q a j x d e jn at_j stop above s =
        let at = place_of Serves (m + 1) ts b (q ++ d ∷ []) (omega (arith, length_push q d)) (sibling_serves q a d s) in
        let after = order_from_lower Serves (m + 1) ts b j at.0 jn at.1 (rw (at_j, at.2) (lower_last q x d above)) in
        let room : j + 1 < length ts = (let lt = at.1 in omega arith) in
        let first : IsLower (q ++ x ∷ []) (get_or ts (j + 1) []) = rw (sym at_j) (lower_from_order Serves (m + 1) ts b j (j + 1) (omega arith) room) in
        let upto : IsLower (get_or ts (j + 1) []) (q ++ d ∷ []) ⊎ (get_or ts (j + 1) [] ≡ q ++ d ∷ []) =
        elim (cases_lt (j + 1) at.0) as (λ _. IsLower (get_or ts (j + 1) []) (q ++ d ∷ []) ⊎ (get_or ts (j + 1) [] ≡ q ++ d ∷ [])) [
          | inl lt ↦ inl (rw (sym at.2) (lower_from_order Serves (m + 1) ts b (j + 1) at.0 lt at.1))
          | inr ge ↦ inr (let same : j + 1 ≡ at.0 = omega arith in subst (λ (v : ℕ). get_or ts v [] ≡ q ++ d ∷ []) (sym same) at.2)
        ] in
        let w = squeeze q (get_or ts (j + 1) []) x d (omega (arith, b.sizes (j + 1) room)) first upto in
        stop room (front_of (get_or ts (j + 1) []) q w.0 m w.1 e)

    -- after the last sibling no trip of this row can be served
    pub closed : (i : ℕ) (q : List ℕ) (a j x : ℕ) (rows : List TripOf) → length q ≡ m → i ≤ j → j < length ts
        → get_or ts i [] ≡ q ++ a ∷ [] → get_or ts j [] ≡ q ++ x ∷ []
        → (j + 1 < length ts → take m (get_or ts (j + 1) []) ≡ q → ⊥)
        → IsLevelUpTo Serves Costs (m + 2) ((q ++ a ∷ []) ++ (x + 1) ∷ []) rows
        → IsLevelUpTo Serves Costs (m + 2) (get_or ts (i + 1) (riders ∷ [])) rows
    closed i q a j x rows e ij jn at_i at_j stop level =
        let n = length_push q a in
        let p : List ℕ = q ++ a ∷ [] in
        moved (m + 2) (p ++ (x + 1) ∷ []) (get_or ts (i + 1) (riders ∷ [])) rows
        (λ t l s low. elim (cases_lt (i + 1) (length ts)) as (λ _. IsLower t (get_or ts (i + 1) (riders ∷ []))) [
          | inr ge ↦ rw (get_or_past ts (i + 1) (riders ∷ []) ge) (lower_top t s (omega arith))
          | inl lt ↦
              let next : IsLower p (get_or ts (i + 1) []) = rw (sym at_i) (lower_from_order Serves (m + 1) ts b i (i + 1) (omega arith) lt) in
              rw (limit_within (i + 1) lt) (⊎_elim (λ w. lower_trans t p _ w next)
              (λ w. rw w.1 (rw append-nil at (lower_append p (get_or ts (i + 1) []) (w.0 ∷ []) [] next))) (lower_back p t (x + 1) (omega arith) low))
        ])
        (λ t l s low.
        let f = front_place t l s in
        let upto : f.0 < i + 1 = elim (cases_lt (i + 1) (length ts)) as (λ _. f.0 < i + 1) [
          | inr ge ↦ (let lt = f.2 in omega arith)
          | inl lt ↦
              let low' : IsLower (get_or ts f.0 [] ++ f.1 ∷ []) (get_or ts (i + 1) []) = rw (sym f.3, sym (limit_within (i + 1) lt)) low in
              order_from_lower Serves (m + 1) ts b f.0 (i + 1) f.2 lt (lower_front _ _ (f.1 ∷ []) (omega (arith, b.sizes (i + 1) lt, b.sizes f.0 f.2)) low')
        ] in
        rw f.3 (elim (cases_lt f.0 i) as (λ _. IsLower (get_or ts f.0 [] ++ f.1 ∷ []) (p ++ (x + 1) ∷ [])) [
          | inl lt ↦ lower_append (get_or ts f.0 []) p (f.1 ∷ []) ((x + 1) ∷ []) (rw (sym at_i) (lower_from_order Serves (m + 1) ts b f.0 i lt (omega arith)))
          | inr ge ↦
              let here : f.0 ≡ i = omega arith in
              let front : get_or ts f.0 [] ≡ p = ap (λ (v : ℕ). get_or ts v []) here ∙ at_i in
              rw front (elim (cases_lt f.1 (x + 1)) as (λ _. IsLower (p ++ f.1 ∷ []) (p ++ (x + 1) ∷ [])) [
                | inl less ↦ lower_last p f.1 (x + 1) less
                | inr more ↦ absurd (after_last q a j x f.1 e jn at_j stop (omega arith) (subst Serves (f.3 ∙ ap (λ (v : List ℕ). v ++ f.1 ∷ []) front) s))
              ])
        ]))
        level
