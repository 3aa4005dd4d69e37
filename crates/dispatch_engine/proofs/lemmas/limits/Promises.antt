use Rattle.std.proofs.lemmas.Bool.Decides.{nat_tests}
use Rattle.std.proofs.Common.{
  rules,
  ◌≡◌,
  ℕ,
  zero,
  suc,
  ◌+◌,
  ◌<◌,
  ◌≤◌,
  ◌⊎◌,
  inl,
  inr,
  List,
  [],
  ◌∷◌,
  ◌++◌,
  length,
  take,
  get_or,
  set,
  refl,
  sym,
  ap,
  ◌∙◌,
  subst,
  arith,
  Bool,
  true,
  false,
  cond,
  ⊎_elim,
  Some,
}
use Rattle.dispatch_engine.proofs.Common.{
  range_with_len,
  IsStrictlyIncreasing,
  cases_lt,
  cases_eq,
  length_push,
  get_or_append_left,
  get_or_push,
  take_more,
  get_or_default,
  Contains-append_left,
  Contains-push,
  Contains-push_cases,
  filter-append,
  All-filter,
  All-from_get_or,
  Rider,
  SettledRider,
  SettledVehicle,
  no_rider,
  no_vehicle,
  IsTrip,
  request_at,
  no_request,
  promised_to,
  kept_rider,
  AreKept,
  IsHeld,
}
use Rattle.std.specs.List.{All, Contains, filter, slice_get}
use Rattle.std.proofs.lemmas.List.{length-append, length-set, get_or-set_same, get_or-set_other, map-id, append-nil, take-append-drop}
use Rattle.std.proofs.lemmas.Bool.{cond_both}
use Rattle.std.proofs.lemmas.List.FromFn.{filter_of_map_range_with_len_more, length-range_with_len, get_or-range_with_len, take-map-range_with_len}
use Rattle.std.proofs.lemmas.List.Kept.{AllPairs-from_increasing, IsStrictlyIncreasing-filter}

-- at a number below the length stands something
pub some_at : {X : Type 0} (xs : List X) (k : ℕ) → k < length xs → (x : X) × (slice_get xs k ≡ Some x)
some_at [] k h = absurd (omega arith)
some_at (x ∷ xs) zero h = (x, refl)
some_at (x ∷ xs) (suc k) h = some_at xs k (omega arith)

-- in a rising list no number stands twice
pub rising_once : (xs : List ℕ) → IsStrictlyIncreasing xs → (i j : ℕ) → i < length xs → j < length xs → get_or xs i 0 ≡ get_or xs j 0 → i ≡ j
rising_once xs up i j hi hj e = search (rules, AllPairs-from_increasing)

-- one more number that passes, or not
pub filter_range_more : (p : ℕ → Bool) (n : ℕ) → filter p (range_with_len 0 (n + 1)) ≡ filter p (range_with_len 0 n) ++ cond (p n) (n ∷ []) []
filter_range_more p n = simp map-id at (filter_of_map_range_with_len_more p (λ (x : ℕ). x) 0 n n (omega arith))

filter_has : (p : ℕ → Bool) (xs : List ℕ) (r : ℕ) → Contains xs r → p r ≡ true → Contains (filter p xs) r
filter_has p [] r (k, within, is) passed = absurd (omega arith)
filter_has p (x ∷ xs) r (zero, within, is) passed = rw (is, passed) (0, omega arith, refl)
filter_has p (x ∷ xs) r (suc k, within, is) passed =
    let rest = filter_has p xs r (k, omega arith, is) passed in
    cond_both (p x) (x ∷ filter p xs) (filter p xs) (λ ys. Contains ys r) (λ _. (suc rest.0, omega arith, rest.2)) (λ _. rest)

-- a number that passes stands among them
pub filter_range_has : (p : ℕ → Bool) (n r : ℕ) → r < n → p r ≡ true → Contains (filter p (range_with_len 0 n)) r
filter_range_has p n r h passed = grind (arith, nat_tests, (filter_has p), (length-range_with_len 0 n), (get_or-range_with_len 0 n r r h))

-- the numbers that pass rise, and are those of the range
pub filter_range_rises : (p : ℕ → Bool) (n : ℕ) → IsStrictlyIncreasing (filter p (range_with_len 0 n))
filter_range_rises p n = search (rules, IsStrictlyIncreasing-filter, length-range_with_len, get_or-range_with_len)

pub filter_range_below : (p : ℕ → Bool) (n : ℕ) → All (λ r. r < n) (filter p (range_with_len 0 n))
filter_range_below p n = All-filter p (λ r. r < n) (range_with_len 0 n)
    (All-from_get_or (λ r. r < n) (range_with_len 0 n) 0 (λ i h. let e = length-range_with_len 0 n in let at =
    get_or-range_with_len 0 n i 0 (omega arith) in omega arith))

-- the riders promised to a vehicle are a trip
pub promised_trip : (id : ℕ) (requests : List Rider) → IsTrip (length requests) (promised_to id requests)
promised_trip id requests = search (rules, filter_range_rises, filter_range_below)

pub filter_range_skips : (p : ℕ → Bool) (n : ℕ) → p n ≡ false → filter p (range_with_len 0 (n + 1)) ≡ filter p (range_with_len 0 n)
filter_range_skips p n e = filter_range_more p n ∙ ap (λ (b : Bool). filter p (range_with_len 0 n) ++ cond b (n ∷ []) []) e ∙
    append-nil (filter p (range_with_len 0 n))

pub filter_range_takes : (p : ℕ → Bool) (n : ℕ) → p n ≡ true → filter p (range_with_len 0 (n + 1)) ≡ filter p (range_with_len 0 n) ++ n ∷ []
filter_range_takes p n e = filter_range_more p n ∙ ap (λ (b : Bool). filter p (range_with_len 0 n) ++ cond b (n ∷ []) []) e

-- the numbers that pass don't become fewer
pub filter_range_all : (p : ℕ → Bool) (k n : ℕ) → k ≤ n → length (filter p (range_with_len 0 k)) ≤ length (filter p (range_with_len 0 n))
filter_range_all p k n h =
    let first : take k (range_with_len 0 n) ≡ range_with_len 0 k = simp map-id at (take-map-range_with_len (λ (x : ℕ). x) 0 n k h) in
    rw (← take-append-drop k (range_with_len 0 n), filter-append, length-append, first) (omega arith)

-- what is read is what stands at its number
pub request_read : (requests : List Rider) (k : ℕ) (x : Rider) → k < length requests → x ≡ get_or requests k x → x ≡ request_at requests k
request_read requests k x h is = is ∙ get_or_default requests k x no_request h

module _ (wait : ℕ) (requests : List Rider) (plain : List SettledRider) where
  -- one more rider is given the pickup that was promised
  pub kept_more : (i h : ℕ) (held : List ℕ) (before after : List SettledRider) → i < length held → get_or held i 0 ≡ h → h < length before
      → AreKept wait requests plain (Contains (take i held)) before after
      → AreKept wait requests plain (Contains (take (i + 1) held)) before (set after h (kept_rider wait (request_at requests h) (get_or plain h no_rider)))
  kept_more i h held before after lt is within k =
      let new = kept_rider wait (request_at requests h) (get_or plain h no_rider) in
      let more : take (i + 1) held ≡ take i held ++ h ∷ [] = take_more held i 0 lt ∙ ap (λ (v : ℕ). take i held ++ v ∷ []) is in
      record {
        count = length-set after h new ∙ k.count;
        each = λ r lr. elim (cases_eq r h) [
          | inl same ↦
              let room : h < length after = (let e = k.count in omega arith) in
              inl (
                rw more (subst (λ (v : ℕ). Contains (take i held ++ h ∷ []) v) (sym same) (Contains-push (take i held) h)),
                subst (λ (v : ℕ). get_or (set after h new) v no_rider ≡ kept_rider wait (request_at requests v) (get_or plain v no_rider)) (sym same)
                    (get_or-set_same after h new no_rider room),
              )
          | inr other ↦
              let stays : get_or (set after h new) r no_rider ≡ get_or after r no_rider = get_or-set_other after h r new no_rider other in
              ⊎_elim (λ w. inl (rw more (Contains-append_left (take i held) (h ∷ []) r w.0), stays ∙ w.1))
              (λ w. inr (λ c. ⊎_elim w.0 (λ e. other (sym e)) (Contains-push_cases (take i held) h r (rw more at c)), stays ∙ w.1)) (k.each r lr)
        ];
      }

  -- one more vehicle keeps its promises
  pub kept_by_more : (i : ℕ) (v : SettledVehicle) (vehicles : List SettledVehicle) (before after : List SettledRider) → i < length vehicles →
      v ≡ get_or vehicles i v
      → AreKept wait requests plain (IsHeld (take i vehicles)) plain before → AreKept wait requests plain (Contains v.held.items) before after
      → AreKept wait requests plain (IsHeld (take (i + 1) vehicles)) plain after
  kept_by_more i v vehicles before after h is upto own =
      let more : take (i + 1) vehicles ≡ take i vehicles ++ v ∷ [] = take_more vehicles i v h ∙
      ap (λ (w : SettledVehicle). take i vehicles ++ w ∷ []) (sym is) in
      rw more (record {
        count = own.count ∙ upto.count;
        each = λ r lr. ⊎_elim
            (λ w. inl (held_last (take i vehicles) v r w.0, w.1))
            (λ w. ⊎_elim
            (λ u. inl (held_before (take i vehicles) v r u.0, w.1 ∙ u.1))
            (λ u. inr (λ t. ⊎_elim u.0 w.0 (held_cases (take i vehicles) v r t), w.1 ∙ u.1))
            (upto.each r lr))
            (own.each r (let e = upto.count in omega arith));
      })
    where
      held_last : (vs : List SettledVehicle) (v : SettledVehicle) (r : ℕ) → Contains v.held.items r → IsHeld (vs ++ v ∷ []) r
      held_last vs v r c =
          let n = length_push vs v in
          (length vs, omega arith, subst (λ (w : SettledVehicle). Contains w.held.items r) (sym (get_or_push vs v no_vehicle (length vs) refl)) c)

      held_before : (vs : List SettledVehicle) (v : SettledVehicle) (r : ℕ) → IsHeld vs r → IsHeld (vs ++ v ∷ []) r
      held_before vs v r t =
          let n = length_push vs v in let lt = t.1 in
          (t.0, omega arith, subst (λ (w : SettledVehicle). Contains w.held.items r) (sym (get_or_append_left vs (v ∷ []) no_vehicle t.0 lt)) t.2)

      held_cases : (vs : List SettledVehicle) (v : SettledVehicle) (r : ℕ) → IsHeld (vs ++ v ∷ []) r → IsHeld vs r ⊎ Contains v.held.items r
      held_cases vs v r t =
          let n = length_push vs v in let k = t.0 in
          elim (cases_lt k (length vs)) as (λ _. IsHeld vs r ⊎ Contains v.held.items r) [
            | inl lt ↦ inl (k, lt, subst (λ (w : SettledVehicle). Contains w.held.items r) (get_or_append_left vs (v ∷ []) no_vehicle k lt) t.2)
            | inr ge ↦
                let last : length vs ≡ k = (let lt = t.1 in omega arith) in
                inr (subst (λ (w : SettledVehicle). Contains w.held.items r) (get_or_push vs v no_vehicle k last) t.2)
          ]
