-- What a close makes of the riders.
use Rattle.std.proofs.Common.{
  ◌≡◌,
  ℕ,
  ◌+◌,
  ◌<◌,
  ◌≤◌,
  true,
  false,
  cond,
  eqb,
  List,
  [],
  ◌∷◌,
  ◌++◌,
  length,
  get_or,
  drop,
  map,
  Some,
  None,
  Result,
  Ok,
  Err,
  refl,
  sym,
  ap,
  ◌∙◌,
  arith,
  is_some,
  is_ok,
  rules,
}
use Rattle.request_book.proofs.Common.{
  cons_option,
  nat_tests,
  IsBinarySearchResult,
  IsSearchInRange,
  at_drop_more,
  drop_all,
  searchable_from_sorted,
  Rider,
  ChosenTrip,
  PlannedStop,
  BookRider,
  Pick,
  picks,
  trip_picks,
  after_plan,
  after_answer,
  waits_again,
  takes_promise,
  promised_in_turn,
  Answer,
  Overflow,
  pool_id,
  look_up,
  changed_at,
  KeysRise,
  KeysDiffer,
  changed_in_turn,
  is_active,
}
use Rattle.std.specs.Ordering.{nat_cmp}
use Rattle.std.proofs.lemmas.List.{append-nil, append_assoc}
use Rattle.request_book.specs.declared.values.outcome.Answer.TheVariants.{Planned as Plan}
use Rattle.request_book.proofs.lemmas.register.IndexLemmas.{IsPool, IsPool-map}
use Rattle.request_book.proofs.lemmas.values.KeyedLemmas.{
  look_up-nil,
  look_up-at,
  look_up-push,
  look_up-keys,
  look_up-nowhere,
  pairs_from_rise,
  KeysDiffer-map,
  map-keys,
  KeysDiffer-from_rise,
}
use Rattle.request_book.proofs.lemmas.register.SealLemmas.{changed_in_turn-marked, marked}

-- a binary search by rising keys finds what a look-up finds
pub keyed_sought : {X : Type 0} (key : X → ℕ) (k : ℕ) (xs : List X) (r : Result ℕ ℕ) → KeysRise key xs → IsSearchInRange r (length xs) →
    IsBinarySearchResult (λ y. nat_cmp (key y) k) xs r → is_ok r ≡ is_some (look_up key k xs)
keyed_sought key k [] (Ok i) up in' at = absurd (omega (arith, in'))
keyed_sought key k (x ∷ xs) (Ok i) up in' at = grind (arith, nat_tests, (look_up-at key i (x ∷ xs) x), (KeysDiffer-from_rise key (x ∷ xs) up))
keyed_sought key k xs (Err i) up in' at = grind (arith, nat_tests, (pairs_from_rise key xs up), searchable_from_sorted, (look_up-nowhere key k xs))

-- who waits again keeps their id, and waits again at once
pub waits_again-id : (r : BookRider) → (waits_again r).id ≡ r.id
waits_again-id r = grind arith

pub waits_again-once : (r : BookRider) → waits_again (waits_again r) ≡ waits_again r
waits_again-once r = grind arith

pub takes_promise-id : (batch : List Rider) (p : Pick) (r : BookRider) → (takes_promise batch p r).id ≡ r.id
takes_promise-id batch p r = grind arith

-- the riders of a batch who wait again have what a plan without pick stops gives them
pub released : (batch : List Rider) (riders : List BookRider) → changed_in_turn (λ r. r.id) waits_again (map (λ r. r.id) batch) riders ≡ map
    (after_plan batch []) riders
unfolding marked
released batch riders = search (rules, changed_in_turn-marked, waits_again-id, waits_again-once, is_some, look_up-keys, look_up-nil)

-- one more pick stop
module _ (batch : List Rider) (ps : List Pick) (p : Pick) where
  one_more_pick : (r : BookRider) → cond (eqb (after_plan batch ps r).id p.rider) (takes_promise batch p (after_plan batch ps r)) (after_plan batch ps r) ≡
      after_plan batch (ps ++ p ∷ []) r
  unfolding look_up
  one_more_pick r = grind (arith, nat_tests, look_up-push (λ (q : Pick). q.rider) r.id p ps)

  pub promised-next : (riders : List BookRider) → changed_at (λ r. r.id) p.rider (takes_promise batch p) (map (after_plan batch ps) riders) ≡ map
      (after_plan batch (ps ++ p ∷ [])) riders
  unfolding changed_at
  promised-next [] = refl
  promised-next (r ∷ rs) = let head = one_more_pick r in let tail = promised-next rs in cc

-- pick stops one after another, after earlier ones
pub promised-all : (batch : List Rider) (qs ps : List Pick) (riders : List BookRider) → promised_in_turn batch ps (map (after_plan batch qs) riders) ≡ map
    (after_plan batch (qs ++ ps)) riders
unfolding promised_in_turn
promised-all batch qs [] riders = ap (λ l. map (after_plan batch l) riders) (sym (append-nil qs))
promised-all batch qs (p ∷ ps) riders =
    ap (promised_in_turn batch ps) (promised-next batch qs p riders) ∙ promised-all batch (qs ++ p ∷ []) ps riders ∙
    ap (λ l. map (after_plan batch l) riders) (append_assoc qs (p ∷ []) ps)

pub promised-append : (batch : List Rider) (ps qs : List Pick) (riders : List BookRider) →
    promised_in_turn batch (ps ++ qs) riders ≡ promised_in_turn batch qs (promised_in_turn batch ps riders)
unfolding promised_in_turn
promised-append batch [] qs riders = refl
promised-append batch (p ∷ ps) qs riders = promised-append batch ps qs (changed_at (λ r. r.id) p.rider (takes_promise batch p) riders)

-- the stops of a trip, one after another
module _ (batch : List Rider) (vehicle : ℕ) where
  pub stops-pick : (stops : List PlannedStop) (i : ℕ) (d : PlannedStop) (riders : List BookRider) → i < length stops → (get_or stops i d).pick ≡ true
      → promised_in_turn batch (trip_picks vehicle (drop (i + 1) stops)) (changed_at (λ r. r.id) (get_or stops i d).rider
      (takes_promise batch (record { rider = (get_or stops i d).rider; promise = record { vehicle = vehicle; pickup = (get_or stops i d).second } }))
      riders) ≡ promised_in_turn batch (trip_picks vehicle (drop i stops)) riders
  unfolding trip_picks promised_in_turn
  stops-pick stops i d riders in' pick =
      let s = get_or stops i d in
      let p : Pick = record { rider = s.rider; promise = record { vehicle = vehicle; pickup = s.second } } in
      let rest = trip_picks vehicle (drop (i + 1) stops) in
      sym (at_drop_more (λ l. promised_in_turn batch (trip_picks vehicle l) riders) stops i d in' ∙
      ap (λ b. promised_in_turn batch (cons_option (cond b (Some p) None) rest) riders) pick)

  pub stops-drop : (stops : List PlannedStop) (i : ℕ) (d : PlannedStop) (riders : List BookRider) → i < length stops → (get_or stops i d).pick ≡ false
      → promised_in_turn batch (trip_picks vehicle (drop (i + 1) stops)) riders ≡ promised_in_turn batch (trip_picks vehicle (drop i stops)) riders
  unfolding trip_picks promised_in_turn
  stops-drop stops i d riders in' pick =
      let s = get_or stops i d in
      let p : Pick = record { rider = s.rider; promise = record { vehicle = vehicle; pickup = s.second } } in
      let rest = trip_picks vehicle (drop (i + 1) stops) in
      sym (at_drop_more (λ l. promised_in_turn batch (trip_picks vehicle l) riders) stops i d in' ∙
      ap (λ b. promised_in_turn batch (cons_option (cond b (Some p) None) rest) riders) pick)

  pub stops-all : (stops : List PlannedStop) (i : ℕ) (riders : List BookRider) → length stops ≤ i →
      promised_in_turn batch (trip_picks vehicle (drop i stops)) riders ≡ riders
  unfolding trip_picks promised_in_turn
  stops-all stops i riders past = ap (λ l. promised_in_turn batch (trip_picks vehicle l) riders) (drop_all i stops past)

pub trips-more : (batch : List Rider) (chosen : List ChosenTrip) (i : ℕ) (d : ChosenTrip) (riders : List BookRider) → i < length chosen
    → promised_in_turn batch (picks (drop (i + 1) chosen)) (promised_in_turn batch (trip_picks (get_or chosen i d).vehicle (get_or chosen i d).stops.items)
    riders) ≡ promised_in_turn batch (picks (drop i chosen)) riders
unfolding picks trip_picks
trips-more batch chosen i d riders in' =
    let t = get_or chosen i d in
    sym (at_drop_more (λ l. promised_in_turn batch (picks l) riders) chosen i d in' ∙ promised-append batch (trip_picks t.vehicle t.stops.items)
    (picks (drop (i + 1) chosen)) riders)

pub trips-all : (batch : List Rider) (chosen : List ChosenTrip) (i : ℕ) (riders : List BookRider) → length chosen ≤ i →
    promised_in_turn batch (picks (drop i chosen)) riders ≡ riders
unfolding picks promised_in_turn
trips-all batch chosen i riders past = ap (λ l. promised_in_turn batch (picks l) riders) (drop_all i chosen past)

-- a plan keeps ids, and who is in the pool
pub after_plan-id : (batch : List Rider) (ps : List Pick) (r : BookRider) → (after_plan batch ps r).id ≡ r.id
after_plan-id batch ps r = grind arith

pub after_plan-active : (batch : List Rider) (ps : List Pick) (r : BookRider) → is_active (after_plan batch ps r).status ≡ is_active r.status
after_plan-active batch ps r = grind arith

after_plan-pool : (batch : List Rider) (ps : List Pick) (r : BookRider) → pool_id (after_plan batch ps r) ≡ pool_id r
after_plan-pool batch ps r = grind (arith, after_plan-active batch ps r)

-- what an answer leaves of the riders' ids and of the pool
pub record IsSettled (pool : List ℕ) (riders settled : List BookRider) : Type 0 where
  pub ids : map (λ r. r.id) settled ≡ map (λ r. r.id) riders
  pub differ : KeysDiffer (λ r. r.id) settled
  pub listed : IsPool pool settled

pub answer-settled : (batch : List Rider) (answer : Answer) (pool : List ℕ) (riders : List BookRider) → KeysDiffer (λ r. r.id) riders → IsPool pool riders →
    IsSettled pool riders (after_answer batch answer riders)
unfolding after_answer
answer-settled batch Overflow pool riders differ is = record { ids = refl; differ = differ; listed = is }
answer-settled batch (Plan plan) pool riders differ is = search (rules, map-keys, after_plan-id, KeysDiffer-map, IsPool-map, after_plan-pool)
