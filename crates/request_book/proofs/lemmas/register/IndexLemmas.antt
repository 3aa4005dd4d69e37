-- What a register finds after a change.
use Rattle.std.proofs.Common.{
  Vec,
  Global,
  ◌≡◌,
  ℕ,
  zero,
  suc,
  ◌+◌,
  ◌<◌,
  Bool,
  true,
  false,
  cond,
  List,
  [],
  ◌∷◌,
  ◌++◌,
  length,
  get_or,
  set,
  take,
  map,
  Some,
  None,
  refl,
  sym,
  ap,
  subst,
  ◌∙◌,
  arith,
  vec_capacity,
  is_some,
  option_map,
  option_and_then,
  count_by,
  rules,
}
use Rattle.request_book.proofs.Common.{
  cond_both,
  sum_by-cons,
  BookRider,
  Status,
  look_up,
  changed_at,
  without,
  placed,
  by_key,
  KeysRise,
  KeysDiffer,
  Register,
  pool_id,
  HasRoom,
  IsIndexed,
  is_active,
  with_status,
  find_rider,
  find_vehicle,
  pool_count,
  Vehicle,
}
use Rattle.std.specs.List.{filter_map}
use Rattle.request_book.proofs.lemmas.values.KeyedLemmas.{
  set-changed_at,
  look_up-changed_here,
  look_up-changed_there,
  look_up-without_here,
  look_up-without_there,
  look_up-placed_here,
  look_up-placed_there,
  look_up-push_here,
  look_up-push_there,
  look_up-map,
  look_up-key,
  look_up-filter_map,
  KeysDiffer-filter_map,
  KeysDiffer-from_rise,
  KeysRise-placed,
  KeysRise-changed_at,
  KeysDiffer-changed_at,
  KeysRise-without,
  map-changed_at,
  by_key-order,
  same_from_look_up,
  length-by_key,
  length-filter_map,
}

-- the pool is the ids of the active riders
abbrev pub IsPool : List ℕ → List BookRider → Type 0
IsPool pool riders = (id : ℕ) → look_up (λ id. id) id pool ≡ option_and_then pool_id (find_rider id riders)

pub IsPool-same : (pool pool' : List ℕ) (riders riders' : List BookRider) → pool' ≡ pool → riders' ≡ riders → IsPool pool riders → IsPool pool' riders'
IsPool-same pool pool' riders riders' e f is = search rules

-- a pool in which one id alone stands otherwise
IsPool-but : (k : ℕ) (pool pool' : List ℕ) (riders riders' : List BookRider) → look_up (λ n. n) k pool' ≡ option_and_then pool_id (find_rider k riders')
    → ((j : ℕ) → (k ≡ j → ⊥) → (look_up (λ n. n) j pool' ≡ look_up (λ n. n) j pool) × (find_rider j riders' ≡ find_rider j riders)) → IsPool pool riders →
    IsPool pool' riders'
IsPool-but k pool pool' riders riders' here there is = search rules

pub pool_id-inactive : (r : BookRider) → is_active r.status ≡ false → pool_id r ≡ None
pool_id-inactive r e = rw e refl

-- a rider who leaves the pool
pub IsPool-without : (pool : List ℕ) (riders : List BookRider) (rider : ℕ) (status : Status) → is_active status ≡ false → IsPool pool riders →
    IsPool (without (λ id. id) rider pool) (changed_at (λ r. r.id) rider (with_status status) riders)
IsPool-without pool riders rider status off is = search (
  rules,
  IsPool-but,
  without,
  look_up-without_here,
  option_and_then,
  look_up-changed_here,
  look_up-without_there,
  look_up-changed_there,
  option_map,
  pool_id-inactive,
)

-- a new rider
module _ (pool : List ℕ) (riders : List BookRider) (new : BookRider) (none : find_rider new.id riders ≡ None) (is : IsPool pool riders) where
  last : find_rider new.id (riders ++ new ∷ []) ≡ Some new
  last = look_up-push_here (λ (r : BookRider). r.id) new.id new riders refl none

  earlier : (j : ℕ) → (new.id ≡ j → ⊥) → find_rider j (riders ++ new ∷ []) ≡ find_rider j riders
  earlier j ne = look_up-push_there (λ (r : BookRider). r.id) j new riders ne

  -- who waits
  pub IsPool-placed : is_active new.status ≡ true → IsPool (placed (λ id. id) new.id pool) (riders ++ new ∷ [])
  IsPool-placed on = search (rules, IsPool-but, look_up-placed_here, option_and_then, last, look_up-placed_there, earlier)

  -- of any status
  pub IsPool-entered : IsPool (cond (is_active new.status) (placed (λ id. id) new.id pool) pool) (riders ++ new ∷ [])
  IsPool-entered = search (rules, cond_both, IsPool-placed, IsPool-but, option_and_then, last, pool_id-inactive, earlier)

pub rise-entered : (b : Bool) (pool : List ℕ) (id : ℕ) → KeysRise (λ id. id) pool → look_up (λ id. id) id pool ≡ None →
    KeysRise (λ id. id) (cond b (placed (λ id. id) id pool) pool)
rise-entered true pool id rise none = KeysRise-placed (λ id. id) id pool rise none
rise-entered false pool id rise none = rise

pub pool_id-keeps : (r : BookRider) (id : ℕ) → pool_id r ≡ Some id → id ≡ r.id
pool_id-keeps r id e = grind arith

-- the pool is as long as there are active riders
pub length-pool : (pool : List ℕ) (riders : List BookRider) → KeysRise (λ id. id) pool → KeysDiffer (λ r. r.id) riders → IsPool pool riders →
    length pool ≡ pool_count riders
length-pool pool riders rise differ is =
    let ids = filter_map pool_id riders in
    let apart = KeysDiffer-filter_map (λ r. r.id) (λ n. n) pool_id pool_id-keeps riders differ in
    let order = by_key-order (λ n. n) ids apart in
    let same : pool ≡ by_key (λ n. n) ids = same_from_look_up (λ n. n) pool (by_key (λ n. n) ids) rise order.rise
    (λ k. is k ∙ sym (order.found k ∙ look_up-filter_map (λ r. r.id) (λ n. n) pool_id pool_id-keeps k riders differ)) in
    let each : (r : BookRider) → is_some (pool_id r) ≡ is_active r.status = λ r. grind arith in
    ap length same ∙ length-by_key (λ n. n) ids ∙ length-filter_map pool_id riders ∙ ap (λ p. count_by p riders) (λ i r. each r i)

-- one more active rider than before
pub pool_count-more : (riders : List BookRider) (i : ℕ) (r : BookRider) → i < length riders → r ≡ get_or riders i r → is_active r.status ≡ true →
    pool_count (take i riders) < pool_count riders
pool_count-more riders i r within read active = by riders i within (subst (λ (x : BookRider). is_active x.status ≡ true) read active)
  where
    by : (xs : List BookRider) (i : ℕ) → i < length xs → is_active (get_or xs i r).status ≡ true → pool_count (take i xs) < pool_count xs
    by [] i below on = absurd (omega (arith, below))
    by (x ∷ xs) zero below on = grind (arith, on, sum_by-cons (λ (y : BookRider). cond (is_active y.status) 1 0) x xs)
    by (x ∷ xs) (suc i) below on = grind (
      arith,
      by xs i (omega (arith, below)) on,
      sum_by-cons (λ (y : BookRider). cond (is_active y.status) 1 0) x xs,
      sum_by-cons (λ (y : BookRider). cond (is_active y.status) 1 0) x (take i xs),
    )

-- a write at the place of a vehicle changes that vehicle
pub vehicle-set : (f : Vehicle → Vehicle) (k at : ℕ) (vs : List Vehicle) (d x : Vehicle) → KeysRise (λ v. v.id) vs → at < length vs →
    ((d : Vehicle) → find_vehicle k vs ≡ Some (get_or vs at d)) → d ≡ get_or vs at d → x ≡ f d → set vs at x ≡ changed_at (λ v. v.id) k f vs
vehicle-set f k at vs d x rise in' found read wrote = search (rules, set-changed_at, KeysDiffer-from_rise, look_up-key)

-- and what the register keeps
pub IsIndexed-vehicle : (g : Register) (us : Vec Vehicle Global) (f : Vehicle → Vehicle) (k : ℕ) → ((v : Vehicle) → (f v).id ≡ v.id) →
    us.items ≡ changed_at (λ v. v.id) k f g.vehicles.items → IsIndexed g → IsIndexed (record g { vehicles = us })
IsIndexed-vehicle g us f k keeps changed h = search (rules, map-changed_at, KeysRise-changed_at)

-- what the register keeps where a rider leaves the pool
pub IsIndexed-leaves : (g : Register) (rs : Vec BookRider Global) (pool : Vec ℕ Global) (k : ℕ) (status : Status) → is_active status ≡ false →
    rs.items ≡ changed_at (λ r. r.id) k (with_status status) g.riders.items → pool.items ≡ without (λ id. id) k g.pool.items
    → vec_capacity pool ≡ vec_capacity g.pool → IsIndexed g → IsIndexed (record g { riders = rs; pool = pool })
IsIndexed-leaves g rs pool k status off riders left room h = search (
  rules,
  map-changed_at,
  KeysDiffer-changed_at,
  KeysRise-without,
  IsPool-same,
  IsPool-without,
)

-- riders whose place in the pool stays
pub IsPool-map : (f : BookRider → BookRider) → ((r : BookRider) → (f r).id ≡ r.id) → ((r : BookRider) → pool_id (f r) ≡ pool_id r) →
    (pool : List ℕ) (riders : List BookRider) → IsPool pool riders → IsPool pool (map f riders)
IsPool-map f keeps stays pool riders is id = search (rules, option_and_then, look_up-map, option_map)

-- room
pub less-room : (n : ℕ) (g : Register) → HasRoom (n + 1) g → HasRoom n g
less-room n g room = record { riders = omega (arith, room.riders); ids = omega (arith, room.ids) }

pub no-room : (g : Register) → HasRoom 0 g
no-room g = record { riders = omega (arith, g.riders.ok.1); ids = omega arith }
