use Rattle.std.proofs.Common.{
  ◌≡◌,
  ℕ,
  ◌+◌,
  ◌-◌,
  ◌<◌,
  ◌≤◌,
  Bool,
  true,
  false,
  List,
  [],
  ◌∷◌,
  ◌++◌,
  length,
  take,
  Option,
  refl,
  sym,
  ap,
  ◌∙◌,
  subst,
  arith,
  append_assoc,
  length-append,
  rules,
}
use Rattle.stop_orders.proofs.Common.{
  false≢true,
  Route,
  Task,
  Stop,
  Pick,
  Drop,
  Alight,
  Visit,
  place_of,
  room_after,
  Reaches,
  ServesFrom,
  IsOrderOf,
  Serves,
  ReachesAll,
  order_delay,
  free_seats,
  visits_of,
  bit_of,
  with_stop,
  IsNextStop,
  IsAllDone,
  Completes,
  stop_with,
  NoneBetter,
  StaysGood,
  MakesOrders,
  AllTried,
}
use Rattle.std.proofs.lemmas.List.{append-nil, take_at}
use Rattle.std.proofs.lemmas.Bool.{lt-ltb}
use Rattle.stop_orders.proofs.lemmas.task.DoneLemmas.{Completes-front, Completes-back, Completes-nil, IsAllDone-from_nil, IsOrder-from_none}

-- what serves reaches all its places
pub Reaches-from_serves : (tau : ℕ → ℕ → ℕ) (dwell place free room : ℕ) (vs : List Visit) → ServesFrom tau dwell place free room vs → Reaches tau place vs
Reaches-from_serves tau dwell place free room [] s = tt
Reaches-from_serves tau dwell place free room (v ∷ vs) s = (
  s.0,
  Reaches-from_serves tau dwell (place_of v) (free + tau place (place_of v) + dwell)
      (room_after v room) vs s.3,
)

pub ReachesAll-from_serves : (tau : ℕ → ℕ → ℕ) (task : Task) (stops : List Stop) → Serves tau task stops → ReachesAll tau task stops
ReachesAll-from_serves tau task stops s = Reaches-from_serves tau task.dwell task.start task.ready (free_seats task) (visits_of task stops) s.in_time

-- where all are dropped no stop may come next
pub none_next : (riders passengers done : ℕ) → IsAllDone riders passengers done → (s : Stop) → IsNextStop riders passengers done s → ⊥
none_next riders passengers done all (Pick i) next = false≢true (sym next.2 ∙ all.riders_out i next.0)
none_next riders passengers done all (Drop i) next = false≢true (sym next.2 ∙ all.riders_out i next.0)
none_next riders passengers done all (Alight j) next = false≢true (sym next.1 ∙ all.passengers_out j next.0)

-- .. so nothing is left
pub rest_of_all : (riders passengers done : ℕ) → riders ≤ 6 → IsAllDone riders passengers done → (rest : List Stop) → Completes riders passengers done rest →
    rest ≡ []
rest_of_all riders passengers done few all [] c = refl
rest_of_all riders passengers done few all (s ∷ rest) c = absurd (none_next riders passengers done all s
    (Completes-front riders passengers done few s rest c).0)

-- a stop that may come next is the one with its bit
pub stop_with-bit_of : (riders passengers done : ℕ) → riders ≤ 6 → passengers ≤ 10 → (s : Stop) → IsNextStop riders passengers done s →
    (stop_with (bit_of s) ≡ s) × (bit_of s < 22)
stop_with-bit_of riders passengers done few seated (Pick i) next = (rw (lt-ltb i 6 (omega (arith, next.0))) refl, omega (arith, next.0))
stop_with-bit_of riders passengers done few seated (Drop i) next = search rules
stop_with-bit_of riders passengers done few seated (Alight j) next = search rules

pub append_one : (path : List Stop) (s : Stop) (rest : List Stop) → (path ++ s ∷ []) ++ rest ≡ path ++ s ∷ rest
append_one path s rest = append_assoc path (s ∷ []) rest

module _ (task : Task) (few : length task.riders.items ≤ 6) where
  -- a stop that may come next is one more of an order
  pub MakesOrders-next : (done : ℕ) (path : List Stop) (s : Stop) → IsNextStop (length task.riders.items) (length task.aboard.items) done s →
      MakesOrders task done path → MakesOrders task (with_stop done s) (path ++ s ∷ [])
  MakesOrders-next done path s next makes = search (rules, append_one, Completes-back)

  pub MakesOrders-all : (done : ℕ) (path : List Stop) → IsAllDone (length task.riders.items) (length task.aboard.items) done → MakesOrders task done path →
      IsOrderOf task path
  MakesOrders-all done path all makes = subst (λ stops. IsOrderOf task stops) (append-nil path)
      (makes [] (Completes-nil (length task.riders.items) (length task.aboard.items) done all))

  -- where all are dropped the only order is that of the path
  pub AllTried-all : (tau : ℕ → ℕ → ℕ) (done : ℕ) (path : List Stop) (best : Option Route) →
      IsAllDone (length task.riders.items) (length task.aboard.items) done
      → (Serves tau task path → NoneBetter best (order_delay tau task path)) → AllTried tau task done path best
  AllTried-all tau done path best all tried = λ rest c.
      let e : path ++ rest ≡ path = ap (λ xs. path ++ xs) (rest_of_all (length task.riders.items) (length task.aboard.items) done few all rest c) ∙
      append-nil path in
      subst (λ stops. Serves tau task stops → NoneBetter best (order_delay tau task stops)) (sym e) tried

  -- what was tried stays tried
  pub AllTried-kept : (tau : ℕ → ℕ → ℕ) (done : ℕ) (path : List Stop) (old new : Option Route) → StaysGood old new → AllTried tau task done path old →
      AllTried tau task done path new
  AllTried-kept tau done path old new kept tried = λ rest c s. kept (order_delay tau task (path ++ rest)) (tried rest c s)

  -- all is tried where each next stop is
  pub AllTried-next : (tau : ℕ → ℕ → ℕ) (done : ℕ) (path : List Stop) (best : Option Route) →
      (IsAllDone (length task.riders.items) (length task.aboard.items) done → ⊥)
      → ((s : Stop) → IsNextStop (length task.riders.items) (length task.aboard.items) done s → AllTried tau task (with_stop done s) (path ++ s ∷ []) best) →
      AllTried tau task done path best
  AllTried-next tau done path best more each [] c serves = absurd (more (IsAllDone-from_nil (length task.riders.items) (length task.aboard.items) done c))
  AllTried-next tau done path best more each (s ∷ rest) c serves =
      let front = Completes-front (length task.riders.items) (length task.aboard.items) done few s rest c in
      subst (λ stops. Serves tau task stops → NoneBetter best (order_delay tau task stops)) (append_one path s rest) (each s front.0 rest front.1) serves

-- the first call
pub MakesOrders-none : (task : Task) → MakesOrders task 0 []
MakesOrders-none task = λ rest c. IsOrder-from_none (length task.riders.items) (length task.aboard.items) rest c

-- the same at the numbers of the task
pub IsNextStop-at : (n m riders passengers done : ℕ) (s : Stop) → n ≡ riders → m ≡ passengers → IsNextStop n m done s → IsNextStop riders passengers done s
IsNextStop-at n m riders passengers done s e f next = subst (λ k. IsNextStop riders k done s) f (subst (λ k. IsNextStop k m done s) e next)

pub IsNextStop-not_at : (b : Bool) (n m riders passengers done : ℕ) (s : Stop) → n ≡ riders → m ≡ passengers →
    ((b ≡ true → IsNextStop n m done s) × (IsNextStop n m done s → b ≡ true)) → b ≡ false → IsNextStop riders passengers done s → ⊥
IsNextStop-not_at b n m riders passengers done s e f says is_not next = false≢true (sym is_not ∙
    says.1 (IsNextStop-at riders passengers n m done s (sym e) (sym f) next))

pub IsAllDone-at : (n m riders passengers done : ℕ) → n ≡ riders → m ≡ passengers → IsAllDone n m done → IsAllDone riders passengers done
IsAllDone-at n m riders passengers done e f all = subst (λ k. IsAllDone riders k done) f (subst (λ k. IsAllDone k m done) e all)

pub IsAllDone-not_at : (b : Bool) (n m riders passengers done : ℕ) → n ≡ riders → m ≡ passengers →
    ((b ≡ true → IsAllDone n m done) × (IsAllDone n m done → b ≡ true)) → b ≡ false → IsAllDone riders passengers done → ⊥
IsAllDone-not_at b n m riders passengers done e f says is_not all = false≢true (sym is_not ∙
    says.1 (IsAllDone-at riders passengers n m done (sym e) (sym f) all))

-- without the last stop
pub path_back : (path now after : List Stop) (s : Stop) → now ≡ path ++ s ∷ [] → after ≡ take (length now - 1) now → after ≡ path
path_back path now after s e f = search (rules, length-append, take_at)
