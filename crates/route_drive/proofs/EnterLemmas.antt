-- What is entered, stop by stop and vehicle by vehicle.
use Rattle.std.proofs.Common.{
  ◌≡◌,
  ℕ,
  zero,
  suc,
  ◌+◌,
  ◌<◌,
  ◌≤◌,
  Bool,
  true,
  false,
  List,
  [],
  ◌∷◌,
  ◌++◌,
  length,
  get_or,
  map,
  filter,
  take,
  drop,
  Some,
  Result,
  Ok,
  Err,
  refl,
  sym,
  ap,
  ◌∙◌,
  inl,
  subst,
  arith,
  append_assoc,
  append-nil,
  length-append,
  All,
  Contains,
  IfOk,
  MatchResult,
  find,
  IfErr,
  min,
  rules,
}
use Rattle.route_drive.proofs.Common.{
  AllZip,
  cond-true,
  cond-false,
  take_more,
  get_or_append_left,
  All-nil,
  All-cons,
  All-push,
  Vehicle,
  Command,
  PlannedStop,
  Roads,
  NumberedLanes,
  Course,
  NodeAt,
  Stay,
  longest,
  Pickup,
  Dropoff,
  Report,
  AreEntered,
  EntersTooLate,
  IsInTime,
  due,
  left_commands,
  standing_after,
  stop_command,
  ArePlaced,
  heading_of,
  headings_of,
  told_by,
  told_of,
  Adds,
  second_of,
  cond_both,
  drop_more,
  flat_map_more,
  length-take,
  map_push,
  filter_more,
  length-zip,
  nat_tests,
}
use Rattle.std.specs.List.{Any, flat_map, zip}
use Rattle.std.proofs.lemmas.List.Quantifiers.{Any-push}
use Rattle.std.proofs.lemmas.Bool.Decides.{leb_tells}

module _ {X : Type 0} where
  pub find_hit : (p : X → Bool) (xs : List X) (i : ℕ) (d : X) → i < length xs → p (get_or xs i d) ≡ true → find p (drop i xs) ≡ Some (get_or xs i d)
  find_hit p xs i d h e = ap (find p) (drop_more xs i d h) ∙ cond-true (p (get_or xs i d)) (Some (get_or xs i d)) (find p (drop (i + 1) xs)) e

  -- one more element that a filter keeps, or doesn't
  pub filter_takes : (p : X → Bool) (xs : List X) (i : ℕ) (d : X) → i < length xs → p (get_or xs i d) ≡ true →
      filter p (take (i + 1) xs) ≡ filter p (take i xs) ++ get_or xs i d ∷ []
  filter_takes p xs i d h e = filter_more p xs i d h ∙ ap (λ ys. filter p (take i xs) ++ ys) (cond-true (p (get_or xs i d)) (get_or xs i d ∷ []) [] e)

  pub filter_skips : (p : X → Bool) (xs : List X) (i : ℕ) (d : X) → i < length xs → p (get_or xs i d) ≡ false →
      filter p (take (i + 1) xs) ≡ filter p (take i xs)
  filter_skips p xs i d h e = filter_more p xs i d h ∙ ap (λ ys. filter p (take i xs) ++ ys) (cond-false (p (get_or xs i d)) (get_or xs i d ∷ []) [] e) ∙
      append-nil (filter p (take i xs))

pub standing-push : (dwell : ℕ) (at : Stay) (stops : List PlannedStop) (s : PlannedStop) →
    standing_after dwell at (stops ++ s ∷ []) ≡ record { node = s.node; second = s.second; free = s.second + dwell }
standing-push dwell at [] s = refl
standing-push dwell at (x ∷ stops) s = standing-push dwell (record { node = x.node; second = x.second; free = x.second + dwell }) stops s

pub Adds-trans : (lane : ℕ) (a b c : NumberedLanes) (xs ys : List Command) → Adds lane xs a b → Adds lane ys b c → Adds lane (xs ++ ys) a c
Adds-trans lane a b c xs ys one two = search (rules, append_assoc)

same_takes : {X Y : Type 0} (xs : List X) (ys : List Y) (k : ℕ) → length ys ≡ length xs → length (take k ys) ≡ length (take k xs)
same_takes xs ys k e = length-take k ys ∙ ap (min k) e ∙ sym (length-take k xs)

-- one more of two lists, side by side
zip-push : {X Y : Type 0} (xs : List X) (ys : List Y) (x : X) (y : Y) → length ys ≡ length xs → zip (xs ++ x ∷ []) (ys ++ y ∷ []) ≡ zip xs ys ++ (x, y) ∷ []
zip-push [] [] x y e = refl
zip-push (a ∷ xs) (b ∷ ys) x y e = ap (λ l. (a, b) ∷ l) (zip-push xs ys x y (omega (arith, e)))
zip-push xs ys x y e = absurd (omega (arith, e))

zip-more : {X Y : Type 0} (xs : List X) (ys : List Y) (k : ℕ) (x : X) (y : Y) → length ys ≡ length xs → k < length xs → x ≡ get_or xs k x → y ≡ get_or ys k y
    → zip (take (k + 1) xs) (take (k + 1) ys) ≡ zip (take k xs) (take k ys) ++ (x, y) ∷ []
zip-more xs ys k x y e h is_x is_y = grind (
  arith,
  nat_tests,
  (take_more xs k x h),
  (take_more ys k y),
  (zip-push (take k xs) (take k ys) x y),
  (same_takes xs ys k e),
)

-- what is entered of one more vehicle, where it heads, and the stops left of it
pub told-more : (now : ℕ) (vehicles : List Vehicle) (courses : List Course) (places : List NodeAt) (k : ℕ) (v : Vehicle) (c : Course) (there : NodeAt) →
    length courses ≡ length vehicles → length places ≡ length vehicles
    → k < length vehicles → v ≡ get_or vehicles k v → c ≡ get_or courses k c → there ≡ get_or places k there
    → told_by now (take (k + 1) vehicles) (take (k + 1) courses) (take (k + 1) places) ≡ told_by now (take k vehicles) (take k courses) (take k places) ++
    told_of now v.id c there
told-more now vehicles courses places k v c there size each h is_v is_c is_p =
    let F = λ (p : (Vehicle × Course) × NodeAt). told_of now p.0.0.id p.0.1 p.1 in
    let pairs : List (Vehicle × Course) = zip (take k vehicles) (take k courses) in
    let more = zip-more vehicles courses k v c size h is_v is_c in
    let ps : take (k + 1) places ≡ take k places ++ there ∷ [] = take_more places k there (omega (arith, each, h)) ∙
    ap (λ y. take k places ++ y ∷ []) (sym is_p) in
    let d = same_takes vehicles places k each in
    rw (more, ps) (ap (flat_map F) (zip-push pairs (take k places) (v, c) there
    (omega (arith, length-zip (take k vehicles) (take k courses), same_takes vehicles courses k size, d))) ∙
    sym (flat_map_more F [] (zip pairs (take k places)) ((v, c), there)))

pub headings-more : (dwell now : ℕ) (vehicles : List Vehicle) (courses : List Course) (k : ℕ) (v : Vehicle) (c : Course) → length courses ≡ length vehicles →
    k < length vehicles → v ≡ get_or vehicles k v → c ≡ get_or courses k c
    → headings_of dwell now (take (k + 1) vehicles) (take (k + 1) courses) ≡ headings_of dwell now (take k vehicles) (take k courses) ++ heading_of dwell now v
    c ∷ []
headings-more dwell now vehicles courses k v c size h is_v is_c =
    let F = λ (p : Vehicle × Course). heading_of dwell now p.0 p.1 in
    ap (map F) (zip-more vehicles courses k v c size h is_v is_c) ∙ map_push F (zip (take k vehicles) (take k courses)) (v, c)

pub left-more : (vehicles : List Vehicle) (courses : List Course) (k : ℕ) (v : Vehicle) (c : Course) → length courses ≡ length vehicles → k < length vehicles
    → v ≡ get_or vehicles k v → c ≡ get_or courses k c
    → left_commands (take (k + 1) vehicles) (take (k + 1) courses) ≡ left_commands (take k vehicles) (take k courses) ++ map (stop_command v.id) c.stops.items
left-more vehicles courses k v c size h is_v is_c =
    let F = λ (p : Vehicle × Course). map (stop_command p.0.id) p.1.stops.items in
    ap (flat_map F) (zip-more vehicles courses k v c size h is_v is_c) ∙ sym (flat_map_more F [] (zip (take k vehicles) (take k courses)) (v, c))

-- who is placed is entered there
module _ (roads : Roads) (dwell now : ℕ) where
  pub placed-size : (vehicles : List Vehicle) (courses : List Course) (places : List NodeAt) → length courses ≡ length vehicles →
      ArePlaced roads dwell now vehicles courses places → length places ≡ length vehicles
  placed-size [] courses [] size placed = refl
  placed-size (x ∷ vehicles) (y ∷ courses) (z ∷ places) size placed = ap suc (placed-size vehicles courses places (omega (arith, size)) placed.1)
  placed-size vehicles courses places size placed = grind arith

  pub placed_entered : (vehicles : List Vehicle) (courses : List Course) (places : List NodeAt) → length courses ≡ length vehicles →
      ArePlaced roads dwell now vehicles courses places
      → AreEntered roads dwell now vehicles courses (told_by now vehicles courses places)
  placed_entered [] courses places size placed = refl
  placed_entered (x ∷ vehicles) (y ∷ courses) (z ∷ places) size placed = (
    told_of now x.id y z,
    told_by now vehicles courses places,
    record { there = z; reported = placed.0; told = refl },
    placed_entered vehicles courses places (omega (arith, size)) placed.1,
    refl,
  )
  placed_entered vehicles courses places size placed = grind arith

  -- whoever is placed too late is entered too late
  pub placed_late : (vehicles : List Vehicle) (courses : List Course) (places : List NodeAt) → length courses ≡ length vehicles →
      ArePlaced roads dwell now vehicles courses places
      → Any (λ (there : NodeAt). longest < there.second) places → EntersTooLate roads dwell now vehicles courses
  placed_late vehicles courses [] size placed (k, there, within, is, late) = absurd (omega (arith, within))
  placed_late [] courses (z ∷ places) size placed late = absurd placed
  placed_late (x ∷ vehicles) [] (z ∷ places) size placed late = absurd (omega (arith, size))
  placed_late (x ∷ vehicles) (y ∷ courses) (z ∷ places) size placed (zero, there, within, is, late) = inl (
    told_of now x.id y z,
    record { there = z; reported = placed.0; told = refl },
    Any-push (λ (c : Command). longest < second_of c) (map (stop_command x.id) (due now y.stops.items)) (Report x.id z.node z.second)
        (subst (λ (t : NodeAt). longest < t.second) (sym is) late),
  )
  placed_late (x ∷ vehicles) (y ∷ courses) (z ∷ places) size placed (suc k, there, within, is, late) = search (rules, (placed_late vehicles courses places))

any_left : (P : Command → Type 0) (xs ys : List Command) → Any P xs → Any P (xs ++ ys)
any_left P xs ys (k, x, h, is, p) = (k, x, (let e = length-append xs ys in omega (arith, e, h)), get_or_append_left xs ys x k h ∙ is, p)

any_right : (P : Command → Type 0) (xs ys : List Command) → Any P ys → Any P (xs ++ ys)
any_right P [] ys any = any
any_right P (z ∷ xs) ys any = let rest = any_right P xs ys any in (suc rest.0, rest.1, omega (arith, rest.2), rest.3, rest.4)

-- a stop of one vehicle is among the stops left of all
pub left_late : (P : Command → Type 0) (vehicles : List Vehicle) (courses : List Course) (k : ℕ) (v : Vehicle) (c : Course) → k < length vehicles →
    k < length courses
    → v ≡ get_or vehicles k v → c ≡ get_or courses k c → Any P (map (stop_command v.id) c.stops.items) → Any P (left_commands vehicles courses)
left_late P (x ∷ vehicles) (y ∷ courses) zero v c h g is_v is_c any = search (rules, any_left)
left_late P (x ∷ vehicles) (y ∷ courses) (suc k) v c h g is_v is_c any = search (rules, any_right, (left_late P vehicles courses k v c))
left_late P vehicles courses k v c h g is_v is_c any = absurd (omega arith)

-- one among those of a map
pub any_mapped : (P : Command → Type 0) (f : PlannedStop → Command) (stops : List PlannedStop) (k : ℕ) (s : PlannedStop) → k < length stops →
    s ≡ get_or stops k s → P (f s) → Any P (map f stops)
any_mapped P f [] k s h is p = absurd (omega arith)
any_mapped P f (x ∷ stops) zero s h is p = (0, f s, omega arith, ap f (sym is), p)
any_mapped P f (x ∷ stops) (suc k) s h is p = let rest = any_mapped P f stops k s (omega arith) is
    p in (suc rest.0, rest.1, omega (arith, rest.2), rest.3, rest.4)

-- a stop that is too late is entered too late
pub late_stop : (vehicle : ℕ) (s : PlannedStop) → longest < s.second → longest < second_of (stop_command vehicle s)
late_stop vehicle s late = cond_both s.pick (Pickup vehicle s.rider s.second) (Dropoff vehicle s.rider s.second) (λ (c : Command). longest < second_of c)
    (λ e. late) (λ e. late)

-- a stop that comes in time is entered in time
pub stop_in_time : (vehicle : ℕ) (s : PlannedStop) → s.second ≤ longest → IsInTime (stop_command vehicle s)
stop_in_time vehicle s le = cond_both s.pick (Pickup vehicle s.rider s.second) (Dropoff vehicle s.rider s.second) IsInTime (λ e. le) (λ e. le)

-- what is due comes in time
pub due_in_time : (vehicle now : ℕ) (stops : List PlannedStop) → now ≤ longest → All IsInTime (map (stop_command vehicle) (due now stops))
due_in_time vehicle now [] h = All-nil IsInTime
due_in_time vehicle now (s ∷ stops) h = search (rules, leb_tells, All-cons, stop_in_time, (due_in_time vehicle now stops h))

pub told_in_time : (vehicle now : ℕ) (course : Course) (there : NodeAt) → now ≤ longest → there.second ≤ longest →
    All IsInTime (told_of now vehicle course there)
told_in_time vehicle now course there h in_time = All-push IsInTime (map (stop_command vehicle) (due now course.stops.items))
    (Report vehicle there.node there.second) (due_in_time vehicle now course.stops.items h) in_time

-- where all are answered, what holds of each answer holds of all
ok-zip : {X Y : Type 0} (E : Type 0) (R : X → Y → Type 0) (xs : List X) (ys : List Y) → AllZip (λ x (y : Result Y E). IfOk y (R x)) xs (map Ok ys) →
    AllZip R xs ys
ok-zip E R [] [] all = tt
ok-zip E R (x ∷ xs) (y ∷ ys) all = (all.0, ok-zip E R xs ys all.1)
ok-zip E R xs ys all = absurd all

pub all-ok : {X Y V : Type 0} (E : Type 0) (items : V → List Y) (R : X → Y → Type 0) (xs : List X) (r : Result V E) (ys : List (Result Y E))
    → MatchResult r (λ v. (zs : List Y) × (ys ≡ map Ok zs) × (items v ≡ zs)) (λ e. Contains ys (Err e)) → AllZip (λ x y. IfOk y (R x)) xs ys →
    IfOk r (λ v. AllZip R xs (items v))
all-ok E items R xs (Ok v) ys (zs, is, same) all = subst (AllZip R xs) (sym same) (ok-zip E R xs zs (subst (AllZip (λ x y. IfOk y (R x)) xs) is all))
all-ok E items R xs (Err e) ys found all = tt

-- two facts of what went well
pub if_ok_and : {X E : Type 0} (r : Result X E) (A B : X → Type 0) → IfOk r A → IfOk r B → IfOk r (λ x. A x × B x)
if_ok_and (Ok x) A B a b = (a, b)
if_ok_and (Err e) A B a b = tt

-- what follows from what is given
pub if_ok_map : {X E : Type 0} (r : Result X E) (A B : X → Type 0) → IfOk r A → ((x : X) → A x → B x) → IfOk r B
if_ok_map (Ok x) A B a b = b x a
if_ok_map (Err e) A B a b = tt

pub if_err_map : {X E : Type 0} (r : Result X E) (A B : E → Type 0) → IfErr r A → ((e : E) → A e → B e) → IfErr r B
if_err_map (Ok x) A B a b = tt
if_err_map (Err e) A B a b = b e a
