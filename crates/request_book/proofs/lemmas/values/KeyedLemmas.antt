-- What the words on lists with keys come to.
use Rattle.std.proofs.Common.{
  ◌≡◌,
  ℕ,
  zero,
  suc,
  ◌+◌,
  ◌<◌,
  ◌≤◌,
  Bool,
  cond,
  eqb,
  ltb,
  List,
  [],
  ◌∷◌,
  ◌++◌,
  length,
  get_or,
  set,
  map,
  take,
  Option,
  None,
  Some,
  refl,
  sym,
  ap,
  subst,
  ◌∙◌,
  inl,
  inr,
  arith,
  option_map,
  option_and_then,
  position,
  is_some,
  count_by,
  rules,
}
use Rattle.request_book.proofs.Common.{
  cons_option,
  list_any,
  IsStrictlyIncreasing,
  length-map,
  position-Some,
  sum_by-cons,
  All-nil,
  All-cons,
  All-head,
  All-tail,
  cases_eq,
  cond_both,
  nat_tests,
  look_up,
  changed_at,
  without,
  AllAbove,
  KeysRise,
  KeysDiffer,
  placed,
  by_key,
}
use Rattle.std.specs.List.{filter_map, All, AllPairs, insert, remove}
use Rattle.std.proofs.lemmas.Bool.{eqb-true}
use Rattle.std.proofs.lemmas.List.{get_or-map}
use Rattle.std.proofs.lemmas.List.Kept.{AllPairs-cons, AllPairs-from_increasing}

-- what holds of a number and of every other number
pub at_each : (P : ℕ → Type 0) (k : ℕ) → P k → ((j : ℕ) → (k ≡ j → ⊥) → P j) → (j : ℕ) → P j
at_each P k here there j = elim (cases_eq k j) [ inl e ↦ subst P e here | inr ne ↦ there j ne ]

-- what holds of a list with what an option holds before it
pub cons_option_both : {Y : Type 0} (P : List Y → Type 0) (o : Option Y) (ys : List Y) → P ys → ((y : Y) → o ≡ Some y → P (y ∷ ys)) → P (cons_option o ys)
cons_option_both P None ys none some = none
cons_option_both P (Some y) ys none some = some y refl

module _ {X : Type 0} (key : X → ℕ) where
  pub look_up-here : (k : ℕ) (x : X) (xs : List X) → key x ≡ k → look_up key k (x ∷ xs) ≡ Some x
  unfolding look_up
  look_up-here k x xs e = grind (arith, nat_tests)

  pub look_up-there : (k : ℕ) (x : X) (xs : List X) → (key x ≡ k → ⊥) → look_up key k (x ∷ xs) ≡ look_up key k xs
  unfolding look_up
  look_up-there k x xs ne = grind (arith, nat_tests)

  pub look_up-nil : (k : ℕ) → look_up key k [] ≡ None
  unfolding look_up
  look_up-nil k = refl

  -- what is found has the key
  pub look_up-key : (k : ℕ) (xs : List X) (x : X) → look_up key k xs ≡ Some x → key x ≡ k
  unfolding look_up
  look_up-key k [] x e = absurd cc
  look_up-key k (y ∷ ys) x e = grind (arith, nat_tests, look_up-key k ys x)

  -- where a key stands once, what is found behind the first element is found
  pub look_up-later : (k : ℕ) (x : X) (xs : List X) (y : X) → look_up key (key x) xs ≡ None → look_up key k xs ≡ Some y → look_up key k (x ∷ xs) ≡ Some y
  unfolding look_up
  look_up-later k x xs y none found = grind (arith, nat_tests)

  pub AllAbove-lower : (j k : ℕ) (xs : List X) → j ≤ k → AllAbove key k xs → AllAbove key j xs
  unfolding AllAbove
  AllAbove-lower j k [] le all = tt
  AllAbove-lower j k (x ∷ xs) le all = (omega (arith, all.0), AllAbove-lower j k xs le all.1)

  -- below all keys nothing is found
  pub look_up-below : (j k : ℕ) (xs : List X) → j ≤ k → AllAbove key k xs → look_up key j xs ≡ None
  unfolding AllAbove look_up
  look_up-below j k [] le all = refl
  look_up-below j k (x ∷ xs) le all = grind (arith, nat_tests, all.0, look_up-below j k xs le all.1)

  pub KeysDiffer-from_rise : (xs : List X) → KeysRise key xs → KeysDiffer key xs
  unfolding KeysRise KeysDiffer
  KeysDiffer-from_rise [] up = tt
  KeysDiffer-from_rise (x ∷ xs) up = (look_up-below (key x) (key x) xs (omega arith) up.0, KeysDiffer-from_rise xs up.1)

  -- lists by rising key in which the same is found are the same
  pub same_from_look_up : (xs ys : List X) → KeysRise key xs → KeysRise key ys → ((k : ℕ) → look_up key k xs ≡ look_up key k ys) → xs ≡ ys
  unfolding KeysRise look_up
  same_from_look_up [] [] up vp same = refl
  same_from_look_up [] (y ∷ ys) up vp same = let both = same (key y) in grind (arith, nat_tests)
  same_from_look_up (x ∷ xs) [] up vp same = let both = same (key x) in grind (arith, nat_tests)
  same_from_look_up (x ∷ xs) (y ∷ ys) up vp same =
      let left = same (key x) in
      let right = same (key y) in
      let after_x : (k : ℕ) → k ≤ key x → look_up key k xs ≡ None = λ k le. look_up-below k (key x) xs le up.0 in
      let after_y : (k : ℕ) → k ≤ key y → look_up key k ys ≡ None = λ k le. look_up-below k (key y) ys le vp.0 in
      let head : x ≡ y = grind (arith, nat_tests, after_x (key y), after_y (key x)) in
      let tail = same_from_look_up xs ys up.1 vp.1 (λ k. let both = same k in let e = ap key head in grind (arith, nat_tests, after_x k, after_y k)) in
      cc

  pub look_up-placed_here : (k : ℕ) (x : X) (xs : List X) → key x ≡ k → look_up key k xs ≡ None → look_up key k (placed key x xs) ≡ Some x
  unfolding look_up placed
  look_up-placed_here k x [] e none = grind (arith, nat_tests)
  look_up-placed_here k x (y ∷ ys) e none = grind (arith, nat_tests, look_up-placed_here k x ys e)

  pub look_up-placed_there : (k : ℕ) (x : X) (xs : List X) → (key x ≡ k → ⊥) → look_up key k (placed key x xs) ≡ look_up key k xs
  unfolding look_up placed
  look_up-placed_there k x [] ne = grind (arith, nat_tests)
  look_up-placed_there k x (y ∷ ys) ne = grind (arith, nat_tests, look_up-placed_there k x ys ne)

  AllAbove-placed : (k : ℕ) (x : X) (xs : List X) → k < key x → AllAbove key k xs → AllAbove key k (placed key x xs)
  unfolding AllAbove placed
  AllAbove-placed k x [] lt all = (lt, tt)
  AllAbove-placed k x (y ∷ ys) lt all = cond_both (ltb (key x) (key y)) (x ∷ y ∷ ys) (y ∷ placed key x ys) (AllAbove key k) (λ b. (lt, all))
      (λ b. (all.0, AllAbove-placed k x ys lt all.1))

  pub KeysRise-placed : (x : X) (xs : List X) → KeysRise key xs → look_up key (key x) xs ≡ None → KeysRise key (placed key x xs)
  unfolding KeysRise AllAbove look_up placed
  KeysRise-placed x [] up none = (tt, tt)
  KeysRise-placed x (y ∷ ys) up none = search (rules, cond_both, nat_tests, AllAbove-lower, AllAbove-placed, (KeysRise-placed x ys up.1))

  -- ys is xs by rising key: it rises, and the same is found in it
  pub record IsOrderOf (xs ys : List X) : Type 0 where
    pub rise : KeysRise key ys
    pub found : (k : ℕ) → look_up key k ys ≡ look_up key k xs

  pub by_key-order : (xs : List X) → KeysDiffer key xs → IsOrderOf xs (by_key key xs)
  unfolding KeysDiffer by_key KeysRise look_up
  by_key-order [] d = record { rise = tt; found = λ k. refl }
  by_key-order (x ∷ xs) d = search (rules, KeysRise-placed, nat_tests, look_up-placed_here, look_up-placed_there, (by_key-order xs d.1))

  length-placed : (x : X) (xs : List X) → length (placed key x xs) ≡ length xs + 1
  unfolding placed
  length-placed x [] = omega arith
  length-placed x (y ∷ ys) = grind (arith, nat_tests, length-placed x ys)

  pub length-by_key : (xs : List X) → length (by_key key xs) ≡ length xs
  unfolding by_key
  length-by_key [] = refl
  length-by_key (x ∷ xs) = omega (arith, length-placed x (by_key key xs), length-by_key xs)

  -- one more at the end
  pub look_up-push : (k : ℕ) (x : X) (xs : List X) → look_up key k (xs ++ x ∷ []) ≡ cond (is_some (look_up key k xs)) (look_up key k xs)
      (look_up key k (x ∷ []))
  unfolding look_up
  look_up-push k x [] = refl
  look_up-push k x (y ∷ ys) = grind (arith, nat_tests, look_up-push k x ys)

  pub look_up-push_here : (k : ℕ) (x : X) (xs : List X) → key x ≡ k → look_up key k xs ≡ None → look_up key k (xs ++ x ∷ []) ≡ Some x
  look_up-push_here k x xs e none = grind (arith, look_up-push k x xs, look_up-here k x [])

  pub look_up-push_there : (k : ℕ) (x : X) (xs : List X) → (key x ≡ k → ⊥) → look_up key k (xs ++ x ∷ []) ≡ look_up key k xs
  look_up-push_there k x xs ne = grind (arith, look_up-push k x xs, look_up-there k x [] ne, look_up-nil k)

  pub look_up-push_found : (k : ℕ) (x y : X) (xs : List X) → look_up key k xs ≡ Some y → look_up key k (xs ++ x ∷ []) ≡ Some y
  look_up-push_found k x y xs found = grind (arith, look_up-push k x xs)

  pub KeysDiffer-push : (x : X) (xs : List X) → KeysDiffer key xs → look_up key (key x) xs ≡ None → KeysDiffer key (xs ++ x ∷ [])
  unfolding KeysDiffer look_up
  KeysDiffer-push x [] d none = (refl, tt)
  KeysDiffer-push x (y ∷ ys) d none = (grind (arith, nat_tests, d.0, look_up-push_there (key y) x ys), KeysDiffer-push x ys d.1 (grind (arith, nat_tests)))

  -- a change that keeps keys
  pub look_up-map : (f : X → X) (keeps : (x : X) → key (f x) ≡ key x) (k : ℕ) (xs : List X) → look_up key k (map f xs) ≡ option_map f (look_up key k xs)
  unfolding look_up
  look_up-map f keeps k [] = refl
  look_up-map f keeps k (x ∷ xs) = grind (arith, nat_tests, keeps x, look_up-map f keeps k xs)

  pub KeysDiffer-map : (f : X → X) (keeps : (x : X) → key (f x) ≡ key x) (xs : List X) → KeysDiffer key xs → KeysDiffer key (map f xs)
  unfolding KeysDiffer
  KeysDiffer-map f keeps [] d = tt
  KeysDiffer-map f keeps (x ∷ xs) d = search (rules, look_up-map, option_map, (KeysDiffer-map f keeps xs d.1))

  AllAbove-map : (f : X → X) (keeps : (x : X) → key (f x) ≡ key x) (k : ℕ) (xs : List X) → AllAbove key k xs → AllAbove key k (map f xs)
  unfolding AllAbove
  AllAbove-map f keeps k [] all = tt
  AllAbove-map f keeps k (x ∷ xs) all = (omega (arith, keeps x, all.0), AllAbove-map f keeps k xs all.1)

  pub KeysRise-map : (f : X → X) (keeps : (x : X) → key (f x) ≡ key x) (xs : List X) → KeysRise key xs → KeysRise key (map f xs)
  unfolding KeysRise
  KeysRise-map f keeps [] up = tt
  KeysRise-map f keeps (x ∷ xs) up = (rw (keeps x) (AllAbove-map f keeps (key x) xs up.0), KeysRise-map f keeps xs up.1)

  pub map-keys : (f : X → X) → ((x : X) → key (f x) ≡ key x) → (xs : List X) → map key (map f xs) ≡ map key xs
  map-keys f keeps [] = refl
  map-keys f keeps (x ∷ xs) = let head = keeps x in let tail = map-keys f keeps xs in cc

  -- without a key
  pub look_up-without_here : (k : ℕ) (xs : List X) → look_up key k (without key k xs) ≡ None
  unfolding look_up without
  look_up-without_here k [] = refl
  look_up-without_here k (x ∷ xs) = grind (arith, nat_tests, look_up-without_here k xs)

  pub look_up-without_there : (k j : ℕ) (xs : List X) → (k ≡ j → ⊥) → look_up key j (without key k xs) ≡ look_up key j xs
  unfolding look_up without
  look_up-without_there k j [] ne = refl
  look_up-without_there k j (x ∷ xs) ne = grind (arith, nat_tests, look_up-without_there k j xs ne)

  pub without_key-absent : (k : ℕ) (xs : List X) → look_up key k xs ≡ None → without key k xs ≡ xs
  unfolding look_up without
  without_key-absent k [] none = refl
  without_key-absent k (x ∷ xs) none = grind (arith, nat_tests, without_key-absent k xs)

  AllAbove-without : (k j : ℕ) (xs : List X) → AllAbove key k xs → AllAbove key k (without key j xs)
  unfolding AllAbove without
  AllAbove-without k j [] all = tt
  AllAbove-without k j (x ∷ xs) all = search (rules, cond_both, without, (AllAbove-without k j xs all.1))

  pub KeysRise-without : (j : ℕ) (xs : List X) → KeysRise key xs → KeysRise key (without key j xs)
  unfolding KeysRise without
  KeysRise-without j [] up = tt
  KeysRise-without j (x ∷ xs) up = search (rules, cond_both, without, AllAbove-without, (KeysRise-without j xs up.1))

  pub KeysDiffer-without : (j : ℕ) (xs : List X) → KeysDiffer key xs → KeysDiffer key (without key j xs)
  unfolding KeysDiffer without
  KeysDiffer-without j [] d = tt
  KeysDiffer-without j (x ∷ xs) d = search (rules, cond_both, without, look_up-without_there, nat_tests, (KeysDiffer-without j xs d.1))

  -- whether something is found, as a test of the keys
  pub look_up-list_any : (k : ℕ) (t : ℕ → Bool) (tests : (j : ℕ) → t j ≡ eqb j k) (xs : List X) → list_any t (map key xs) ≡ is_some (look_up key k xs)
  unfolding look_up
  look_up-list_any k t tests [] = refl
  look_up-list_any k t tests (x ∷ xs) = grind (arith, nat_tests, tests (key x), look_up-list_any k t tests xs)

  -- the element at a place is found by its key
  pub look_up-at : (i : ℕ) (xs : List X) (d : X) → KeysDiffer key xs → i < length xs → look_up key (key (get_or xs i d)) xs ≡ Some (get_or xs i d)
  unfolding KeysDiffer
  look_up-at i [] d differ in' = absurd (omega arith)
  look_up-at zero (x ∷ xs) d differ in' = look_up-here (key x) x xs refl
  look_up-at (suc i) (x ∷ xs) d differ in' = look_up-later _ x xs _ differ.0 (look_up-at i xs d differ.1 (omega arith))

  -- before its own place an element isn't found
  pub look_up-take : (i : ℕ) (xs : List X) (d : X) → KeysDiffer key xs → i < length xs → look_up key (key (get_or xs i d)) (take i xs) ≡ None
  unfolding KeysDiffer look_up
  look_up-take i [] d differ in' = absurd (omega arith)
  look_up-take zero (x ∷ xs) d differ in' = refl
  look_up-take (suc i) (x ∷ xs) d differ in' = search (rules, nat_tests, look_up-at, (look_up-take i xs d differ.1))

  -- where the first of the keys that is k stands, there stands the element of the key k
  pub look_up-position : (k : ℕ) (t : ℕ → Bool) (tests : (j : ℕ) → t j ≡ eqb j k) (xs : List X) (i : ℕ) → KeysDiffer key xs → position t (map key xs) ≡ Some i →
      (i < length xs) × ((d : X) → look_up key k xs ≡ Some (get_or xs i d)) × ((d : X) → key (get_or xs i d) ≡ k)
  look_up-position k t tests xs i differ at =
      let within : i < length xs = omega (arith, length-map xs key, (position-Some t (map key xs) i 0 at).0) in
      let named : (d : X) → key (get_or xs i d) ≡ k =
      λ d. let passes = (position-Some t (map key xs) i (key d) at).1 in
      sym (get_or-map key xs i d (key d) within) ∙ eqb-true _ k (sym (tests _) ∙ passes) in
      (within, λ d. subst (λ j. look_up key j xs ≡ Some (get_or xs i d)) (named d) (look_up-at i xs d differ within), named)

  -- what isn't found isn't changed
  pub changed_at-absent : (k : ℕ) (f : X → X) (xs : List X) → look_up key k xs ≡ None → changed_at key k f xs ≡ xs
  unfolding look_up changed_at
  changed_at-absent k f [] none = refl
  changed_at-absent k f (x ∷ xs) none = grind (arith, nat_tests, changed_at-absent k f xs)

  -- a write at a place changes the element of that key
  pub set-changed_at : (f : X → X) (k i : ℕ) (xs : List X) (d : X) → KeysDiffer key xs → i < length xs → key (get_or xs i d) ≡ k →
      set xs i (f (get_or xs i d)) ≡ changed_at key k f xs
  unfolding KeysDiffer changed_at
  set-changed_at f k i [] d differ in' e = absurd (omega arith)
  set-changed_at f k zero (x ∷ xs) d differ in' e = grind (arith, nat_tests, differ.0, changed_at-absent k f xs)
  set-changed_at f k (suc i) (x ∷ xs) d differ in' e = search (rules, nat_tests, look_up-at, (set-changed_at f k i xs d differ.1))

  -- taking out at a place is taking out the key that stands there
  pub remove-without_key : (i k : ℕ) (xs : List X) (d : X) → KeysDiffer key xs → i < length xs → key (get_or xs i d) ≡ k → remove xs i ≡ without key k xs
  unfolding KeysDiffer without
  remove-without_key i k [] d differ in' e = absurd (omega arith)
  remove-without_key zero k (x ∷ xs) d differ in' e = grind (arith, nat_tests, differ.0, without_key-absent k xs)
  remove-without_key (suc i) k (x ∷ xs) d differ in' e = search (rules, nat_tests, look_up-at, (remove-without_key i k xs d differ.1))

  pub change : (k : ℕ) → (X → X) → X → X
  change k f x = cond (eqb (key x) k) (f x) x

  change-keeps : (k : ℕ) (f : X → X) → ((x : X) → key (f x) ≡ key x) → (x : X) → key (change k f x) ≡ key x
  unfolding change
  change-keeps k f keeps x = grind (arith, nat_tests, keeps x)

  pub look_up-changed_here : (k : ℕ) (f : X → X) (keeps : (x : X) → key (f x) ≡ key x) (xs : List X) →
      look_up key k (changed_at key k f xs) ≡ option_map f (look_up key k xs)
  unfolding look_up changed_at
  look_up-changed_here k f keeps [] = refl
  look_up-changed_here k f keeps (x ∷ xs) = grind (arith, nat_tests, keeps x, look_up-changed_here k f keeps xs)

  pub look_up-changed_there : (k j : ℕ) (f : X → X) (keeps : (x : X) → key (f x) ≡ key x) (xs : List X) → (k ≡ j → ⊥) →
      look_up key j (changed_at key k f xs) ≡ look_up key j xs
  unfolding look_up changed_at
  look_up-changed_there k j f keeps [] ne = refl
  look_up-changed_there k j f keeps (x ∷ xs) ne = grind (arith, nat_tests, keeps x, look_up-changed_there k j f keeps xs ne)

  pub KeysDiffer-changed_at : (k : ℕ) (f : X → X) (keeps : (x : X) → key (f x) ≡ key x) (xs : List X) → KeysDiffer key xs →
      KeysDiffer key (changed_at key k f xs)
  unfolding changed_at change
  KeysDiffer-changed_at k f keeps xs d = KeysDiffer-map (change k f) (change-keeps k f keeps) xs d

  pub KeysRise-changed_at : (k : ℕ) (f : X → X) (keeps : (x : X) → key (f x) ≡ key x) (xs : List X) → KeysRise key xs → KeysRise key (changed_at key k f xs)
  unfolding changed_at change
  KeysRise-changed_at k f keeps xs d = KeysRise-map (change k f) (change-keeps k f keeps) xs d

  pub length-changed_at : (k : ℕ) (f : X → X) (xs : List X) → length (changed_at key k f xs) ≡ length xs
  unfolding changed_at
  length-changed_at k f xs = length-map xs (λ x. cond (eqb (key x) k) (f x) x)

  pub map-changed_at : (k : ℕ) (f : X → X) (keeps : (x : X) → key (f x) ≡ key x) (xs : List X) → map key (changed_at key k f xs) ≡ map key xs
  unfolding changed_at change
  map-changed_at k f keeps xs = map-keys (change k f) (change-keeps k f keeps) xs

  -- what holds of each element holds of the one that is found, and the other way round
  pub All-look_up : (P : X → Type 0) (k : ℕ) (xs : List X) (x : X) → All P xs → look_up key k xs ≡ Some x → P x
  All-look_up P k [] x all found = let none = look_up-nil k in absurd cc
  All-look_up P k (y ∷ ys) x all found = grind (
    arith,
    nat_tests,
    (look_up-here k y ys),
    (All-head P y ys all),
    (All-tail P y ys all),
    (look_up-there k y ys),
    (All-look_up P k ys x),
  )

  pub All-from_look_up : (P : X → Type 0) (xs : List X) → KeysDiffer key xs → ((k : ℕ) (x : X) → look_up key k xs ≡ Some x → P x) → All P xs
  unfolding KeysDiffer
  All-from_look_up P [] d each = All-nil P
  All-from_look_up P (x ∷ xs) d each =
      All-cons P x xs (each (key x) x (look_up-here (key x) x xs refl)) (All-from_look_up P xs d.1 (λ k y found. each k y (look_up-later k x xs y d.0 found)))

  pub All-changed_at : (P : X → Type 0) (k : ℕ) (f : X → X) (xs : List X) → KeysDiffer key xs → All P xs →
      ((x : X) → look_up key k xs ≡ Some x → P x → P (f x)) → All P (changed_at key k f xs)
  unfolding changed_at KeysDiffer
  All-changed_at P k f [] d all each = All-nil P
  All-changed_at P k f (x ∷ xs) d all each = grind (
    arith,
    nat_tests,
    (All-head P x xs all),
    (All-cons P),
    cond_both,
    (look_up-here k x xs),
    eqb-true,
    (All-tail P x xs all),
    (look_up-later k x xs),
    (All-changed_at P k f xs),
  )

  -- keys as numbers
  pub look_up-keys : (k : ℕ) (xs : List X) → look_up (λ n. n) k (map key xs) ≡ option_map key (look_up key k xs)
  unfolding look_up
  look_up-keys k [] = refl
  look_up-keys k (x ∷ xs) = grind (arith, nat_tests, look_up-keys k xs)

  pub differ-keys : (xs : List X) → KeysDiffer key xs → KeysDiffer (λ n. n) (map key xs)
  unfolding KeysDiffer
  differ-keys [] d = tt
  differ-keys (x ∷ xs) d = (look_up-keys (key x) xs ∙ ap (option_map key) d.0, differ-keys xs d.1)

-- a list that is made element by element, where a made element keeps the key
module _ {X Y : Type 0} (key : X → ℕ) (name : Y → ℕ) (h : X → Option Y) (keeps : (x : X) (y : Y) → h x ≡ Some y → name y ≡ key x) where
  AllAbove-filter_map : (k : ℕ) (xs : List X) → AllAbove key k xs → AllAbove name k (filter_map h xs)
  unfolding AllAbove
  AllAbove-filter_map k [] all = tt
  AllAbove-filter_map k (x ∷ xs) all = search (rules, cons_option_both, (AllAbove-filter_map k xs all.1))

  pub KeysRise-filter_map : (xs : List X) → KeysRise key xs → KeysRise name (filter_map h xs)
  unfolding KeysRise
  KeysRise-filter_map [] up = tt
  KeysRise-filter_map (x ∷ xs) up = search (rules, cons_option_both, AllAbove-filter_map, (KeysRise-filter_map xs up.1))

  pub look_up-filter_map : (k : ℕ) (xs : List X) → KeysDiffer key xs → look_up name k (filter_map h xs) ≡ option_and_then h (look_up key k xs)
  unfolding KeysDiffer look_up
  look_up-filter_map k [] d = refl
  look_up-filter_map k (x ∷ xs) d = grind (arith, nat_tests, d.0, keeps x, look_up-filter_map k xs d.1)

  pub KeysDiffer-filter_map : (xs : List X) → KeysDiffer key xs → KeysDiffer name (filter_map h xs)
  unfolding KeysDiffer
  KeysDiffer-filter_map [] d = tt
  KeysDiffer-filter_map (x ∷ xs) d = search (rules, cons_option_both, look_up-filter_map, option_and_then, (KeysDiffer-filter_map xs d.1))

-- what is made of the elements of keys that rise is what is made of all, put by rising key
module _ {X Y : Type 0} (key : X → ℕ) (name : Y → ℕ) (h : X → Option Y) (keeps : (x : X) (y : Y) → h x ≡ Some y → name y ≡ key x)
    (ids : List ℕ) (xs : List X) (up : KeysRise (λ id. id) ids) (differ : KeysDiffer key xs)
    (listed : (k : ℕ) (x : X) (y : Y) → look_up key k xs ≡ Some x → h x ≡ Some y → look_up (λ id. id) k ids ≡ Some k) where
  abbrev pub made : ℕ → Option Y
  made k = option_and_then h (look_up key k xs)

  made-named : (k : ℕ) (y : Y) → made k ≡ Some y → name y ≡ k
  made-named k y e = search (rules, option_and_then, look_up-key)

  made-listed : (k : ℕ) → option_and_then made (look_up (λ id. id) k ids) ≡ made k
  made-listed k = grind (arith, listed k, look_up-key (λ id. id) k ids)

  pub made-rise : KeysRise name (filter_map made ids)
  made-rise = KeysRise-filter_map (λ id. id) name made made-named ids up

  pub made-found : (k : ℕ) → look_up name k (filter_map made ids) ≡ made k
  made-found k = look_up-filter_map (λ id. id) name made made-named k ids (KeysDiffer-from_rise (λ id. id) ids up) ∙ made-listed k

  pub filter_map-by_key : filter_map made ids ≡ by_key name (filter_map h xs)
  filter_map-by_key =
      let order = by_key-order name (filter_map h xs) (KeysDiffer-filter_map key name h keeps xs differ) in
      same_from_look_up name (filter_map made ids) (by_key name (filter_map h xs)) made-rise order.rise
      (λ k. made-found k ∙ sym (order.found k ∙ look_up-filter_map key name h keeps k xs differ))

-- how many are made
pub length-filter_map : {X Y : Type 0} (h : X → Option Y) (xs : List X) → length (filter_map h xs) ≡ count_by (λ x. is_some (h x)) xs
length-filter_map h [] = refl
length-filter_map h (x ∷ xs) = grind (arith, length-filter_map h xs, sum_by-cons (λ y. cond (is_some (h y)) 1 0) x xs)

-- numbers that rise
module _ {X : Type 0} (key : X → ℕ) where
  AllAbove-all : (k : ℕ) (xs : List X) → AllAbove key k xs → All (λ x. k < key x) xs
  unfolding AllAbove
  AllAbove-all k [] all = All-nil (λ x. k < key x)
  AllAbove-all k (x ∷ xs) all = All-cons (λ y. k < key y) x xs all.0 (AllAbove-all k xs all.1)

  -- each key is below every later one
  pub pairs_from_rise : (xs : List X) → KeysRise key xs → AllPairs (λ a b. key a < key b) xs
  unfolding KeysRise
  pairs_from_rise [] up = λ i j d lt in'. absurd (omega arith)
  pairs_from_rise (x ∷ xs) up = AllPairs-cons (λ a b. key a < key b) x xs (AllAbove-all (key x) xs up.0) (pairs_from_rise xs up.1)

  AllAbove-from : (k : ℕ) (xs : List X) → ((j : ℕ) → j < length xs → k < get_or (map key xs) j 0) → AllAbove key k xs
  unfolding AllAbove
  AllAbove-from k [] above = tt
  AllAbove-from k (x ∷ xs) above = (above 0 (omega arith), AllAbove-from k xs (λ j in'. above (suc j) (omega arith)))

  pub rise_from_increasing : (xs : List X) → IsStrictlyIncreasing (map key xs) → KeysRise key xs
  unfolding KeysRise
  rise_from_increasing [] up = tt
  rise_from_increasing (x ∷ xs) up =
      let far = AllPairs-from_increasing (map key (x ∷ xs)) up in (
        AllAbove-from (key x) xs (λ j in'. far 0 (suc j) 0 (omega arith) (omega (arith, length-map xs key))),
        rise_from_increasing xs
            (λ k in'. far (suc k) (suc (k + 1)) 0 (omega arith) (omega arith)),
      )

  -- a key that stands at no place isn't found
  pub look_up-nowhere : (k : ℕ) (xs : List X) → ((j : ℕ) (d : X) → j < length xs → key (get_or xs j d) ≡ k → ⊥) → look_up key k xs ≡ None
  look_up-nowhere k [] none = look_up-nil key k
  look_up-nowhere k (x ∷ xs) none =
      look_up-there key k x xs (none 0 x (omega arith)) ∙ look_up-nowhere k xs (λ j d in' e. none (suc j) d (omega arith) e)

-- a number put in where the smaller ones end stands by rising number
pub insert-placed : (xs : List ℕ) (i x : ℕ) → i ≤ length xs → ((k : ℕ) → k < i → get_or xs k 0 < x) → ((k : ℕ) → i ≤ k → k < length xs → x < get_or xs k 0) →
    insert xs i x ≡ placed (λ n. n) x xs
unfolding placed
insert-placed [] zero x le low high = refl
insert-placed [] (suc i) x le low high = absurd (omega arith)
insert-placed (y ∷ ys) zero x le low high = let gt = high 0 in grind (arith, nat_tests)
insert-placed (y ∷ ys) (suc i) x le low high =
    let rest = insert-placed ys i x (omega arith) (λ k h. low (suc k) (omega arith)) (λ k h l. high (suc k) (omega arith) (omega arith)) in
    let lt = low 0 in
    grind (arith, nat_tests)
