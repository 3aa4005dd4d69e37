-- How a register finds and changes its riders and vehicles.
use Rattle.std.proofs.Common.{
  ◌≡◌,
  ℕ,
  ◌+◌,
  ◌<◌,
  ◌≤◌,
  Bool,
  true,
  false,
  cond,
  eqb,
  List,
  [],
  ◌∷◌,
  ◌++◌,
  length,
  get_or,
  drop,
  take,
  map,
  set,
  Option,
  None,
  Some,
  Result,
  Ok,
  Err,
  refl,
  sym,
  ap,
  subst,
  ◌∙◌,
  inl,
  inr,
  arith,
  MatchOption,
  MatchResult,
  position,
  is_some,
}
use Rattle.request_book.proofs.Common.{
  take_more,
  map-append,
  changed_at,
  nat_tests,
  cond-false,
  list_any,
  IsBinarySearchResult,
  cases_lt,
  at_drop_more,
  drop_all,
  searched,
  look_up,
  placed,
  without,
  KeysRise,
  KeysDiffer,
  first_of,
  BookRefusal,
}
use Rattle.std.proofs.lemmas.List.{get_or_default}
use Rattle.std.specs.Ordering.{nat_cmp}
use Rattle.std.specs.List.{remove, insert}
use Rattle.request_book.proofs.lemmas.values.KeyedLemmas.{
  look_up-position,
  look_up-list_any,
  look_up-take,
  pairs_from_rise,
  insert-placed,
  set-changed_at,
  changed_at-absent,
  remove-without_key,
  look_up-at,
  look_up-nil,
  look_up-there,
  without_key-absent,
  look_up-nowhere,
  KeysDiffer-from_rise,
}

-- the first refusal is the first of the rest after one that doesn't hold
pub first_of-more : (xs : List (Option BookRefusal)) (i : ℕ) (d : Option BookRefusal) → i < length xs → get_or xs i d ≡ None →
    first_of (drop (i + 1) xs) ≡ first_of (drop i xs)
unfolding first_of
first_of-more xs i d in' none =
    sym (at_drop_more first_of xs i d in' ∙ ap (λ o. first_of (o ∷ drop (i + 1) xs)) none)

pub first_of-here : (xs : List (Option BookRefusal)) (i : ℕ) (d : Option BookRefusal) → i < length xs → is_some (get_or xs i d) ≡ true →
    first_of (drop i xs) ≡ get_or xs i d
unfolding first_of
first_of-here xs i d in' holds =
    let one : first_of (get_or xs i d ∷ drop (i + 1) xs) ≡ get_or xs i d = grind arith in
    at_drop_more first_of xs i d in' ∙ one

pub first_of-all : (xs : List (Option BookRefusal)) (i : ℕ) → length xs ≤ i → first_of (drop i xs) ≡ None
unfolding first_of
first_of-all xs i past = ap first_of (drop_all i xs past)

-- what a look-up among the keys answers
module _ {X : Type 0} (key : X → ℕ) (k : ℕ) (t : ℕ → Bool) (tests : (j : ℕ) → t j ≡ eqb j k) (xs : List X) (differ : KeysDiffer key xs) where
  pub found_by_keys : (keys : List ℕ) (r : Option ℕ) → keys ≡ map key xs → r ≡ position t keys → is_some r ≡ list_any t keys
      → MatchOption r (look_up key k xs ≡ None) (λ at. (at < length xs) × ((d : X) → look_up key k xs ≡ Some (get_or xs at d)))
  found_by_keys keys None e at any =
      let none : is_some (look_up key k xs) ≡ false = sym (look_up-list_any key k t tests xs) ∙ sym (ap (list_any t) e) ∙ sym any in
      grind arith
  found_by_keys keys (Some i) e at any =
      let found = look_up-position key k t tests xs i differ (sym (ap (position t) e) ∙ sym at) in
      (found.0, found.1)

  -- a write at the place that the keys tell, and no write where they tell none
  pub write_found : (f : X → X) (keys : List ℕ) (i : ℕ) (x y : X) → keys ≡ map key xs → Some i ≡ position t keys → x ≡ get_or xs i x → y ≡ f x →
      set xs i y ≡ changed_at key k f xs
  write_found f keys i x y e at read wrote =
      let found = look_up-position key k t tests xs i differ (sym (ap (position t) e) ∙ sym at) in
      ap (set xs i) (wrote ∙ ap f read) ∙ set-changed_at key f k i xs x differ found.0 (found.2 x)

  pub write_none : (f : X → X) (keys : List ℕ) → keys ≡ map key xs → None ≡ position t keys → false ≡ list_any t keys → xs ≡ changed_at key k f xs
  write_none f keys e at any = sym (changed_at-absent key k f xs (found_by_keys keys None e at any))

-- what a binary search in numbers that rise answers
module _ (xs : List ℕ) (x : ℕ) (rise : KeysRise (λ n. n) xs) where
  pub sought : (r : Result ℕ ℕ) → IsBinarySearchResult (λ y. nat_cmp y x) xs r
      → MatchResult r (λ i. (i < length xs) × (get_or xs i 0 ≡ x)) (λ i. (i ≤ length xs) × ((k : ℕ) → k < i → get_or xs k 0 < x) ×
      ((k : ℕ) → i ≤ k → k < length xs → x < get_or xs k 0))
  sought r answer = searched xs x r answer (λ i j le in'. grind (arith, pairs_from_rise (λ n. n) xs rise i j 0))

  pub insert_sought : (i : ℕ) → IsBinarySearchResult (λ y. nat_cmp y x) xs (Err i) → insert xs i x ≡ placed (λ n. n) x xs
  insert_sought i answer = let at = sought (Err i) answer in insert-placed xs i x at.0 at.1 at.2

  pub without_sought : (i : ℕ) → IsBinarySearchResult (λ y. nat_cmp y x) xs (Err i) → without (λ n. n) x xs ≡ xs
  without_sought i answer =
      let at = sought (Err i) answer in
      without_key-absent (λ n. n) x xs (look_up-nowhere (λ n. n) x xs (λ j d in' e.
      let same = get_or_default xs j d 0 in' in
      elim (cases_lt j i) [ inl low ↦ omega (arith, at.1 j low, same) | inr high ↦ omega (arith, at.2 j high in', same) ]))

  pub present_sought : (i : ℕ) → IsBinarySearchResult (λ y. nat_cmp y x) xs (Ok i) → look_up (λ n. n) x xs ≡ Some x
  present_sought i answer =
      let at = sought (Ok i) answer in
      subst (λ j. look_up (λ n. n) j xs ≡ Some j) at.1 (look_up-at (λ n. n) i xs 0 (KeysDiffer-from_rise (λ n. n) xs rise) at.0)

  pub remove_sought : (i : ℕ) → IsBinarySearchResult (λ y. nat_cmp y x) xs (Ok i) → remove xs i ≡ without (λ n. n) x xs
  remove_sought i answer =
      let at = sought (Ok i) answer in
      remove-without_key (λ n. n) i x xs 0 (KeysDiffer-from_rise (λ n. n) xs rise) at.0 at.1

pub eqb_comm : (a b : ℕ) → eqb a b ≡ eqb b a
eqb_comm a b = grind (arith, nat_tests)

pub list_any-agree : {X : Type 0} (p q : X → Bool) → ((x : X) → p x ≡ q x) → (xs : List X) → list_any p xs ≡ list_any q xs
list_any-agree p q same [] = refl
list_any-agree p q same (x ∷ xs) = let head = same x in let tail = list_any-agree p q same xs in cc

-- a key that isn't listed is put last
pub inserted : (ks : List ℕ) (x : ℕ) → list_any (λ id. eqb id x) ks ≡ false → cond (list_any (λ id. eqb x id) ks) ks (ks ++ x ∷ []) ≡ ks ++ x ∷ []
inserted ks x none = cond-false (list_any (λ id. eqb x id) ks) ks (ks ++ x ∷ []) (list_any-agree (λ id. eqb x id) (λ id. eqb id x) (eqb_comm x) ks ∙ none)

-- keys that are listed one after the other
module _ {X : Type 0} (key : X → ℕ) (xs : List X) (i : ℕ) (x : X) (keys : List ℕ) (within : i < length xs) (read : x ≡ get_or xs i x)
    (was : keys ≡ map key (take i xs)) where
  pub listed-new : KeysDiffer key xs → list_any (λ j. eqb j (key x)) keys ≡ false
  listed-new differ =
      ap (list_any (λ j. eqb j (key x))) was
      ∙ look_up-list_any key (key x) (λ j. eqb j (key x)) (λ j. refl) (take i xs)
      ∙ ap is_some (ap (λ y. look_up key (key y) (take i xs)) read ∙ look_up-take key i xs x differ within)

  pub listed-more : (new : List ℕ) → new ≡ keys ++ key x ∷ [] → new ≡ map key (take (i + 1) xs)
  listed-more new is =
      is ∙ ap (λ ks. ks ++ key x ∷ []) was ∙ ap (λ y. map key (take i xs) ++ key y ∷ []) read
      ∙ sym (ap (map key) (take_more xs i x within) ∙ map-append key (take i xs) (get_or xs i x ∷ []))

-- a passenger is sought seat by seat
module _ {X : Type 0} (key : X → ℕ) where
  pub look_up-drop_more : (k i : ℕ) (xs : List X) (d : X) → i < length xs → (key (get_or xs i d) ≡ k → ⊥) →
      look_up key k (drop (i + 1) xs) ≡ look_up key k (drop i xs)
  look_up-drop_more k i xs d in' ne = sym (at_drop_more (look_up key k) xs i d in' ∙ look_up-there key k (get_or xs i d) (drop (i + 1) xs) ne)

  pub look_up-drop_all : (k i : ℕ) (xs : List X) → length xs ≤ i → look_up key k (drop i xs) ≡ None
  look_up-drop_all k i xs past = ap (look_up key k) (drop_all i xs past) ∙ look_up-nil key k
