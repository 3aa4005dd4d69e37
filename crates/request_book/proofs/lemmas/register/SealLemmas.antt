-- What a seal makes of the riders and the pool.
use Rattle.std.proofs.Common.{
  ◌≡◌,
  ℕ,
  ◌+◌,
  ◌<◌,
  ◌≤◌,
  cond,
  List,
  [],
  ◌∷◌,
  ◌++◌,
  length,
  get_or,
  take,
  drop,
  map,
  Option,
  Some,
  refl,
  sym,
  ap,
  ◌∙◌,
  is_some,
  arith,
  rules,
}
use Rattle.request_book.proofs.Common.{take_more, at_drop_more, drop_all, filter_map-append, nat_tests, look_up, changed_at, KeysDiffer, changed_in_turn}
use Rattle.std.specs.List.{filter_map}
use Rattle.std.specs.Option.{option_to_list}
use Rattle.std.proofs.lemmas.List.{map-id}
use Rattle.request_book.proofs.lemmas.values.KeyedLemmas.{look_up-here, look_up-later}

pub filter_map-more : {X Y : Type 0} (h : X → Option Y) (xs : List X) (i : ℕ) (d : X) → i < length xs →
    filter_map h (take (i + 1) xs) ≡ filter_map h (take i xs) ++ option_to_list (h (get_or xs i d))
filter_map-more h xs i d in' = grind (arith, nat_tests, (take_more xs i d in'), (filter_map-append h (take i xs)))

-- a list that a loop makes, one element after the other
pub made-more : {X Y : Type 0} (h : X → Option Y) (xs : List X) (i : ℕ) (x : X) (o : Option Y) (old new : List Y) → i < length xs → x ≡ get_or xs i x →
    o ≡ h x → old ≡ filter_map h (take i xs) → new ≡ old ++ option_to_list o → new ≡ filter_map h (take (i + 1) xs)
made-more h xs i x o old new within read told was is = search (rules, filter_map-more)

module _ {X : Type 0} (key : X → ℕ) (f : X → X) where
  pub changed_in_turn-more : (ks : List ℕ) (i d : ℕ) (xs : List X) → i < length ks → changed_in_turn key f (drop i ks) xs ≡ changed_in_turn key f
      (drop (i + 1) ks) (changed_at key (get_or ks i d) f xs)
  unfolding changed_in_turn
  changed_in_turn-more ks i d xs in' = at_drop_more (λ js. changed_in_turn key f js xs) ks i d in'

  pub changed_in_turn-all : (ks : List ℕ) (i : ℕ) (xs : List X) → length ks ≤ i → changed_in_turn key f (drop i ks) xs ≡ xs
  unfolding changed_in_turn
  changed_in_turn-all ks i xs past = ap (λ js. changed_in_turn key f js xs) (drop_all i ks past)

  -- the change of the elements of these keys
  unfoldable pub marked : List ℕ → X → X
  marked ks x = cond (is_some (look_up (λ k. k) (key x) ks)) (f x) x

  -- a change that makes no difference the second time, of keys in turn, is the change of all these keys
  pub changed_in_turn-marked : ((x : X) → key (f x) ≡ key x) → ((x : X) → f (f x) ≡ f x) → (ks : List ℕ) (xs : List X) →
      changed_in_turn key f ks xs ≡ map (marked ks) xs
  unfolding changed_in_turn marked changed_at look_up
  changed_in_turn-marked keeps once [] xs = sym (map-id xs)
  changed_in_turn-marked keeps once (k ∷ ks) xs = changed_in_turn-marked keeps once ks (changed_at key k f xs) ∙ each xs
    where
      each : (xs : List X) → map (marked ks) (changed_at key k f xs) ≡ map (marked (k ∷ ks)) xs
      each [] = refl
      each (x ∷ xs) = grind (arith, nat_tests, keeps x, once x, each xs)

-- two changes that agree at each element of a list
pub map-agree : {X Y : Type 0} (key : X → ℕ) (f g : X → Y) (xs : List X) → KeysDiffer key xs → ((k : ℕ) (x : X) → look_up key k xs ≡ Some x → f x ≡ g x) →
    map f xs ≡ map g xs
unfolding KeysDiffer
map-agree key f g [] differ same = refl
map-agree key f g (x ∷ xs) differ same =
    let head = same (key x) x (look_up-here key (key x) x xs refl) in
    let tail = map-agree key f g xs differ.1 (λ k y found. same k y (look_up-later key k x xs y differ.0 found)) in
    cc
